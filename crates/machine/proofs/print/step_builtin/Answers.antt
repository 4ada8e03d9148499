use Rattle.std.proofs.Common.{ap, ◌∙◌, arith, rules}
use Rattle.std.proofs.lemmas.Result.{err_from_is_err_and}
use Rattle.machine.specs.declared.process.Control.TheVariants.{AtBuiltin}
use Rattle.machine.proofs.Printing.{done_on, seq_done, seq_on, seq_tight, yes_on, yes_tight}
use Rattle.machine.proofs.print.step_builtin.Goals as goal

pub returns-in-Done : goal.returns-in-Done
returns-in-Done t = rw t.goes_to.ensures (λ text code. record { same = search rules; says = λ number r c k h. done_on t.in-Done.n (t.requires.control ∙ ap AtBuiltin t.in-Done.is) h })

pub returns-then-from-to : goal.returns-then-from-to
returns-then-from-to t = rw t.goes_to-then-from-to.ensures (λ text code. record { same = search rules; says = λ number r c k h. seq_done t.in-Seq.from t.in-Seq.to (t.requires.control ∙ ap AtBuiltin t.in-Seq.is) (omega arith) h })

pub returns-in_err-push_number-in-Seq : goal.returns-in_err-push_number-in-Seq
returns-in_err-push_number-in-Seq t =
    let p = err_from_is_err_and t.from_residual.result t.from_residual.ensures.1 in
    rw (p.1, p.2) (λ text code. record { same = search rules; says = λ number r c k h. seq_tight t.in-Seq.from t.in-Seq.to (t.requires.control ∙ ap AtBuiltin t.in-Seq.is) (omega arith) (rw t.text.ensures at t.in_err-push_number-in-Seq.ensures.err) h })

pub returns-in_ok-push_number-in-Seq : goal.returns-in_ok-push_number-in-Seq
returns-in_ok-push_number-in-Seq t = rw t.goes_to-in-Seq.ensures (λ text code. record { same = search rules; says = λ number r c k h. seq_on t.in-Seq.from t.in-Seq.to t.saturating_add.result (t.requires.control ∙ ap AtBuiltin t.in-Seq.is) (omega arith) t.saturating_add.ensures (rw t.text.ensures at t.in_ok-push_number-in-Seq.ensures.ok) h })

pub returns-in_err-append-in-Yes : goal.returns-in_err-append-in-Yes
returns-in_err-append-in-Yes t =
    let p = err_from_is_err_and t.from_residual-in_err-append-in-Yes.result t.from_residual-in_err-append-in-Yes.ensures.1 in
    rw (p.1, p.2) (λ text code. record { same = search rules; says = λ number r c k h. yes_tight (t.requires.control ∙ ap AtBuiltin t.in-Yes.is) (rw (t.text-in-Yes.ensures, t.line.ensures) at t.in_err-append-in-Yes.ensures.err) h })

pub returns-in_ok-append-in-Yes : goal.returns-in_ok-append-in-Yes
returns-in_ok-append-in-Yes t = rw t.goes_to-in-Yes.ensures (λ text code. record { same = search rules; says = λ number r c k h. yes_on (t.requires.control ∙ ap AtBuiltin t.in-Yes.is) (rw (t.text-in-Yes.ensures, t.line.ensures) at t.in_ok-append-in-Yes.ensures.ok) h })
