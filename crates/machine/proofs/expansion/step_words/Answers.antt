use Rattle.std.proofs.Common.{Some, sym, ◌∙◌, arith, rules}
use Rattle.machine.specs.declared.frames.Frame.TheVariants.{Handles}
use Rattle.std.proofs.lemmas.Result.{err_from_is_err_and}
use Rattle.machine.proofs.Steps.{frame_tight}
use Rattle.machine.proofs.Expand.{next_on, pattern_beyond, expanded_on}
use Rattle.machine.proofs.expansion.step_words.Goals as goal

pub returns-then-expansion-ne0-2 : goal.returns-then-expansion-ne0-2
returns-then-expansion-ne0-2 t = rw (t.goes_to.ensures, t.start_words-next.ensures) (record { same = search rules; says = λ number r c k h. next_on t.args.expansion t.requires.control (omega arith) (λ e. omega arith) h })

pub returns-then-has_pattern : goal.returns-then-has_pattern
returns-then-has_pattern t = record { same = search rules; says = λ number r c k h. pattern_beyond t.args.expansion t.requires.control (omega arith) (omega arith) (rw (t.words-2.ensures, t.words.ensures) at (sym t.has_pattern.ensures) ∙ t.if-has_pattern.true) h }

pub returns-in_err-push_frame : goal.returns-in_err-push_frame
returns-in_err-push_frame t =
    let p = err_from_is_err_and t.from_residual.result t.from_residual.ensures.1 in
    rw (p.1, p.2) (record { same = search rules; says = λ number r c k h. frame_tight (Some (Handles t.args.process.stdin t.args.process.stdout)) t.in_err-push_frame.ensures.err h })

pub returns : goal.returns
returns t = rw t.goes_to-2.ensures (record { same = search rules; says = λ number r c k h. expanded_on t.args.expansion t.requires.control (omega arith) (omega arith) (rw (t.words-2.ensures, t.words.ensures) at (sym t.has_pattern.ensures) ∙ t.if-has_pattern.false) t.in_ok-push_frame.ensures.ok h })
