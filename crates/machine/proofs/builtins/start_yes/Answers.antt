use Rattle.std.proofs.Common.{rules}
use Rattle.std.proofs.lemmas.Result.{err_from_is_err_and}
use Rattle.machine.proofs.Begin.{yes_begins, choice_tight}
use Rattle.machine.proofs.builtins.start_yes.Goals as goal

pub returns-in_err-push_choice : goal.returns-in_err-push_choice
returns-in_err-push_choice t =
    let p = err_from_is_err_and t.from_residual.result t.from_residual.ensures.1 in
    rw (p.1, p.2) (λ text code. record { same = search rules; says = λ number r c k h. choice_tight t.args.first t.requires.invoked (rw (t.words-list.ensures, t.line.ensures) at t.in_err-push_choice.ensures.err) h })

pub returns : goal.returns
returns t = rw t.goes_to.ensures (λ text code. record { same = search rules; says = λ number r c k h. yes_begins t.args.first t.requires.invoked (rw (t.words-list.ensures, t.line.ensures) at t.in_ok-push_choice.ensures.ok) (rw t.words-list.ensures at t.clear.ensures.after) h })
