use Rattle.std.proofs.Common.{sym, ◌∙◌, rules}
use Rattle.std.proofs.lemmas.Result.{err_from_is_err_and}
use Rattle.machine.proofs.Steps.{tree_on, frame_tight, tree_beyond}
use Rattle.machine.proofs.step.step_tree.Goals as goal

pub returns-in_default : goal.returns-in_default
returns-in_default t = record { same = search rules; says = λ number r c k h. tree_beyond t.requires.tree (sym t.in_default.is ∙ t.next_of_tree.ensures) h }

pub returns-in_err-push_frame : goal.returns-in_err-push_frame
returns-in_err-push_frame t = let p = err_from_is_err_and t.from_residual.result t.from_residual.ensures.1 in rw (p.1, p.2) (record { same = search rules; says = λ number r c k h. frame_tight _ (t.in_err-push_frame.ensures.err) h })

pub returns : goal.returns
returns t = rw t.goes_to.ensures (record { same = search rules; says = λ number r c k h. tree_on _ t.requires.tree (sym t.in-Some.is ∙ t.next_of_tree.ensures) (t.in_ok-push_frame.ensures.ok) h })
