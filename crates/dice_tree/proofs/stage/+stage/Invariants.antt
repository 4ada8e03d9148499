use Rattle.std.proofs.Common.{◌≡◌}
use Rattle.dice_tree.proofs.stage.+stage.Given as goal

abbrev pub invariant-list_stage-loop-item : goal.invariant-list_stage-loop-item
invariant-list_stage-loop-item l = l.item-index ≡ 0 → l.most ≡ l.initial.most
