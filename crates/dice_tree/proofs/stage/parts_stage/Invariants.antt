use Rattle.std.proofs.Common.{◌≢◌}
use Rattle.dice_tree.specs.declared.stage.Stage.{Stage}
use Rattle.dice_tree.proofs.stage.parts_stage.Given as goal

abbrev pub invariant-loop-part : goal.invariant-loop-part
invariant-loop-part l = l.most ≢ Stage.Processes
