use Rattle.std.proofs.Common.{◌≡◌, ◌-◌, ◌/◌, ◌≤◌}
use Rattle.store.specs.Held.{model, bounds}
use Rattle.scheduler.specs.Lists.{opened}
use Rattle.scheduler.specs.Outcomes.{Goes}
use Rattle.scheduler.proofs.slices.run_slices.Given as goal

abbrev pub invariant-loop-made : goal.invariant-loop-made
invariant-loop-made l = record {
  numbers : bounds l.st ≡ (l.words / 2, opened 5 (l.words / 2));
  within : l.made ≤ l.most;
  goes : Goes l.code.text.now l.code.words.now l.root (opened 5 (l.words / 2)) (model l.st) l.initial.paper l.paper l.printed l.made l.process;
}

abbrev pub decreases-loop-made : goal.decreases-loop-made
decreases-loop-made l = l.most - l.made
