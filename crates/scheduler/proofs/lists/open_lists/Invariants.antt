use Rattle.std.proofs.Common.{◌≡◌}
use Rattle.store.specs.Held.{model, bounds}
use Rattle.scheduler.specs.Lists.{opened}
use Rattle.scheduler.proofs.lists.open_lists.Given as goal

abbrev pub invariant-loop-j : goal.invariant-loop-j
invariant-loop-j l = record {
  half : (bounds l.st).0 ≡ (bounds l.initial.st).0;
  live : (bounds l.st).1 ≡ opened l._j (bounds l.initial.st).0;
  after : model l.st ≡ model l.initial.st;
}
