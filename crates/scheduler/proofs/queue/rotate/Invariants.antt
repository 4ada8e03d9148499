use Rattle.std.proofs.Common.{◌≡◌, [], get_or, set}
use Rattle.store.specs.Held.{model, bounds}
use Rattle.scheduler.specs.Queue.{shifted}
use Rattle.scheduler.proofs.queue.rotate.Given as goal

abbrev pub invariant-loop-i : goal.invariant-loop-i
invariant-loop-i l = record {
  same : bounds l.st ≡ bounds l.initial.st;
  after : model l.st ≡ set (model l.initial.st) 0 (shifted l.i (get_or (model l.initial.st) 0 []));
}
