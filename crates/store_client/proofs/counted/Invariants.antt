use Rattle.std.proofs.Common.{◌+◌, ◌*◌, ◌≤◌}
use Rattle.store.specs.Held.{spent}
use Rattle.store_client.proofs.counted.Given as goal

abbrev pub invariant-loop-x : goal.invariant-loop-x
invariant-loop-x l = spent l.st ≤ 128 * l.x-index + 64
