use Rattle.store.proofs.Blocks.{Taken}
use Rattle.store.proofs.Store.fresh_block.Given as goal

abbrev pub invariant-loop-j : goal.invariant-loop-j
invariant-loop-j l = Taken l.initial.self l.self l._j
