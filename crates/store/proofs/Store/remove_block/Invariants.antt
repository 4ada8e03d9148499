use Rattle.store.proofs.Blocks.{Given}
use Rattle.store.proofs.Store.remove_block.Given as goal

abbrev pub invariant-loop-q : goal.invariant-loop-q
invariant-loop-q l = Given l.initial.self l.self l.i l.from l.k l.q
