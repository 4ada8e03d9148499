use Rattle.store.proofs.Density.{block_moves}
use Rattle.store.proofs.dense.block_moves_stands.Goals as goal

pub returns : goal.returns
returns c = block_moves
