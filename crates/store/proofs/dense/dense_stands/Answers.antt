use Rattle.store.proofs.Density.{dense_empty, dense_fresh, dense_remove, dense_taken, dense_given}
use Rattle.store.proofs.dense.dense_stands.Goals as goal

pub returns : goal.returns
returns c = record { empty = dense_empty; fresh = dense_fresh; remove = dense_remove; taken = dense_taken; given = dense_given }
