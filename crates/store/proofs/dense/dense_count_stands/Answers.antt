use Rattle.store.proofs.Density.{dense_count, dense_shape, shape_dense}
use Rattle.store.proofs.dense.dense_count_stands.Goals as goal

pub returns : goal.returns
returns c = record { counts = dense_count; shape = dense_shape; back = shape_dense }
