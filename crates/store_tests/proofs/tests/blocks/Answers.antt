use Rattle.std.proofs.Common.{ℕ, Bool, List, ap}
use Rattle.store.proofs.Density.{dense_empty, dense_by}
use Rattle.store_tests.proofs.tests.blocks.Goals as goal

pub two_blocks-requires : goal.two_blocks-requires
two_blocks-requires g c = dense_by _ _ (ap (λ (p : ℕ × List Bool). p.1) c.in-Some.ensures.numbers) (dense_empty _)
