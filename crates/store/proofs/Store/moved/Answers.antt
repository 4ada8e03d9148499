use Rattle.std.proofs.Common.{refl, arith}
use Rattle.store.specs.Held.{spent, shifts}
use Rattle.store.proofs.Store.moved.Goals as goal

pub returns : goal.returns
unfolding shifts spent
returns c = rw (← c.self.view_is) (record { is = refl; paid = omega arith })
