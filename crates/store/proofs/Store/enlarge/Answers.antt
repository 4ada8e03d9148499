use Rattle.std.proofs.Common.{length, ◌∙◌, arith}
use Rattle.segments.specs.Table.{strain}
use Rattle.store.specs.Fields.{fields}
use Rattle.store.specs.Held.{Sound, Held, pressed, spent}
use Rattle.store.proofs.StoreLaws.{same_count}
use Rattle.store.proofs.Growth.{shifted_model, shifted_lives}
use Rattle.store.proofs.Numbers.{opened_inv, opened_lists, opened_lives, opened_strain, opened_length, entry_cost}
use Rattle.store.proofs.Store.enlarge.Goals as goal

pub open-requires : goal.open-requires
open-requires c =
    let v : Sound (fields c.self.inside) = c.self.invariant in
    let e = rw (← c.self.view_is) at c.make_space.ensures in
    record { behind_table = omega (arith, e.space, v.side); in_bounds = omega (arith, v.ceil, v.side, v.long); in_front = λ k h. (v.within k (omega arith) h).0 }

pub invariant_of-self : goal.invariant_of-self
invariant_of-self c =
    let s = c.args.self.now in
    let u = fields c.self.inside in
    let v : Sound u = c.self.invariant in
    let e = rw (← c.self.view_is) at c.make_space.ensures in
    let z = e.shifted in
    rw c.open.ensures.after (opened_inv _ _ _ _ _ _ v e.space (rw (← z.half, ← z.total, ← same_count u.table s.table z.same) at c.requires.fits) (rw c.open.ensures.after at c.open.ensures.laid))

pub returns : goal.returns
unfolding Held spent
returns c =
    let s = c.args.self.now in
    let u = fields c.self.inside in
    let v : Sound u = c.self.invariant in
    let e = rw (← c.self.view_is) at c.make_space.ensures in
    let z = e.shifted in
    let k = same_count u.table s.table z.same in
    let fit = rw (← z.half, ← z.total, ← k) at c.requires.fits in
    let n = opened_length _ _ _ _ _ _ v e.space fit in
    rw c.open.ensures.after (record {
      held = opened_inv _ _ _ _ _ _ v e.space fit (rw c.open.ensures.after at c.open.ensures.laid);
      counts = (omega (arith, n, k), z.total);
      bounds = (z.half, rw (← shifted_lives s u v z, ← k) (opened_lives _ _ _ _ _ _ v e.space fit));
      same = opened_lists _ _ _ _ _ _ v e.space fit ∙ shifted_model s u v z;
      cost = entry_cost u.moved u.half u.low u.hi (length u.table.segments) _ (strain s.table) _ (pressed s 0) n e.cost
          (omega (arith, opened_strain _ _ _ _ _ _ v e.space fit, e.rest));
    })
