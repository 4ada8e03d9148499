use Rattle.std.proofs.Common.{refl, arith}
use Rattle.store.specs.Fields.{fields}
use Rattle.store.specs.Held.{Sound}
use Rattle.store.proofs.StoreLaws.{spread_few, tidied, other_side, other_apart, rested}
use Rattle.store.proofs.Store.tidy.Goals as goal

pub overflow_mul-other : goal.overflow_mul-other
overflow_mul-other c = omega (arith, c.self.invariant.small)

pub overflow_sub-other : goal.overflow_sub-other
overflow_sub-other c = omega (arith, c.self.invariant.side)

pub evacuate-self-inside-requires : goal.evacuate-self-inside-requires
evacuate-self-inside-requires c =
    let p : Sound (fields c.self.inside) = c.self.invariant in
    let f = spread_few _ _ _ _ _ _ p in
    let o = other_side _ _ _ _ _ _ p in
    record { within = p.within; apart = other_apart _ _ _ _ _ _ p; behind_table = omega (arith, f, o, p.bound); in_bounds = omega (arith, o, p.long) }

pub invariant_of-self : goal.invariant_of-self
invariant_of-self c =
    let p : Sound (fields c.self.inside) = c.self.invariant in
    let e = c.evacuate-self-inside.ensures in
    tidied _ _ _ _ _ _ p _ _ _ e.laid e.lent e.same e.used e.all e.end (other_side _ _ _ _ _ _ p)

pub returns : goal.returns
returns c =
    let e = c.evacuate-self-inside.ensures in
    rw (← c.self.view_is) (record {
      shifted = record { half = refl; total = refl; same = e.same; used = e.used };
      space = e.end;
      eased = rested _ _ e.same e.rooms;
      counts = c.saturating_add-self-inside.ensures;
    })
