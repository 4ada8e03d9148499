use Rattle.std.proofs.Common.{[], ◌∷◌, length, refl, arith}
use Rattle.store.specs.Fields.{fields}
use Rattle.store.specs.Held.{Sound, Held, Reserved, model, bounds, spent}
use Rattle.store.proofs.Growth.{grew_inv, grew_model, grew_bounds, grew_cost, inside}
use Rattle.store.proofs.Store.push.Goals as goal

pub append_word-requires : goal.append_word-requires
append_word-requires c =
    let s = c.args.self.now in
    let u = fields c.self.inside in
    let v : Sound u = c.self.invariant in
    let xs = c.args.v ∷ [] in
    let z : Reserved s u c.args.i (length xs) = rw (← c.self.view_is) at c.in_ok-reserve.ensures.after in
    record { there = inside s u c.args.i xs v z; room = omega (arith, z.room) }

pub overflow_add-self : goal.overflow_add-self
overflow_add-self c =
    let s = c.args.self.now in
    let u = fields c.self.inside in
    let v : Sound u = c.self.invariant in
    let xs = c.args.v ∷ [] in
    let z : Reserved s u c.args.i (length xs) = rw (← c.self.view_is) at c.in_ok-reserve.ensures.after in
    omega (arith, z.spare, z.shifted.total, z.shifted.half, v.small)

pub invariant_of-self : goal.invariant_of-self
invariant_of-self c =
    let s = c.args.self.now in
    let u = fields c.self.inside in
    let v : Sound u = c.self.invariant in
    let xs = c.args.v ∷ [] in
    let z : Reserved s u c.args.i (length xs) = rw (← c.self.view_is) at c.in_ok-reserve.ensures.after in
    rw c.append_word.ensures.after (grew_inv s u c.args.i xs v z _ refl (rw c.append_word.ensures.after at c.append_word.ensures.laid))

pub returns : goal.returns
unfolding Held bounds model spent
returns c =
    let s = c.args.self.now in
    let u = fields c.self.inside in
    let v : Sound u = c.self.invariant in
    let xs = c.args.v ∷ [] in
    let z : Reserved s u c.args.i (length xs) = rw (← c.self.view_is) at c.in_ok-reserve.ensures.after in
    rw c.append_word.ensures.after (record {
      held = grew_inv s u c.args.i xs v z _ refl (rw c.append_word.ensures.after at c.append_word.ensures.laid);
      same = grew_bounds s u c.args.i xs v z;
      after = grew_model s u c.args.i xs v z;
      says = c.in_ok-reserve.ensures.says;
      cost = grew_cost s u c.args.i xs v z u.total;
    })
