use Rattle.std.proofs.Common.{◌≡◌, ℕ, [], length, get_or, ap, arith}
use Rattle.segments.specs.Table.{nth}
use Rattle.store.specs.Layout.{lists}
use Rattle.store.specs.Fields.{fields}
use Rattle.store.specs.Held.{Sound, Held, Reserved, model, bounds, spent}
use Rattle.store.proofs.Growth.{shifted_list, grew_inv, grew_model, grew_bounds, grew_cost, inside}
use Rattle.store.proofs.Store.append.Goals as goal

pub append_segment-requires : goal.append_segment-requires
unfolding model
append_segment-requires c =
    let s = c.args.self.now in
    let u = fields c.self.inside in
    let v : Sound u = c.self.invariant in
    let i = c.args.i in
    let xs = get_or (lists s.table s.half) c.args.j [] in
    let q : c.len-more.result ≡ length xs = c.len-more.ensures.is in
    let y : Reserved s u i c.len-more.result = rw (← c.self.view_is) at c.in_ok-reserve.ensures.after in
    let z : Reserved s u i (length xs) = rw q at y in
    let l : (nth u.table c.args.j).words ≡ xs = shifted_list s u v z.shifted c.args.j in
    record { there = inside s u i xs v z; room = omega (arith, z.room, ap (length {A = ℕ}) l) }

pub overflow_add-self : goal.overflow_add-self
unfolding model
overflow_add-self c =
    let s = c.args.self.now in
    let u = fields c.self.inside in
    let v : Sound u = c.self.invariant in
    let i = c.args.i in
    let xs = get_or (lists s.table s.half) c.args.j [] in
    let q : c.len-more.result ≡ length xs = c.len-more.ensures.is in
    let y : Reserved s u i c.len-more.result = rw (← c.self.view_is) at c.in_ok-reserve.ensures.after in
    let z : Reserved s u i (length xs) = rw q at y in
    let l : (nth u.table c.args.j).words ≡ xs = shifted_list s u v z.shifted c.args.j in
    omega (arith, z.spare, z.shifted.total, z.shifted.half, v.small, q)

pub invariant_of-self : goal.invariant_of-self
unfolding model
invariant_of-self c =
    let s = c.args.self.now in
    let u = fields c.self.inside in
    let v : Sound u = c.self.invariant in
    let i = c.args.i in
    let xs = get_or (lists s.table s.half) c.args.j [] in
    let q : c.len-more.result ≡ length xs = c.len-more.ensures.is in
    let y : Reserved s u i c.len-more.result = rw (← c.self.view_is) at c.in_ok-reserve.ensures.after in
    let z : Reserved s u i (length xs) = rw q at y in
    let l : (nth u.table c.args.j).words ≡ xs = shifted_list s u v z.shifted c.args.j in
    rw (c.append_segment.ensures.after, l) (grew_inv s u i xs v z _ (rw q) (rw (c.append_segment.ensures.after, l) at c.append_segment.ensures.laid))

pub returns : goal.returns
unfolding Held bounds model spent
returns c =
    let s = c.args.self.now in
    let u = fields c.self.inside in
    let v : Sound u = c.self.invariant in
    let i = c.args.i in
    let xs = get_or (lists s.table s.half) c.args.j [] in
    let q : c.len-more.result ≡ length xs = c.len-more.ensures.is in
    let y : Reserved s u i c.len-more.result = rw (← c.self.view_is) at c.in_ok-reserve.ensures.after in
    let z : Reserved s u i (length xs) = rw q at y in
    let l : (nth u.table c.args.j).words ≡ xs = shifted_list s u v z.shifted c.args.j in
    rw (c.append_segment.ensures.after, l) (record {
      held = grew_inv s u i xs v z _ (rw q) (rw (c.append_segment.ensures.after, l) at c.append_segment.ensures.laid);
      same = grew_bounds s u i xs v z;
      after = grew_model s u i xs v z;
      says = rw (← q) c.in_ok-reserve.ensures.says;
      cost = grew_cost s u i xs v z u.total;
    })
