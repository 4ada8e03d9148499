use Rattle.std.proofs.Common.{◌≡◌, ◌-◌, ◌<◌, ◌≤◌, false, [], length, get_or, take, sym, refl, ap, ⊎_elim, arith}
use Rattle.std.proofs.lemmas.List.{length-set, take_all, length-take-le, set-get_or}
use Rattle.std.proofs.lemmas.Bool.{cases_lt}
use Rattle.segments.specs.Table.{Segment, nth}
use Rattle.segments.proofs.Placed.{nth_past}
use Rattle.store.specs.Fields.{fields}
use Rattle.store.specs.Held.{Sound, Held, model, bounds, spent}
use Rattle.store.proofs.Totals.{lists_at}
use Rattle.store.proofs.StoreLaws.{size_le, changed_inv, changed_model, changed_bounds, shrunk_strain}
use Rattle.store.proofs.Store.truncate.Goals as goal

pub returns-then-m-len : goal.returns-then-m-len
unfolding Held model bounds spent
returns-then-m-len c =
    let l = get_or (model c.args.self.now) c.args.i [] in
    let h : length l ≤ c.args.m = omega (arith, c.if-m-len.true, c.len-len.ensures.is) in
    record { held = c.len-len.ensures.held; same = refl; after = sym (rw (take_all c.args.m l h) (set-get_or (model c.args.self.now) c.args.i [])); cost = omega arith }

-- list i is there, and has as many words
pub cut-requires : goal.cut-requires
unfolding model
cut-requires c =
    let s = fields c.self.inside in
    let i = c.args.i in
    let m = c.args.m in
    let v : Sound s = c.self.invariant in
    let q : c.len-len.result ≡ length (nth s.table i).words = rw lists_at at (rw (← c.self.view_is) at c.len-len.ensures.is) in
    let h : m < length (nth s.table i).words = omega (arith, q, c.if-m-len.false) in
    record {
      there = ⊎_elim
          (λ (z : i < length s.table.segments). z)
          (λ (z : length s.table.segments ≤ i). absurd (omega (arith, ap (λ (y : Segment). length y.words) (nth_past s.table i z))))
          (cases_lt i (length s.table.segments));
      within = omega arith;
    }

pub overflow_sub-self-2 : goal.overflow_sub-self-2
unfolding model
overflow_sub-self-2 c =
    let s = fields c.self.inside in
    let i = c.args.i in
    let m = c.args.m in
    let v : Sound s = c.self.invariant in
    let q : c.len-len.result ≡ length (nth s.table i).words = rw lists_at at (rw (← c.self.view_is) at c.len-len.ensures.is) in
    let h : m < length (nth s.table i).words = omega (arith, q, c.if-m-len.false) in
    omega (arith, size_le _ _ _ _ _ _ v i)

pub invariant_of-self : goal.invariant_of-self
unfolding model
invariant_of-self c =
    let s = fields c.self.inside in
    let i = c.args.i in
    let m = c.args.m in
    let v : Sound s = c.self.invariant in
    let q : c.len-len.result ≡ length (nth s.table i).words = rw lists_at at (rw (← c.self.view_is) at c.len-len.ensures.is) in
    let h : m < length (nth s.table i).words = omega (arith, q, c.if-m-len.false) in
    let x = take m (nth s.table i).words in
    let d : (nth s.table i).used ≡ false → x ≡ [] = λ u. rw (v.empty i u) (take_all m [] (omega arith)) in
    let l : length x ≡ m = length-take-le m (nth s.table i).words (omega arith) in
    let b = size_le _ _ _ _ _ _ v i in
    rw c.cut.ensures.after (changed_inv _ _ _ _ _ _ v i (s.total - (c.len-len.result - m)) x d (omega arith) (omega (arith, v.bound)) (rw c.cut.ensures.after at c.cut.ensures.laid))

pub returns : goal.returns
unfolding Held model bounds spent
returns c =
    let s = fields c.self.inside in
    let i = c.args.i in
    let m = c.args.m in
    let v : Sound s = c.self.invariant in
    let q : c.len-len.result ≡ length (nth s.table i).words = rw lists_at at (rw (← c.self.view_is) at c.len-len.ensures.is) in
    let h : m < length (nth s.table i).words = omega (arith, q, c.if-m-len.false) in
    let x = take m (nth s.table i).words in
    let d : (nth s.table i).used ≡ false → x ≡ [] = λ u. rw (v.empty i u) (take_all m [] (omega arith)) in
    let l : length x ≡ m = length-take-le m (nth s.table i).words (omega arith) in
    let b = size_le _ _ _ _ _ _ v i in
    rw (← c.self.view_is, c.cut.ensures.after) (record {
      held = changed_inv _ _ _ _ _ _ v i (s.total - (c.len-len.result - m)) x d (omega arith) (omega (arith, v.bound)) (rw c.cut.ensures.after at c.cut.ensures.laid);
      same = changed_bounds _ _ _ _ _ _ v i s.total x d;
      after = rw lists_at (changed_model _ _ _ _ _ _ v i s.total x d);
      cost = omega (
        arith,
        shrunk_strain _ _ _ _ _ _ v i s.total x d (omega arith),
        length-set s.table.segments i (record { start = (nth s.table i).start; room = (nth s.table i).room; words = x; used = (nth s.table i).used }),
      );
    })
