use Rattle.std.proofs.Common.{◌≡◌, ◌+◌, ◌*◌, ◌/◌, ◌<◌, ◌≤◌, length, refl, ◌∙◌, arith}
use Rattle.std.proofs.lemmas.List.{length-set, take_all}
use Rattle.segments.specs.Layout.{spread}
use Rattle.segments.specs.Table.{nth, segs}
use Rattle.segments.proofs.Placed.{segs_kept, marks_kept, length_segs}
use Rattle.segments.proofs.Moves.{turn_room, turn_next, turn_free, turn_early, turn_late, turn_rooms, spread_none}
use Rattle.segments.proofs.Segments.evacuate.Goals as goal

pub loop-k-init : goal.loop-k-init
loop-k-init c = record {
  laid = c.count-k-end.ensures.laid;
  lent = refl;
  count = refl;
  same = refl;
  used = refl;
  early = λ i h. absurd (omega arith);
  late = c.requires.within;
  left = omega (arith, spread_none (segs c.args.self.now));
  rooms = λ i h. absurd (omega arith);
}

pub overflow_add-room : goal.overflow_add-room
overflow_add-room c =
    let i = c.loop-k.invariant in
    let q = rw c.count-k-end.ensures.is at c.loop-k-test.true in
    omega (
      arith,
      turn_room c.loop-k.self c.args.lo c.args.hi c.args.to c.loop-k.k c.loop-k.at (c.len-len.result + c.len-len.result / 4) (segs c.args.self.now)
          i.same (omega (arith, i.count, q)) i.early i.late i.left c.requires.apart (omega (arith, c.requires.behind_table, i.count)) (rw c.len-len.ensures.is),
    )

pub overflow_sub-at : goal.overflow_sub-at
overflow_sub-at c =
    let i = c.loop-k.invariant in
    let q = rw c.count-k-end.ensures.is at c.loop-k-test.true in
    omega (
      arith,
      turn_room c.loop-k.self c.args.lo c.args.hi c.args.to c.loop-k.k c.loop-k.at (c.len-len.result + c.len-len.result / 4) (segs c.args.self.now)
          i.same (omega (arith, i.count, q)) i.early i.late i.left c.requires.apart (omega (arith, c.requires.behind_table, i.count)) (rw c.len-len.ensures.is),
    )

pub relocate-requires : goal.relocate-requires
relocate-requires c =
    let i = c.loop-k.invariant in
    let q = rw c.count-k-end.ensures.is at c.loop-k-test.true in
    let h : c.loop-k.k < length c.loop-k.self.segments = omega (arith, i.count, q) in
    let r = c.len-len.result + c.len-len.result / 4 in
    let f : 8 * length c.loop-k.self.segments + spread (segs c.args.self.now) ≤ c.args.to = omega (arith, c.requires.behind_table, i.count) in
    let t = turn_room c.loop-k.self c.args.lo c.args.hi c.args.to c.loop-k.k c.loop-k.at r (segs c.args.self.now) i.same h i.early i.late i.left c.requires.apart f (rw c.len-len.ensures.is) in
    record {
      there = h;
      fits = omega (arith, c.len-len.ensures.is);
      behind_table = omega arith;
      in_bounds = omega (arith, i.left, i.lent, c.requires.in_bounds);
      free = turn_free c.loop-k.self c.args.lo c.args.hi c.args.to c.loop-k.k c.loop-k.at r (segs c.args.self.now) i.same h i.early i.late i.left c.requires.apart f (rw c.len-len.ensures.is);
    }

pub loop-k-preserved : goal.loop-k-preserved
loop-k-preserved c =
    let i = c.loop-k.invariant in
    let q = rw c.count-k-end.ensures.is at c.loop-k-test.true in
    let t = c.loop-k.self in
    let k = c.loop-k.k in
    let a = c.loop-k.at in
    let xs = segs c.args.self.now in
    let h : k < length t.segments = omega (arith, i.count, q) in
    let r = c.len-len.result + c.len-len.result / 4 in
    let f : 8 * length t.segments + spread xs ≤ c.args.to = omega (arith, c.requires.behind_table, i.count) in
    let e : r ≡ length (nth t k).words + length (nth t k).words / 4 = rw c.len-len.ensures.is in
    rw c.relocate.ensures.after (record {
      laid = rw c.relocate.ensures.after at c.relocate.ensures.laid;
      lent = i.lent;
      count = length-set t.segments k _ ∙ i.count;
      same = segs_kept t k _ refl ∙ i.same;
      used = marks_kept t k _ refl ∙ i.used;
      early = turn_early t c.args.lo c.args.hi c.args.to k a r xs i.same h i.early i.late i.left c.requires.apart f e;
      late = turn_late t c.args.lo c.args.hi c.args.to k a r xs i.same h i.early i.late i.left c.requires.apart f e;
      left = turn_next t c.args.lo c.args.hi c.args.to k a r xs i.same h i.early i.late i.left c.requires.apart f e;
      rooms = turn_rooms t c.args.lo c.args.hi c.args.to k a r xs i.same h i.early i.late i.left c.requires.apart f e c.args.self.now i.same i.rooms;
    })

pub returns : goal.returns
returns c =
    let i = c.loop-k.invariant in
    let e : c.loop-k.k ≡ length c.args.self.now.segments = omega (arith, c.count-k-end.ensures.is) in
    let a = take_all c.loop-k.k (segs c.args.self.now) (omega (arith, length_segs c.args.self.now)) in
    record {
      laid = i.laid;
      lent = i.lent;
      same = i.same;
      used = i.used;
      all = λ j z h. i.early j (omega (arith, i.count));
      end = rw a at i.left;
      rooms = λ k h. i.rooms k (omega arith);
    }
