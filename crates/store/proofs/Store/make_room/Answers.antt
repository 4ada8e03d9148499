use Rattle.std.proofs.Common.{◌≡◌, ◌+◌, ◌/◌, length, sym, refl, ap, ◌∙◌, arith}
use Rattle.segments.specs.Table.{nth, tense, strain}
use Rattle.store.specs.Held.{pressed}
use Rattle.store.proofs.StoreLaws.{room_cost, late_tense, stay_cost, shifted_trans, same_count}
use Rattle.segments.proofs.Placed.{words_same}
use Rattle.store.proofs.Store.make_room.Goals as goal

pub returns-then-m-room_of : goal.returns-then-m-room_of
returns-then-m-room_of c =
    let s = c.args.self.now in
    let r = c.requires in
    record {
      shifted = record { half = refl; total = refl; same = refl; used = refl };
      wide = omega (arith, c.if-m-room_of.true);
      cost = λ x e. stay_cost (pressed s 0) (strain s.table) (tense (nth s.table c.args.i)) c.args.len c.args.more (nth s.table c.args.i).room x
          (rw r.length_is) e;
    }

pub widen-requires : goal.widen-requires
widen-requires c =
    let r = c.requires in
    let s = c.args.self.now in
    let t = c.make_space.new.self in
    let e = c.make_space.ensures in
    record { there = omega (arith, r.there, same_count t.table s.table e.shifted.same); length_is = r.length_is ∙ sym (ap length (words_same t.table s.table c.args.i e.shifted.same)); holds = omega arith; free = e.space }

pub returns : goal.returns
returns c =
    let s = c.args.self.now in
    let t = c.make_space.new.self in
    let u = c.widen.new.self in
    let i = c.args.i in
    let len = c.args.len in
    let more = c.args.more in
    let n = len + more + (len + more) / 2 + 8 in
    let r = c.requires in
    let e = c.make_space.ensures in
    let f = c.widen.ensures in
    let z = shifted_trans s t u e.shifted f.shifted in
    let late = late_tense len more n refl in
    let same : length (nth u.table i).words ≡ len = ap length (words_same u.table s.table i z.same) ∙ sym r.length_is in
    let quiet : tense (nth u.table i) ≡ 0 = rw (f.wide, same) late.1 in
    record {
      shifted = z;
      wide = omega (arith, f.wide);
      cost = λ x q.
          let y : x ≡ strain u.table = omega (arith, rw f.wide at q, quiet, late.0) in
          rw y (room_cost (pressed s 0) (pressed t n) (pressed u 0) (strain s.table) (strain t.table) (strain u.table)
          (tense (nth s.table i)) (tense (nth t.table i)) len more (nth s.table i).room n (rw r.length_is (omega (arith, c.room_of.ensures)))
          (omega (arith, c.if-m-room_of.false, c.room_of.ensures.is)) refl (rw r.length_is) e.cost f.cost (e.eased i r.there) f.eased);
    }
