use Rattle.std.proofs.Common.{◌≡◌, ℕ, ◌+◌, ◌*◌, ◌/◌, ◌≤◌, [], length, get_or, sym, refl, ap, ◌∙◌, arith, Fits, w64}
use Rattle.segments.specs.Table.{nth}
use Rattle.store.specs.Sums.{asked}
use Rattle.store.specs.Layout.{Layout}
use Rattle.store.specs.Held.{Held, model, bounds}
use Rattle.store.proofs.Totals.{lists_at}
use Rattle.store.proofs.StoreLaws.{enough_yes, enough_no, size_le, live_back, sum_fits}
use Rattle.segments.proofs.Placed.{words_same}
use Rattle.store.proofs.Store.reserve.Goals as goal

pub returns-then-more-spare : goal.returns-then-more-spare
unfolding Held bounds model
returns-then-more-spare c =
    let v = c.in_use.ensures.held in
    record {
      held = v;
      says = rw (← c.if-not-in_use.ensures.says, enough_no _ _ _ _ _ _ v (asked (length (get_or (model c.args.self.now) c.args.i []) + c.args.more)) (omega (arith, c.if-more-spare.true, c.spare-spare.ensures.left)));
      after = refl;
    }

-- what is asked for fits
fits : (s : Layout) (i len more spare : ℕ) → Held s → len ≡ length (get_or (model s) i []) → more ≤ spare →
    s.total + s.total / 4 + 8 * length s.table.segments + s.half / 8 + spare ≡ s.half →
    Fits w64 (len + more) × Fits w64 (len + more + (len + more) / 2) × Fits w64 (len + more + (len + more) / 2 + 8)
unfolding Held model
fits s i len more spare v e h l = sum_fits len more s.half (omega (arith, rw lists_at at e, size_le _ _ _ _ _ _ v i, v.bound)) (omega arith) v.small

pub overflow_add-m : goal.overflow_add-m
overflow_add-m c = (fits c.args.self.now c.args.i _ _ _ c.in_use.ensures.held c.len-len.ensures.is c.if-more-spare.false c.spare-spare.ensures.left).0

pub overflow_add-m-2 : goal.overflow_add-m-2
overflow_add-m-2 c = (fits c.args.self.now c.args.i _ _ _ c.in_use.ensures.held c.len-len.ensures.is c.if-more-spare.false c.spare-spare.ensures.left).1

pub overflow_add-m-3 : goal.overflow_add-m-3
overflow_add-m-3 c = (fits c.args.self.now c.args.i _ _ _ c.in_use.ensures.held c.len-len.ensures.is c.if-more-spare.false c.spare-spare.ensures.left).2

pub returns-then-m-spare : goal.returns-then-m-spare
unfolding Held bounds model
returns-then-m-spare c =
    let v = c.in_use.ensures.held in
    record {
      held = v;
      says = rw (← c.if-not-in_use.ensures.says, ← c.len-len.ensures.is, enough_no _ _ _ _ _ _ v (asked (c.len-len.result + c.args.more)) (omega (arith, c.if-m-spare.true, c.spare-spare.ensures.left)));
      after = refl;
    }

pub make_room-requires : goal.make_room-requires
unfolding Held bounds model
make_room-requires c =
    let s = c.args.self.now in
    let i = live_back s.table s.half c.args.i (sym c.if-not-in_use.ensures.says) in
    record { there = i.0; length_is = c.len-len.ensures.is ∙ ap length (lists_at s.table s.half c.args.i); fits = omega (arith, c.if-m-spare.false, c.spare-spare.ensures.left); small = c.spare-spare.ensures.small }

pub returns : goal.returns
unfolding Held bounds model
returns c =
    let s = c.args.self.now in
    let v = c.in_use.ensures.held in
    let i = live_back s.table s.half c.args.i (sym c.if-not-in_use.ensures.says) in
    let e = c.make_room.ensures in
    let u = c.make_room.new.self in
    let l : c.len-len.result ≡ length (nth s.table c.args.i).words = c.len-len.ensures.is ∙ ap length (lists_at s.table s.half c.args.i) in
    record {
      held = v;
      says = rw (← c.if-not-in_use.ensures.says, ← c.len-len.ensures.is, enough_yes _ _ _ _ _ _ v (asked (c.len-len.result + c.args.more)) (omega (arith, c.if-m-spare.false, c.spare-spare.ensures.left)));
      after = record {
        shifted = e.shifted;
        live = i.1;
        room = omega (arith, ap (length {A = ℕ}) (words_same u.table s.table c.args.i e.shifted.same), l, e.wide);
        spare = rw (← l) (omega (arith, c.if-m-spare.false, c.spare-spare.ensures.left));
        cost = rw l at e.cost;
      };
    }
