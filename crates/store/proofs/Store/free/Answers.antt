use Rattle.std.proofs.Common.{ℕ, ◌<◌, Bool, false, List, [], length, get_or, set, sym, ap, ap₂, ◌∙◌, arith}
use Rattle.std.proofs.lemmas.List.{get_or-set_same}
use Rattle.store.specs.Layout.{lists, lives}
use Rattle.store.specs.Held.{Held, model, bounds}
use Rattle.store.proofs.Totals.{lists_at, length_lists}
use Rattle.store.proofs.StoreLaws.{few, live_back, dead_empty, set_same}
use Rattle.store.proofs.Store.free.Goals as goal

pub returns-then-not-in_use : goal.returns-then-not-in_use
unfolding Held bounds model
returns-then-not-in_use c =
    let s = c.args.self.now in
    let e = sym c.if-not-in_use.ensures.says in
    record {
      held = c.in_use.ensures.held;
      same = ap (λ (y : List Bool). (s.half, y)) (set_same (lives s.table s.half) c.args.i false false e);
      after = set_same (lists s.table s.half) c.args.i [] [] (dead_empty _ _ _ _ _ _ c.in_use.ensures.held c.args.i e);
      cost = omega arith;
    }

pub release-requires : goal.release-requires
unfolding Held bounds model
release-requires c =
    let s = c.args.self.now in
    let u = c.clear.new.self in
    let i = c.args.i in
    let e = c.clear.ensures in
    let v = c.in_use.ensures.held in
    let a = live_back s.table s.half i (sym c.if-not-in_use.ensures.says) in
    let b = live_back u.table u.half i (ap (λ (p : ℕ × List Bool). get_or p.1 i false) e.same ∙ sym c.if-not-in_use.ensures.says) in
    let l : i < length (lists s.table s.half) = omega (arith, a.0, few _ _ _ _ _ _ v, length_lists s.table s.half (few _ _ _ _ _ _ v)) in
    record { there = b.0; bare = sym (lists_at u.table u.half i) ∙ ap (λ (y : List (List ℕ)). get_or y i []) e.after ∙ get_or-set_same (lists s.table s.half) i [] [] l }

pub returns : goal.returns
unfolding bounds model
returns c =
    let e = c.clear.ensures in
    let f = c.release.ensures in
    record {
      held = f.held;
      same = ap₂ (λ (h : ℕ) (y : List Bool). (h, y)) (f.bounds.0 ∙ ap (λ (p : ℕ × List Bool). p.0) e.same) (f.bounds.1 ∙ ap (λ (p : ℕ × List Bool). set p.1 c.args.i false) e.same);
      after = f.same ∙ e.after;
      cost = omega (arith, e.cost, f.cost);
    }
