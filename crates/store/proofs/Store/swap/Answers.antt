use Rattle.std.proofs.Common.{◌≡◌, ℕ, Bool, List, [], get_or, set, sym, refl, ap, ◌∙◌, arith}
use Rattle.std.proofs.lemmas.List.{set-get_or, set-set}
use Rattle.store.specs.Fields.{fields}
use Rattle.store.specs.Held.{Sound, Held, model, bounds, spent}
use Rattle.store.proofs.StoreLaws.{live_back}
use Rattle.store.proofs.Numbers.{exchanged_inv, exchanged_lists, exchanged_lives, exchanged_strain, exchanged_length}
use Rattle.store.proofs.Store.swap.Goals as goal

twice : (m : List (List ℕ)) (i j : ℕ) → i ≡ j → m ≡ set (set m i (get_or m j [])) j (get_or m i [])
twice m i j e = rw e (sym (set-set m j (get_or m j []) (get_or m j []) ∙ set-get_or m j []))

pub returns-then-i-j : goal.returns-then-i-j
returns-then-i-j c =
    record {
      held = c.in_use.ensures.held;
      same = refl;
      after = twice (model c.args.self.now) c.args.i c.args.j c.if-i-j.true;
      says = rw (← c.if-not-in_use.ensures.says, ← c.if-not-in_use-2.ensures.says);
      cost = omega arith;
    }

pub exchange-requires : goal.exchange-requires
unfolding bounds
exchange-requires c =
    let s = fields c.self.inside in
    let v : Sound s = c.self.invariant in
    let a = live_back s.table s.half c.args.i (sym (rw (← c.self.view_is) at c.if-not-in_use.ensures.says)) in
    let b = live_back s.table s.half c.args.j (sym (rw (← c.self.view_is) at c.if-not-in_use-2.ensures.says)) in
    record { i_there = a.0; j_there = b.0; apart = c.if-i-j.false }

pub invariant_of-self : goal.invariant_of-self
unfolding bounds
invariant_of-self c =
    let s = fields c.self.inside in
    let v : Sound s = c.self.invariant in
    let a = live_back s.table s.half c.args.i (sym (rw (← c.self.view_is) at c.if-not-in_use.ensures.says)) in
    let b = live_back s.table s.half c.args.j (sym (rw (← c.self.view_is) at c.if-not-in_use-2.ensures.says)) in
    rw c.exchange.ensures.after (exchanged_inv _ _ _ _ _ _ v _ _ c.if-i-j.false a.1 b.1 (rw c.exchange.ensures.after at c.exchange.ensures.laid))

pub returns : goal.returns
unfolding Held bounds model spent
returns c =
    let s = fields c.self.inside in
    let v : Sound s = c.self.invariant in
    let a = live_back s.table s.half c.args.i (sym (rw (← c.self.view_is) at c.if-not-in_use.ensures.says)) in
    let b = live_back s.table s.half c.args.j (sym (rw (← c.self.view_is) at c.if-not-in_use-2.ensures.says)) in
    rw (← c.self.view_is, c.exchange.ensures.after) (record {
      held = exchanged_inv _ _ _ _ _ _ v _ _ c.if-i-j.false a.1 b.1 (rw c.exchange.ensures.after at c.exchange.ensures.laid);
      same = ap (λ (y : List Bool). (s.half, y)) (exchanged_lives _ _ _ _ _ _ v _ _ c.if-i-j.false a.1 b.1);
      after = exchanged_lists _ _ _ _ _ _ v _ _ c.if-i-j.false a.1 b.1;
      says = rw (← rw (← c.self.view_is) at c.if-not-in_use.ensures.says, ← rw (← c.self.view_is) at c.if-not-in_use-2.ensures.says);
      cost = omega (arith, exchanged_strain _ _ _ _ _ _ v _ _ c.if-i-j.false a.1 b.1, exchanged_length _ _ _ _ _ _ v _ _ c.if-i-j.false a.1 b.1);
    })
