use Rattle.std.proofs.Common.{◌≡◌, ◌<◌, ◌≤◌, Bool, List, length, refl, ap, ◌∙◌, arith}
use Rattle.std.proofs.lemmas.Bool.{lt-ltb, le-ltb}
use Rattle.std.specs.List.{prefix_len}
use Rattle.store.specs.Layout.{lives}
use Rattle.store.specs.Fields.{fields}
use Rattle.store.specs.Held.{Sound, Held, model, bounds, spent}
use Rattle.store.proofs.StoreLaws.{extent_of, enough_yes, enough_no}
use Rattle.store.proofs.Numbers.{hinted_inv, engaged_inv, engaged_lists, engaged_lives, engaged_strain, engaged_length, first_is}
use Rattle.store.proofs.Density.{dense_fresh_at}
use Rattle.store.proofs.Store.fresh.Goals as goal

pub engage-requires : goal.engage-requires
engage-requires c = omega (arith, c.count-n.ensures.is, c.if-i-n.true)

pub invariant_of-self : goal.invariant_of-self
invariant_of-self c =
    let s = fields c.self.inside in
    let v : Sound s = c.self.invariant in
    let i = c.unused-i.result in
    let n = length s.table.segments in
    let u = rw (← c.self.view_is) at c.unused-i.ensures in
    rw c.engage.ensures.after (engaged_inv _ _ _ _ _ _ v i (omega (arith, c.count-n.ensures.is, c.if-i-n.true)) u.before (rw c.engage.ensures.after at c.engage.ensures.laid))

pub returns-then-i-n : goal.returns-then-i-n
unfolding Held bounds model spent
returns-then-i-n c =
    let s = fields c.self.inside in
    let v : Sound s = c.self.invariant in
    let i = c.unused-i.result in
    let n = length s.table.segments in
    let u = rw (← c.self.view_is) at c.unused-i.ensures in
    let h : i < n = omega (arith, c.count-n.ensures.is, c.if-i-n.true) in
    let f = first_is s.table s.half i u.before u.here in
    let e = engaged_lives _ _ _ _ _ _ v i h u.before in
    rw (← c.self.view_is, c.engage.ensures.after) (record {
      held = engaged_inv _ _ _ _ _ _ v i h u.before (rw c.engage.ensures.after at c.engage.ensures.laid);
      dense = dense_fresh_at _ _ i f e;
      same = rw f (ap (λ (y : List Bool). (s.half, y)) e);
      after = engaged_lists _ _ _ _ _ _ v i h u.before;
      says = rw (f, extent_of _ _ _ _ _ _ v, lt-ltb i n h);
      cost = omega (arith, engaged_strain _ _ _ _ _ _ v i h u.before, engaged_length _ _ _ _ _ _ v i h u.before);
    })

pub returns-then-spare-lt8 : goal.returns-then-spare-lt8
unfolding Held bounds model spent
returns-then-spare-lt8 c =
    let s = fields c.self.inside in
    let v : Sound s = c.self.invariant in
    let i = c.unused-i.result in
    let n = length s.table.segments in
    let u = rw (← c.self.view_is) at c.unused-i.ensures in
    let h : n ≤ i = omega (arith, c.count-n.ensures.is, c.if-i-n.false) in
    let p = rw (← c.self.view_is) at c.spare.ensures.left in
    let f = first_is s.table s.half i u.before u.here in
    rw (← c.self.view_is) (record {
      held = v;
      dense = λ d. d;
      same = refl;
      after = refl;
      says = rw (f, extent_of _ _ _ _ _ _ v, le-ltb i n h, enough_no _ _ _ _ _ _ v 8 (omega (arith, c.if-spare-lt8.true, p)));
      cost = omega arith;
    })

pub invariant_of-self-2 : goal.invariant_of-self-2
invariant_of-self-2 c =
    let s = fields c.self.inside in
    let v : Sound s = c.self.invariant in
    let i = c.unused-i.result in
    let n = length s.table.segments in
    let u = rw (← c.self.view_is) at c.unused-i.ensures in
    let q : i ≡ n = omega (arith, u.within, c.count-n.ensures.is, c.if-i-n.false) in
    rw c.count-n.ensures.is (hinted_inv _ _ _ _ _ _ v (λ k h. u.before k (omega arith)))

pub enlarge-requires : goal.enlarge-requires
enlarge-requires c = record { fits = omega (arith, c.if-spare-lt8.false, rw (← c.self.view_is) at c.spare.ensures.left) }

pub returns : goal.returns
unfolding Held bounds model spent
returns c =
    let s = fields c.self.inside in
    let v : Sound s = c.self.invariant in
    let i = c.unused-i.result in
    let n = length s.table.segments in
    let u = rw (← c.self.view_is) at c.unused-i.ensures in
    let e = c.enlarge.ensures in
    let q : i ≡ n = omega (arith, u.within, c.count-n.ensures.is, c.if-i-n.false) in
    let f : prefix_len (λ b. b) (lives s.table s.half) ≡ n = first_is s.table s.half i u.before u.here ∙ q in
    rw (← c.self.view_is, c.count-n.ensures.is) (record {
      held = e.held;
      dense = dense_fresh_at _ _ n f e.bounds.1;
      same = rw (f, e.bounds.1, e.bounds.0);
      after = e.same;
      says = rw (f, extent_of _ _ _ _ _ _ v, le-ltb n n (omega arith), enough_yes _ _ _ _ _ _ v 8 (omega (arith, c.if-spare-lt8.false, rw (← c.self.view_is) at c.spare.ensures.left)));
      cost = e.cost;
    })
