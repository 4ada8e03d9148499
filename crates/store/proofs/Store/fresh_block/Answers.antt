use Rattle.std.proofs.Common.{◌≡◌, ℕ, ◌*◌, Bool, List, length, refl, ap₂, arith}
use Rattle.store.specs.Fields.{fields}
use Rattle.store.specs.Held.{Sound, Held, model, bounds}
use Rattle.store.proofs.Totals.{length_lives}
use Rattle.store.proofs.StoreLaws.{few, extent_of, enough_yes, enough_no}
use Rattle.store.proofs.Density.{dense_taken_at}
use Rattle.store.proofs.Blocks.{Taken, taken_none, taken_more}
use Rattle.store.proofs.Store.fresh_block.Goals as goal

pub returns-then-k-spare : goal.returns-then-k-spare
unfolding Held bounds model
returns-then-k-spare c =
    let v : Sound (fields c.self.inside) = c.self.invariant in
    rw (← c.self.view_is) (record {
      held = v;
      dense = λ d. d;
      same = refl;
      after = refl;
      says = rw (enough_no _ _ _ _ _ _ v (8 * c.args.k) (omega (arith, c.if-k-spare.true, rw (← c.self.view_is) at c.spare.ensures.left)));
      cost = omega arith;
    })

pub loop-j-init : goal.loop-j-init
unfolding Held
loop-j-init c = let v : Held (fields c.self.inside) = c.self.invariant in rw (← c.self.view_is) (taken_none _ v)

pub loop-j-preserved : goal.loop-j-preserved
loop-j-preserved c =
    let e = c.enlarge.ensures in
    taken_more c.args.self.now c.loop-j.self c.enlarge.new.self c.loop-j._j c.loop-j.invariant e.held e.counts e.bounds e.same e.cost

pub returns : goal.returns
unfolding Held bounds model
returns c =
    let s = fields c.self.inside in
    let v : Sound s = c.self.invariant in
    let k = c.args.k in
    let n = length s.table.segments in
    let q : c.loop-j._j ≡ k = omega arith in
    let y : Taken c.args.self.now c.loop-j.self k = rw q at c.loop-j.invariant in
    let t : Taken s c.loop-j.self k = rw (← c.self.view_is) at y in
    let p = rw (← c.self.view_is) at c.spare.ensures.left in
    let x = extent_of _ _ _ _ _ _ v in
    rw (← c.self.view_is) (record {
      held = t.held;
      dense = dense_taken_at _ _ n k x (omega (arith, c.if-k-spare.false, p, length_lives s.table s.half (few _ _ _ _ _ _ v))) t.live;
      same = rw x (ap₂ (λ (h : ℕ) (y : List Bool). (h, y)) t.half t.live);
      after = t.same;
      says = rw (enough_yes _ _ _ _ _ _ v (8 * k) (omega (arith, c.if-k-spare.false, p)), x, c.count-first.ensures.is);
      cost = t.cost;
    })
