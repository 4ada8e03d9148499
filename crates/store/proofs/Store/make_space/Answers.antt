use Rattle.std.proofs.Common.{◌+◌, ◌*◌, ◌<◌, length, refl, arith}
use Rattle.segments.specs.Table.{nth, tense}
use Rattle.segments.proofs.Upto.{upto_at}
use Rattle.store.specs.Fields.{fields}
use Rattle.store.specs.Held.{Sound, stayed, changed}
use Rattle.store.proofs.StoreLaws.{spread_few, tidy_cost, ask_cost, used_up, free_large, same_count}
use Rattle.store.proofs.Store.make_space.Goals as goal

pub returns-then-self-count : goal.returns-then-self-count
returns-then-self-count c =
    rw (← c.self.view_is) (record {
      shifted = record { half = refl; total = refl; same = refl; used = refl };
      space = omega (arith, c.count.ensures.is);
      seldom = stayed refl;
      cost = ask_cost _ _ _ _;
      rest = omega arith;
      eased = λ i h. omega arith;
    })

pub returns : goal.returns
returns c =
    let s = fields c.self.inside in
    let v : Sound s = c.self.invariant in
    let t = c.tidy.new.self in
    let e = rw (← c.self.view_is) at c.tidy.ensures in
    let b = rw (← c.self.view_is) at c.requires.fits in
    let z = e.shifted in
    let f = spread_few _ _ _ _ _ _ v in
    let k = same_count t.table s.table z.same in
    let n = length s.table.segments in
    let n' = length t.table.segments in
    let full : s.low + s.half < s.hi + 8 * n + c.args.ask = rw c.count.ensures.is at c.if-self-count.false in
    rw (← c.self.view_is) (record {
      shifted = z;
      space = omega (arith, e.space, f, z.half, k, b);
      seldom = changed (used_up s.low s.half s.hi n c.args.ask v.floor full) (free_large s.half t.half n n' t.hi t.low s.total _ c.args.ask z.half k e.space f b);
      cost = tidy_cost s.moved t.moved s.half t.half n n' s.hi s.low t.hi t.low s.total _ c.args.ask z.half k e.space f b v.floor full (omega (arith, e.counts));
      rest = omega (arith, e.eased);
      eased = λ i h. omega (arith, e.eased, upto_at (λ k. tense (nth s.table k)) n i h);
    })
