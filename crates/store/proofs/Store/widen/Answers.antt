use Rattle.std.proofs.Common.{◌-◌, length, refl, ap, inl, arith}
use Rattle.std.proofs.lemmas.List.{length-set}
use Rattle.segments.specs.Table.{Segment, nth}
use Rattle.segments.proofs.Placed.{nth_same, segs_kept, marks_kept}
use Rattle.store.specs.Fields.{fields}
use Rattle.store.specs.Held.{Sound}
use Rattle.store.proofs.StoreLaws.{strain_placed, widened, widen_cost}
use Rattle.store.proofs.Store.widen.Goals as goal

pub overflow_sub-at : goal.overflow_sub-at
overflow_sub-at c = omega (arith, rw (← c.self.view_is) at c.requires.free, c.self.invariant.side)

pub relocate-requires : goal.relocate-requires
relocate-requires c =
    let s = fields c.self.inside in
    let p : Sound s = c.self.invariant in
    let r = rw (← c.self.view_is) at c.requires in
    record { there = r.there; fits = omega (arith, r.length_is, r.holds); behind_table = omega (arith, r.free, p.side); in_bounds = omega (arith, r.free, p.side, p.ceil, p.long); free = λ k h. inl (omega (arith, (p.within k (omega arith) h).0, r.free, p.side)) }

pub invariant_of-self : goal.invariant_of-self
invariant_of-self c =
    let s = fields c.self.inside in
    let p : Sound s = c.self.invariant in
    let r = rw (← c.self.view_is) at c.requires in
    rw c.relocate.ensures.after (widened _ _ _ _ _ _ p c.args.i (s.low - c.args.r) c.args.r r.there (omega (arith, r.free, p.side)) (omega (arith, r.free, p.side)) (rw c.relocate.ensures.after at c.relocate.ensures.laid))

pub returns : goal.returns
returns c =
    let s = fields c.self.inside in
    let p : Sound s = c.self.invariant in
    let r = rw (← c.self.view_is) at c.requires in
    let i = c.args.i in
    let one : Segment = record { start = s.low - c.args.r; room = c.args.r; words = (nth s.table i).words; used = (nth s.table i).used } in
    rw (← c.self.view_is, c.relocate.ensures.after) (record {
      shifted = record { half = refl; total = refl; same = segs_kept s.table i one refl; used = marks_kept s.table i one refl };
      wide = ap (λ (x : Segment). x.room) (nth_same s.table i one r.there);
      counts = c.saturating_add-self-inside.ensures;
      cost = rw (length-set s.table.segments i one) (widen_cost s.moved c.saturating_add-self-inside.result s.half (length s.table.segments) s.hi s.low c.args.r c.args.len r.free (omega (arith, c.saturating_add-self-inside.ensures)));
      eased = rw r.length_is (strain_placed s.table i one r.there);
    })
