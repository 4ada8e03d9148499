use Rattle.std.proofs.Common.{◌+◌, set, arith}
use Rattle.std.proofs.lemmas.List.{set_past, length-set}
use Rattle.segments.specs.Layout.{table, Changed}
use Rattle.segments.specs.Table.{nth}
use Rattle.segments.proofs.Views.{good_laid, segs_are, changed_view, here_by}
use Rattle.segments.proofs.Placed.{written_same}
use Rattle.segments.proofs.SegmentLaws.{put_is}
use Rattle.segments.proofs.Segments.put.Goals.{After-read-at}
use Rattle.segments.proofs.Segments.put.Goals as goal

pub returns-then-j-len : goal.returns-then-j-len
returns-then-j-len c = record { laid = c.len.ensures.laid; after = written_same c.args.self.now c.args.i _ (set_past (nth c.args.self.now c.args.i).words c.args.j c.args.v (omega (arith, c.len.ensures.is, c.if-j-len.true))) }

pub read-at-requires : goal.read-at-requires
read-at-requires c = (here_by c.self.inside.words.now c.self.inside.count c.args.self.now c.args.i c.args.j c.self.invariant c.self.view_is (omega (arith, c.len.ensures.is, c.if-j-len.false))).row

pub overflow_add-w : goal.overflow_add-w
overflow_add-w c = let f = here_by c.self.inside.words.now c.self.inside.count c.args.self.now c.args.i c.args.j c.self.invariant c.self.view_is (omega (arith, c.len.ensures.is, c.if-j-len.false)) in omega (arith, c.read-at.ensures, c.len.ensures.is, c.self.told)

pub offset_bounds-w-at : goal.offset_bounds-w-at
offset_bounds-w-at c = let f = here_by c.self.inside.words.now c.self.inside.count c.args.self.now c.args.i c.args.j c.self.invariant c.self.view_is (omega (arith, c.len.ensures.is, c.if-j-len.false)) in omega (arith, c.read-at.ensures, c.len.ensures.is, c.self.told)

pub bounds-w-at : goal.bounds-w-at
bounds-w-at c = let f = here_by c.self.inside.words.now c.self.inside.count c.args.self.now c.args.i c.args.j c.self.invariant c.self.view_is (omega (arith, c.len.ensures.is, c.if-j-len.false)) in omega (arith, c.read-at.ensures, c.len.ensures.is)

changed : (c : After-read-at) → Changed c.self.inside.words.now (set c.self.inside.words.now (c.read-at.result + c.args.j) c.args.v) c.self.inside.count c.args.i (set (nth (table c.self.inside.words.now c.self.inside.count) c.args.i).words c.args.j c.args.v)
changed c =
    let f = here_by c.self.inside.words.now c.self.inside.count c.args.self.now c.args.i c.args.j c.self.invariant c.self.view_is (omega (arith, c.len.ensures.is, c.if-j-len.false)) in
    rw (← segs_are c.self.inside.words.now c.self.inside.count c.args.i, c.read-at.ensures) (put_is c.self.inside.words.now c.self.inside.count c.self.invariant c.args.i c.args.j c.args.v f.lt (omega (arith, c.len.ensures.is, c.if-j-len.false)))

pub invariant_of-self : goal.invariant_of-self
invariant_of-self c = (changed c).good

pub returns : goal.returns
returns c = rw (← c.self.view_is) (record { laid = good_laid _ _ (changed c).good; after = changed_view c.self.inside.words.now _ c.self.inside.count c.args.i (length-set c.self.inside.words.now (c.read-at.result + c.args.j) c.args.v) _ (changed c) })
