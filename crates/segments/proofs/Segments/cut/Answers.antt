use Rattle.std.proofs.Common.{take, arith}
use Rattle.segments.specs.Layout.{table, Changed}
use Rattle.segments.specs.Table.{nth}
use Rattle.segments.proofs.Views.{good_laid, segs_are, changed_view, here}
use Rattle.segments.proofs.SegmentLaws.{cut_is}
use Rattle.segments.proofs.Segments.cut.Goals.{After-write}
use Rattle.segments.proofs.Segments.cut.Goals as goal

pub write-requires : goal.write-requires
write-requires c = (here c.self.inside.words.now c.self.inside.count c.args.self.now c.args.i c.self.invariant c.self.view_is c.requires.there).row

changed : (c : After-write) → Changed c.self.inside.words.now c.write.new.w c.self.inside.count c.args.i (take c.args.m (nth (table c.self.inside.words.now c.self.inside.count) c.args.i).words)
changed c =
    let f = here c.self.inside.words.now c.self.inside.count c.args.self.now c.args.i c.self.invariant c.self.view_is c.requires.there in
    rw (← segs_are c.self.inside.words.now c.self.inside.count c.args.i, c.write.ensures) (cut_is c.self.inside.words.now c.self.inside.count c.self.invariant c.args.i c.args.m f.lt (omega (arith, c.requires.within)))

pub invariant_of-self : goal.invariant_of-self
invariant_of-self c = (changed c).good

pub returns : goal.returns
returns c = rw (← c.self.view_is) (record { laid = good_laid _ _ (changed c).good; after = changed_view c.self.inside.words.now _ c.self.inside.count c.args.i c.write.auto.w _ (changed c) })
