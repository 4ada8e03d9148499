use Rattle.segments.specs.Layout.{Marked}
use Rattle.segments.proofs.Views.{good_laid, marked_view, here}
use Rattle.segments.proofs.Entries.{marked_is}
use Rattle.segments.proofs.Segments.engage.Goals.{After-write}
use Rattle.segments.proofs.Segments.engage.Goals as goal

pub write-requires : goal.write-requires
write-requires c = (here c.self.inside.words.now c.self.inside.count c.args.self.now c.args.i c.self.invariant c.self.view_is c.requires).row

inked : (c : After-write) → Marked c.self.inside.words.now c.write.new.w c.self.inside.count c.args.i 1
inked c = rw c.write.ensures (marked_is c.self.inside.words.now c.self.inside.count c.args.i 1 c.self.invariant (here c.self.inside.words.now c.self.inside.count c.args.self.now c.args.i c.self.invariant c.self.view_is c.requires).lt)

pub invariant_of-self : goal.invariant_of-self
invariant_of-self c = (inked c).good

pub returns : goal.returns
returns c = rw (← c.self.view_is) (record { laid = good_laid _ _ (inked c).good; after = marked_view c.self.inside.words.now _ c.self.inside.count c.args.i c.write.auto.w 1 (inked c) })
