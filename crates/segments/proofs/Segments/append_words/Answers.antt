use Rattle.std.proofs.Common.{◌++◌, arith}
use Rattle.segments.specs.Layout.{table, Changed}
use Rattle.segments.specs.Table.{nth}
use Rattle.segments.proofs.Views.{good_laid, segs_are, changed_view, here}
use Rattle.segments.proofs.SegmentLaws.{grown}
use Rattle.segments.proofs.Segments.append_words.Goals.{After-write}
use Rattle.segments.proofs.Segments.append_words.Goals as goal

pub read-at-requires : goal.read-at-requires
read-at-requires c = (here c.self.inside.words.now c.self.inside.count c.args.self.now c.args.i c.self.invariant c.self.view_is c.requires.there).row

pub read-len-requires : goal.read-len-requires
read-len-requires c = (here c.self.inside.words.now c.self.inside.count c.args.self.now c.args.i c.self.invariant c.self.view_is c.requires.there).row

pub overflow_add-at : goal.overflow_add-at
overflow_add-at c = let f = here c.self.inside.words.now c.self.inside.count c.args.self.now c.args.i c.self.invariant c.self.view_is c.requires.there in omega (arith, c.read-at.ensures, c.read-len.ensures, c.requires.room, c.self.told)

pub put_words-requires : goal.put_words-requires
put_words-requires c = let f = here c.self.inside.words.now c.self.inside.count c.args.self.now c.args.i c.self.invariant c.self.view_is c.requires.there in omega (arith, c.read-at.ensures, c.read-len.ensures, c.requires.room)

pub write-requires : goal.write-requires
write-requires c = let f = here c.self.inside.words.now c.self.inside.count c.args.self.now c.args.i c.self.invariant c.self.view_is c.requires.there in omega (arith, c.put_words.auto.w)

changed : (c : After-write) → Changed c.self.inside.words.now c.write.new.w c.self.inside.count c.args.i ((nth (table c.self.inside.words.now c.self.inside.count) c.args.i).words ++ c.args.xs.now)
changed c =
    let f = here c.self.inside.words.now c.self.inside.count c.args.self.now c.args.i c.self.invariant c.self.view_is c.requires.there in
    rw (← segs_are c.self.inside.words.now c.self.inside.count c.args.i, c.write.ensures, c.read-len.ensures)
    (grown c.self.inside.words.now c.self.inside.count c.self.invariant _ c.args.i (c.args.xs.now) f.lt (omega (arith, c.requires.room)) (rw (c.read-at.ensures, c.read-len.ensures) at c.put_words.ensures))

pub invariant_of-self : goal.invariant_of-self
invariant_of-self c = (changed c).good

pub returns : goal.returns
returns c = rw (← c.self.view_is) (record { laid = good_laid _ _ (changed c).good; after = changed_view c.self.inside.words.now _ c.self.inside.count c.args.i (omega (arith, c.write.auto.w, c.put_words.auto.w)) _ (changed c) })
