use Rattle.std.proofs.Common.{◌+◌, [], ◌∷◌, ◌++◌, arith}
use Rattle.std.proofs.lemmas.List.{length-set}
use Rattle.segments.specs.Layout.{size, start, table, Changed}
use Rattle.segments.specs.Table.{nth}
use Rattle.segments.proofs.WordLaws.{word_written}
use Rattle.segments.proofs.Views.{good_laid, segs_are, changed_view, here}
use Rattle.segments.proofs.SegmentLaws.{grown}
use Rattle.segments.proofs.Segments.append_word.Goals.{After-write}
use Rattle.segments.proofs.Segments.append_word.Goals as goal

pub read-at-requires : goal.read-at-requires
read-at-requires c = (here c.self.inside.words.now c.self.inside.count c.args.self.now c.args.i c.self.invariant c.self.view_is c.requires.there).row

pub read-len-requires : goal.read-len-requires
read-len-requires c = (here c.self.inside.words.now c.self.inside.count c.args.self.now c.args.i c.self.invariant c.self.view_is c.requires.there).row

pub overflow_add-w : goal.overflow_add-w
overflow_add-w c = let f = here c.self.inside.words.now c.self.inside.count c.args.self.now c.args.i c.self.invariant c.self.view_is c.requires.there in omega (arith, c.read-at.ensures, c.read-len.ensures, c.requires.room, c.self.told)

pub offset_bounds-w-at : goal.offset_bounds-w-at
offset_bounds-w-at c = let f = here c.self.inside.words.now c.self.inside.count c.args.self.now c.args.i c.self.invariant c.self.view_is c.requires.there in omega (arith, c.read-at.ensures, c.read-len.ensures, c.requires.room, c.self.told)

pub bounds-w-at : goal.bounds-w-at
bounds-w-at c = let f = here c.self.inside.words.now c.self.inside.count c.args.self.now c.args.i c.self.invariant c.self.view_is c.requires.there in omega (arith, c.read-at.ensures, c.read-len.ensures, c.requires.room)

pub overflow_add-len : goal.overflow_add-len
overflow_add-len c = let f = here c.self.inside.words.now c.self.inside.count c.args.self.now c.args.i c.self.invariant c.self.view_is c.requires.there in omega (arith, c.read-len.ensures, c.requires.room, c.self.told)

pub write-requires : goal.write-requires
write-requires c = let f = here c.self.inside.words.now c.self.inside.count c.args.self.now c.args.i c.self.invariant c.self.view_is c.requires.there in omega (arith, length-set c.self.inside.words.now (c.read-at.result + c.read-len.result) c.args.v)

changed : (c : After-write) → Changed c.self.inside.words.now c.write.new.w c.self.inside.count c.args.i ((nth (table c.self.inside.words.now c.self.inside.count) c.args.i).words ++ (c.args.v ∷ []))
changed c =
    let f = here c.self.inside.words.now c.self.inside.count c.args.self.now c.args.i c.self.invariant c.self.view_is c.requires.there in
    rw (← segs_are c.self.inside.words.now c.self.inside.count c.args.i, c.write.ensures, c.read-len.ensures, c.read-at.ensures)
    (grown c.self.inside.words.now c.self.inside.count c.self.invariant _ c.args.i ((c.args.v ∷ [])) f.lt (omega (arith, c.requires.room)) (word_written c.self.inside.words.now (start c.self.inside.words.now c.args.i + size c.self.inside.words.now c.args.i) c.args.v (omega arith)))

pub invariant_of-self : goal.invariant_of-self
invariant_of-self c = (changed c).good

pub returns : goal.returns
returns c = rw (← c.self.view_is) (record { laid = good_laid _ _ (changed c).good; after = changed_view c.self.inside.words.now _ c.self.inside.count c.args.i (omega (arith, c.write.auto.w, length-set c.self.inside.words.now (c.read-at.result + c.read-len.result) c.args.v)) _ (changed c) })
