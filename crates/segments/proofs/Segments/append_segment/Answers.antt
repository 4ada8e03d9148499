use Rattle.std.proofs.Common.{◌++◌, arith}
use Rattle.std.proofs.lemmas.List.{append-nil}
use Rattle.segments.specs.Layout.{table, Changed}
use Rattle.segments.specs.Table.{nth}
use Rattle.segments.proofs.Views.{good_laid, segs_are, changed_view, here}
use Rattle.segments.proofs.Placed.{written_same, nth_past}
use Rattle.segments.proofs.SegmentLaws.{appended}
use Rattle.segments.proofs.Segments.append_segment.Goals.{After-write}
use Rattle.segments.proofs.Segments.append_segment.Goals as goal

pub returns-then-j-count : goal.returns-then-j-count
returns-then-j-count c =
    record { laid = c.count.ensures.laid; after = written_same c.args.self.now c.args.i _ (rw (nth_past c.args.self.now c.args.j (omega (arith, c.count.ensures.is, c.if-j-count.true)), append-nil)) }

pub read-at-requires : goal.read-at-requires
read-at-requires c = (here c.self.inside.words.now c.self.inside.count c.args.self.now c.args.i c.self.invariant c.self.view_is c.requires.there).row

pub read-len-requires : goal.read-len-requires
read-len-requires c = (here c.self.inside.words.now c.self.inside.count c.args.self.now c.args.i c.self.invariant c.self.view_is c.requires.there).row

pub read-from-requires : goal.read-from-requires
read-from-requires c = (here c.self.inside.words.now c.self.inside.count c.args.self.now c.args.j c.self.invariant c.self.view_is (omega (arith, c.count.ensures.is, c.if-j-count.false))).row

pub read-more-requires : goal.read-more-requires
read-more-requires c = (here c.self.inside.words.now c.self.inside.count c.args.self.now c.args.j c.self.invariant c.self.view_is (omega (arith, c.count.ensures.is, c.if-j-count.false))).row

pub overflow_add-at : goal.overflow_add-at
overflow_add-at c = let f = here c.self.inside.words.now c.self.inside.count c.args.self.now c.args.i c.self.invariant c.self.view_is c.requires.there in omega (arith, c.read-at.ensures, c.read-len.ensures, c.self.told)

pub copy_words-requires : goal.copy_words-requires
copy_words-requires c =
    let f = here c.self.inside.words.now c.self.inside.count c.args.self.now c.args.i c.self.invariant c.self.view_is c.requires.there in
    let e = here c.self.inside.words.now c.self.inside.count c.args.self.now c.args.j c.self.invariant c.self.view_is (omega (arith, c.count.ensures.is, c.if-j-count.false)) in
    record {
      to_in_bounds = omega (arith, c.read-at.ensures, c.read-len.ensures, c.read-more.ensures, c.requires.room);
      at_in_bounds = omega (arith, c.read-from.ensures, c.read-more.ensures);
    }

pub overflow_add-len : goal.overflow_add-len
overflow_add-len c =
    let f = here c.self.inside.words.now c.self.inside.count c.args.self.now c.args.i c.self.invariant c.self.view_is c.requires.there in
    let e = here c.self.inside.words.now c.self.inside.count c.args.self.now c.args.j c.self.invariant c.self.view_is (omega (arith, c.count.ensures.is, c.if-j-count.false)) in omega (arith, c.read-len.ensures, c.read-more.ensures, c.requires.room, c.self.told)

pub write-requires : goal.write-requires
write-requires c = let f = here c.self.inside.words.now c.self.inside.count c.args.self.now c.args.i c.self.invariant c.self.view_is c.requires.there in omega (arith, c.copy_words.auto.w)

changed : (c : After-write) → Changed c.self.inside.words.now c.write.new.w c.self.inside.count c.args.i ((nth (table c.self.inside.words.now c.self.inside.count) c.args.i).words ++ (nth (table c.self.inside.words.now c.self.inside.count) c.args.j).words)
changed c =
    let f = here c.self.inside.words.now c.self.inside.count c.args.self.now c.args.i c.self.invariant c.self.view_is c.requires.there in
    let e = here c.self.inside.words.now c.self.inside.count c.args.self.now c.args.j c.self.invariant c.self.view_is (omega (arith, c.count.ensures.is, c.if-j-count.false)) in
    rw (← segs_are c.self.inside.words.now c.self.inside.count c.args.i, ← segs_are c.self.inside.words.now c.self.inside.count c.args.j, c.write.ensures, c.read-len.ensures, c.read-more.ensures)
    (appended c.self.inside.words.now c.self.inside.count c.self.invariant _ c.args.i c.args.j f.lt e.lt (omega (arith, c.requires.room))
    (rw (c.read-at.ensures, c.read-len.ensures, c.read-more.ensures, c.read-from.ensures) at c.copy_words.ensures))

pub invariant_of-self : goal.invariant_of-self
invariant_of-self c = (changed c).good

pub returns : goal.returns
returns c = rw (← c.self.view_is) (record { laid = good_laid _ _ (changed c).good; after = changed_view c.self.inside.words.now _ c.self.inside.count c.args.i (omega (arith, c.write.auto.w, c.copy_words.auto.w)) _ (changed c) })
