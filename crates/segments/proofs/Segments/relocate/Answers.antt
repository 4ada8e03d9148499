use Rattle.std.proofs.Common.{◌≡◌, ℕ, ◌+◌, ◌*◌, ◌<◌, ◌≤◌, ◌⊎◌, List, length, arith}
use Rattle.segments.specs.Layout.{table, Moved, Free}
use Rattle.segments.specs.Table.{Table, nth}
use Rattle.segments.proofs.Views.{good_laid, count_is, lent_is, start_is, room_is, moved_view, here}
use Rattle.segments.proofs.SegmentLaws.{moved_is}
use Rattle.segments.proofs.Segments.relocate.Goals.{After-write-2}
use Rattle.segments.proofs.Segments.relocate.Goals as goal

pub read-at-requires : goal.read-at-requires
read-at-requires c = (here c.self.inside.words.now c.self.inside.count c.args.self.now c.args.i c.self.invariant c.self.view_is c.requires.there).row

pub read-len-requires : goal.read-len-requires
read-len-requires c = (here c.self.inside.words.now c.self.inside.count c.args.self.now c.args.i c.self.invariant c.self.view_is c.requires.there).row

-- how the words lie
bound : (w : List ℕ) (n to : ℕ) (t : Table) → table w n ≡ t → to ≤ t.lent → to ≤ length w
bound w n to t e h = rw (lent_is w n) at (rw (← e) at h)

behind : (w : List ℕ) (n to : ℕ) (t : Table) → table w n ≡ t → 8 * length t.segments ≤ to → 8 * n ≤ to
behind w n to t e h = rw (count_is w n) at (rw (← e) at h)

clear : (w : List ℕ) (n lo u : ℕ) (t : Table) → table w n ≡ t → ((k : ℕ) → k < length t.segments → (u ≤ (nth t k).start) ⊎ ((nth t k).start + (nth t k).room ≤ lo)) → Free w n lo u
clear w n lo u t e f k h =
    let g = rw (← e) at f in
    rw (start_is w n k h, room_is w n k h) at (g k (omega (arith, count_is w n)))

pub move_words-requires : goal.move_words-requires
move_words-requires c =
    let f = here c.self.inside.words.now c.self.inside.count c.args.self.now c.args.i c.self.invariant c.self.view_is c.requires.there in
    let b = bound c.self.inside.words.now c.self.inside.count _ _ c.self.view_is c.requires.in_bounds in
    record { to_in_bounds = omega (arith, c.read-len.ensures, c.requires.fits); at_in_bounds = omega (arith, c.read-at.ensures, c.read-len.ensures) }

pub write-requires : goal.write-requires
write-requires c = let f = here c.self.inside.words.now c.self.inside.count c.args.self.now c.args.i c.self.invariant c.self.view_is c.requires.there in omega (arith, c.move_words.auto.w)

pub write-requires-2 : goal.write-requires-2
write-requires-2 c = let f = here c.self.inside.words.now c.self.inside.count c.args.self.now c.args.i c.self.invariant c.self.view_is c.requires.there in omega (arith, c.move_words.auto.w, c.write.auto.w)

gone : (c : After-write-2) → Moved c.self.inside.words.now c.write-2.new.w c.self.inside.count c.args.i c.args.to c.args.room
gone c =
    let f = here c.self.inside.words.now c.self.inside.count c.args.self.now c.args.i c.self.invariant c.self.view_is c.requires.there in
    rw (c.write-2.ensures, c.write.ensures)
    (moved_is c.self.inside.words.now c.move_words.new.w c.self.inside.count c.args.i c.args.to c.args.room c.self.invariant f.lt (omega (arith, c.requires.fits))
    (behind c.self.inside.words.now c.self.inside.count _ _ c.self.view_is c.requires.behind_table) (bound c.self.inside.words.now c.self.inside.count _ _ c.self.view_is c.requires.in_bounds) (clear c.self.inside.words.now c.self.inside.count _ _ _ c.self.view_is c.requires.free)
    (rw (c.read-len.ensures, c.read-at.ensures) at c.move_words.ensures))

pub invariant_of-self : goal.invariant_of-self
invariant_of-self c = (gone c).good

pub returns : goal.returns
returns c = rw (← c.self.view_is) (record { laid = good_laid _ _ (gone c).good; after = moved_view c.self.inside.words.now _ c.self.inside.count c.args.i (omega (arith, c.write-2.auto.w, c.write.auto.w, c.move_words.auto.w)) c.args.to c.args.room (gone c) })
