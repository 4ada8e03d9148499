use Rattle.std.proofs.Common.{◌≡◌, ℕ, ◌+◌, ◌*◌, ◌<◌, ◌≤◌, List, length, arith}
use Rattle.segments.specs.Layout.{start, table, Opened}
use Rattle.segments.specs.Table.{Table, nth}
use Rattle.segments.proofs.Views.{good_laid, count_is, lent_is, start_is, opened_view}
use Rattle.segments.proofs.Entries.{opened_is}
use Rattle.segments.proofs.Segments.open.Goals.{After-write-4}
use Rattle.segments.proofs.Segments.open.Goals as goal

-- how the words lie
behind : (w : List ℕ) (n to : ℕ) (t : Table) → table w n ≡ t → 8 * length t.segments + 8 ≤ to → to ≤ t.lent → (8 * n + 8 ≤ to) × (to ≤ length w)
behind w n to t e h l =
    let a = rw (← e) at h in
    let b = rw (← e) at l in
    (omega (arith, a, count_is w n), omega (arith, b, lent_is w n))

under : (w : List ℕ) (n to : ℕ) (t : Table) → table w n ≡ t → ((k : ℕ) → k < length t.segments → to ≤ (nth t k).start) → (k : ℕ) → k < n → to ≤ start w k
under w n to t e f k h =
    let g = rw (← e) at f in
    rw (start_is w n k h) at (g k (omega (arith, count_is w n)))

pub write-requires : goal.write-requires
write-requires c = let b = behind c.self.inside.words.now c.self.inside.count _ _ c.self.view_is c.requires.behind_table c.requires.in_bounds in omega arith

pub write-requires-2 : goal.write-requires-2
write-requires-2 c = let b = behind c.self.inside.words.now c.self.inside.count _ _ c.self.view_is c.requires.behind_table c.requires.in_bounds in omega (arith, c.write.auto.w)

pub write-requires-3 : goal.write-requires-3
write-requires-3 c = let b = behind c.self.inside.words.now c.self.inside.count _ _ c.self.view_is c.requires.behind_table c.requires.in_bounds in omega (arith, c.write.auto.w, c.write-2.auto.w)

pub write-requires-4 : goal.write-requires-4
write-requires-4 c = let b = behind c.self.inside.words.now c.self.inside.count _ _ c.self.view_is c.requires.behind_table c.requires.in_bounds in omega (arith, c.write.auto.w, c.write-2.auto.w, c.write-3.auto.w)

new : (c : After-write-4) → Opened c.self.inside.words.now c.write-4.new.w c.self.inside.count c.args.at
new c =
    let b = behind c.self.inside.words.now c.self.inside.count _ _ c.self.view_is c.requires.behind_table c.requires.in_bounds in
    rw (c.write-4.ensures, c.write-3.ensures, c.write-2.ensures, c.write.ensures)
    (opened_is c.self.inside.words.now c.self.inside.count c.args.at c.self.invariant b.0 b.1 (under c.self.inside.words.now c.self.inside.count _ _ c.self.view_is c.requires.in_front))

pub invariant_of-self : goal.invariant_of-self
invariant_of-self c = (new (goal.at.invariant_of-self c).After-write-4).good

pub returns : goal.returns
returns c = rw (← c.self.view_is) (record { laid = good_laid _ _ (new (goal.at.returns c).After-write-4).good; after = opened_view c.self.inside.words.now _ c.self.inside.count c.args.at (omega (arith, c.write.auto.w, c.write-2.auto.w, c.write-3.auto.w, c.write-4.auto.w)) (new (goal.at.returns c).After-write-4) })
