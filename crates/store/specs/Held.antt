-- A store, by the lists of words that it stands for.
use Rattle.std.specs.Prelude.{◌≡◌, ℕ, ◌+◌, ◌-◌, ◌*◌, ◌/◌, ◌<◌, ◌≤◌, Bool, true, false, List, [], length, replicate}
use Rattle.segments.specs.Table.{nth, segs, marks, tense, strain}
use Rattle.store.specs.Layout.{Layout, lists, lives, Inv}
use Rattle.store.specs.Sums.{asked}

-- what the invariant says of a store
abbrev pub Sound : Layout → Type 0
Sound s = Inv s.table s.half s.hi s.low s.total s.hint

-- lists that lie elsewhere now, and all else as it was
pub record Shifted (s s' : Layout) : Type 0 where
  pub half : s'.half ≡ s.half
  pub total : s'.total ≡ s.total
  pub same : segs s'.table ≡ segs s.table
  pub used : marks s'.table ≡ marks s.table

-- how many words are free in the half in use
abbrev pub free : Layout → ℕ
free s = (s.low + s.half) - (s.hi + 8 * length s.table.segments)

-- the words moved so far, and what the next move of all lists still lacks, once ask words are taken
abbrev pub pressed : Layout → ℕ → ℕ
pressed s ask = s.moved + 8 * (s.half / 8 - (free s - ask))

-- nothing has moved; or the half was used up, and now, beside the words asked for, an eighth of it is free
pub data Seldom (s s' : Layout) (ask : ℕ) : Type 0 where
  stayed : s' ≡ s → Seldom s s' ask
  changed : free s < ask → s.half / 8 + ask ≤ free s' → Seldom s s' ask

-- once list i, of len words, has more words, all is paid for by 128 for each of them
abbrev pub Paid : Layout → Layout → ℕ → ℕ → ℕ → Type 0
Paid s s' i len more = (x : ℕ) → x + tense (nth s'.table i) ≡ strain s'.table + (5 * (len + more) - (4 * (nth s'.table i).room + 3)) →
    pressed s' 0 + 13 * x ≤ pressed s 0 + 13 * strain s.table + 128 * more

-- lists that may lie elsewhere now, such that list i has room for more words, and the room is paid for
pub record Reserved (s s' : Layout) (i more : ℕ) : Type 0 where
  pub shifted : Shifted s s'
  pub live : (nth s.table i).used ≡ true
  pub room : length (nth s'.table i).words + more ≤ (nth s'.table i).room
  pub spare : s.total + s.total / 4 + 8 * length s.table.segments + s.half / 8 + asked (length (nth s.table i).words + more) ≤ s.half
  pub cost : Paid s s' i (length (nth s.table i).words) more

-- What other crates see: a store that is in order, the lists that it stands for, its half with which numbers are in use,
-- and the words moved so far with what is paid in for the moves to come.
unfoldable pub Held : Layout → Type 0
Held s = Sound s

unfoldable pub model : Layout → List (List ℕ)
model s = lists s.table s.half

unfoldable pub bounds : Layout → ℕ × List Bool
bounds s = (s.half, lives s.table s.half)

unfoldable pub shifts : Layout → ℕ
shifts s = s.moved

unfoldable pub spent : Layout → ℕ
spent s = pressed s 0 + 13 * strain s.table

-- a store in so many words, with nothing in it
pub record Empty (all : ℕ) (s : Layout) : Type 0 where
  pub held : Held s
  pub long : 64 ≤ all
  pub numbers : bounds s ≡ (all / 2, replicate (all / 2) false)
  pub none : model s ≡ replicate (all / 2) []
  pub cost : spent s ≡ 0
