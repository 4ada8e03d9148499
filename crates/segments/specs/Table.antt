-- Segments in lent words, by what they hold.
use Rattle.std.specs.Prelude.{◌≡◌, ℕ, zero, suc, ◌+◌, ◌-◌, ◌*◌, ◌<◌, ◌≤◌, Bool, true, false, ◌≢◌, ◌⊎◌, List, [], ◌∷◌, ◌++◌, map, length, slice_index_or, slice_set}

-- where a segment begins, how many words it has room for, its words, and whether it is in use
pub record Segment : Type 0 where
  pub start : ℕ
  pub room : ℕ
  pub words : List ℕ
  pub used : Bool

-- so many words, and the segments in them
pub record Table : Type 0 where
  pub lent : ℕ
  pub segments : List Segment

abbrev pub none : Segment
none = record { start = 0; room = 0; words = []; used = false }

abbrev pub nth : Table → ℕ → Segment
nth t i = slice_index_or t.segments i none

-- the words of all, and which are in use
unfoldable pub segs : Table → List (List ℕ)
segs t = map (λ s. s.words) t.segments

unfoldable pub marks : Table → List Bool
marks t = map (λ s. s.used) t.segments

-- segment i is now s
abbrev pub placed : Table → ℕ → Segment → Table
placed t i s = record { lent = t.lent; segments = slice_set t.segments i s }

-- segment i has the words x; it lies at `to`, with so much room; it is in use or not
abbrev pub written : Table → ℕ → List ℕ → Table
written t i x = placed t i (record { start = (nth t i).start; room = (nth t i).room; words = x; used = (nth t i).used })

abbrev pub moved : Table → ℕ → ℕ → ℕ → Table
moved t i to room = placed t i (record { start = to; room = room; words = (nth t i).words; used = (nth t i).used })

abbrev pub marked : Table → ℕ → Bool → Table
marked t i b = placed t i (record { start = (nth t i).start; room = (nth t i).room; words = (nth t i).words; used = b })

-- segment j as it is in use where segment i is
abbrev pub as_used : Table → ℕ → ℕ → Segment
as_used t j i = record { start = (nth t j).start; room = (nth t j).room; words = (nth t j).words; used = (nth t i).used }

-- segments i and j have changed places; which numbers are in use stays
abbrev pub exchanged : Table → ℕ → ℕ → Table
exchanged t i j = placed (placed t i (as_used t j i)) j (as_used t i j)

-- one segment more, with nothing in it, and in use
abbrev pub opened : Table → ℕ → Table
opened t at = record { lent = t.lent; segments = t.segments ++ (record { start = at; room = 0; words = []; used = true } ∷ []) }

-- segment i is not in use any more, and the table ends behind the last that is
pub record Retired (t t' : Table) (i : ℕ) : Type 0 where
  pub lent : t'.lent ≡ t.lent
  pub within : length t'.segments ≤ length t.segments
  pub before : (k : ℕ) → k < length t'.segments → nth t' k ≡ nth (marked t i false) k
  pub behind : (k : ℕ) → length t'.segments ≤ k → (nth (marked t i false) k).used ≡ false
  pub last : (length t'.segments ≡ 0) ⊎ ((nth t' (length t'.segments - 1)).used ≡ true)

-- the segments lie behind the table, in the words lent, each with room for its words, and no two of them meet
pub record Laid (t : Table) : Type 0 where
  pub table : 8 * length t.segments ≤ t.lent
  pub fits : (i : ℕ) → i < length t.segments → length (nth t i).words ≤ (nth t i).room
  pub above : (i : ℕ) → i < length t.segments → 8 * length t.segments ≤ (nth t i).start
  pub below : (i : ℕ) → i < length t.segments → (nth t i).start + (nth t i).room ≤ t.lent
  pub apart : (i j : ℕ) → i < length t.segments → j < length t.segments → j ≢ i →
      ((nth t i).start + (nth t i).room ≤ (nth t j).start) ⊎ ((nth t j).start + (nth t j).room ≤ (nth t i).start)

-- the segments from k on lie in the words from lo up to u
abbrev pub Within : Table → ℕ → ℕ → ℕ → Type 0
Within t k lo u = (i : ℕ) → k ≤ i → i < length t.segments → (lo ≤ (nth t i).start) × ((nth t i).start + (nth t i).room ≤ u)

-- no segment lies in the words from lo up to u
abbrev pub Free : Table → ℕ → ℕ → Type 0
Free t lo u = (k : ℕ) → k < length t.segments → (u ≤ (nth t k).start) ⊎ ((nth t k).start + (nth t k).room ≤ lo)

-- How far a segment is into the last fifth of its room, for all of them together: what was paid in for the next move of it.
abbrev pub tense : Segment → ℕ
tense s = 5 * length s.words - (4 * s.room + 3)

unfoldable pub upto : (ℕ → ℕ) → ℕ → ℕ
upto f zero = 0
upto f (suc n) = upto f n + f n

abbrev pub strain : Table → ℕ
strain t = upto (λ k. tense (nth t k)) (length t.segments)
