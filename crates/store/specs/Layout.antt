-- A store by its fields: the segments, and where they lie.
use Rattle.std.specs.Prelude.{◌≡◌, ℕ, ◌+◌, ◌-◌, ◌*◌, ◌/◌, ◌^◌, ◌<◌, ◌≤◌, Bool, true, false, ◌⊎◌, List, [], ◌++◌, length, replicate}
use Rattle.segments.specs.Layout.{need}
use Rattle.segments.specs.Table.{Table, nth, segs, marks, Laid, Within}

-- Half of the words lent; the segments lie in the words from low up to hi; they hold `total` words; those with a number below the hint
-- are in use; so many words have been moved so far.
pub record Layout : Type 0 where
  pub table : Table
  pub half : ℕ
  pub hi : ℕ
  pub low : ℕ
  pub total : ℕ
  pub hint : ℕ
  pub moved : ℕ

-- as many lists as a half has words; those behind the table are empty and not in use
unfoldable pub lists : Table → ℕ → List (List ℕ)
lists t half = segs t ++ replicate (half - length t.segments) []

unfoldable pub lives : Table → ℕ → List Bool
lives t half = marks t ++ replicate (half - length t.segments) false

-- The lists lie in the words from low up to hi, the end of the first half or of the second, and the table in front of both; each has room for
-- its words, and no two of them meet.
pub record Inv (t : Table) (half hi low total hint : ℕ) : Type 0 where
  pub laid : Laid t
  pub within : Within t 0 low hi
  pub side : (hi ≡ half) ⊎ (hi ≡ half + half)
  pub floor : hi + 8 * length t.segments ≤ low + half
  pub ceil : low ≤ hi
  pub long : half + half ≤ t.lent
  pub small : half < 2 ^ 60
  pub sum : total ≡ need (segs t)
  pub bound : total + total / 4 + 8 * length t.segments + half / 8 ≤ half
  pub tight : (length t.segments ≡ 0) ⊎ ((nth t (length t.segments - 1)).used ≡ true)
  pub known : hint ≤ length t.segments
  pub below : (k : ℕ) → k < hint → (nth t k).used ≡ true
  pub empty : (k : ℕ) → (nth t k).used ≡ false → (nth t k).words ≡ []
