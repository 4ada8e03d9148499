-- Segments of growable length in a list of words. In front a table, eight words for each.
use Rattle.std.specs.Prelude.{◌≡◌, ℕ, ◌+◌, ◌*◌, ◌/◌, ◌<◌, ◌≤◌, ◌≢◌, ◌⊎◌, List, [], ◌∷◌, ◌++◌, map, length, take, drop, sum_by, nat_eq, slice_set}
use Rattle.std.specs.List.{range_with_len}
use Rattle.segments.specs.Words.{at64, put64}
use Rattle.segments.specs.Table.{Segment, Table}
use Rattle.segments.specs.declared.Part.{Part}
use Rattle.segments.specs.declared.Part.TheVariants.{Start, Size, Room, Mark}

-- where a part of an entry stands
abbrev pub place : Part → ℕ
place Start = 0
place Size = 2
place Room = 4
place Mark = 6

-- the number at c of the table's entry i
unfoldable pub field : List ℕ → ℕ → ℕ → ℕ
field w i c = at64 w (8 * i + c)

unfoldable pub filed : List ℕ → ℕ → ℕ → ℕ → List ℕ
filed w i c v = put64 w (8 * i + c) v

-- where segment i begins, how many words it has, how many it has room for, and 1 where it is in use
abbrev pub start : List ℕ → ℕ → ℕ
start w i = field w i 0

abbrev pub size : List ℕ → ℕ → ℕ
size w i = field w i 2

abbrev pub room : List ℕ → ℕ → ℕ
room w i = field w i 4

abbrev pub mark : List ℕ → ℕ → ℕ
mark w i = field w i 6

unfoldable pub seg : List ℕ → ℕ → List ℕ
seg w i = take (size w i) (drop (start w i) w)

-- what the words stand for
unfoldable pub segs : List ℕ → ℕ → List (List ℕ)
segs w n = map (seg w) (range_with_len 0 n)

pub record Good (w : List ℕ) (n : ℕ) : Type 0 where
  pub table : 8 * n ≤ length w
  pub fits : (i : ℕ) → i < n → size w i ≤ room w i
  pub above : (i : ℕ) → i < n → 8 * n ≤ start w i
  pub below : (i : ℕ) → i < n → start w i + room w i ≤ length w
  pub apart : (i j : ℕ) → i < n → j < n → j ≢ i → (start w i + room w i ≤ start w j) ⊎ (start w j + room w j ≤ start w i)

-- no segment lies in the words from lo up to u
abbrev pub Free : List ℕ → ℕ → ℕ → ℕ → Type 0
Free w n lo u = (k : ℕ) → k < n → (u ≤ start w k) ⊎ (start w k + room w k ≤ lo)

-- segment i is now x, and nothing else has changed
pub record Changed (w w' : List ℕ) (n i : ℕ) (x : List ℕ) : Type 0 where
  pub good : Good w' n
  pub after : segs w' n ≡ slice_set (segs w n) i x
  pub places : (k : ℕ) → k < n → (start w' k ≡ start w k) × (room w' k ≡ room w k)
  pub used : (k : ℕ) → k < n → mark w' k ≡ mark w k

-- segment i now lies at `to`, with room r, and nothing else has changed
pub record Moved (w w' : List ℕ) (n i to r : ℕ) : Type 0 where
  pub good : Good w' n
  pub same : segs w' n ≡ segs w n
  pub sizes : (k : ℕ) → k < n → size w' k ≡ size w k
  pub place : (start w' i ≡ to) × (room w' i ≡ r)
  pub others : (k : ℕ) → k < n → k ≢ i → (start w' k ≡ start w k) × (room w' k ≡ room w k)
  pub used : (k : ℕ) → k < n → mark w' k ≡ mark w k

-- how many words the lists have, and how many they get where all are moved: a quarter more
unfoldable pub need : List (List ℕ) → ℕ
need xs = sum_by length xs

unfoldable pub spread : List (List ℕ) → ℕ
spread xs = sum_by (λ x. length x + length x / 4) xs

-- segment i is now what j was, and j what i was; nothing else has changed
pub record Exchanged (w w' : List ℕ) (n i j : ℕ) : Type 0 where
  pub good : Good w' n
  pub left : (start w' i ≡ start w j) × (room w' i ≡ room w j) × (seg w' i ≡ seg w j)
  pub right : (start w' j ≡ start w i) × (room w' j ≡ room w i) × (seg w' j ≡ seg w i)
  pub others : (k : ℕ) → k < n → k ≢ i → k ≢ j → (start w' k ≡ start w k) × (room w' k ≡ room w k) × (seg w' k ≡ seg w k)
  pub used : (k : ℕ) → k < n → mark w' k ≡ mark w k

-- segment n is there now, with nothing in it, and in use
pub record Opened (w w' : List ℕ) (n at : ℕ) : Type 0 where
  pub good : Good w' (n + 1)
  pub after : segs w' (n + 1) ≡ segs w n ++ ([] ∷ [])
  pub place : (start w' n ≡ at) × (room w' n ≡ 0)
  pub bare : size w' n ≡ 0
  pub sizes : (k : ℕ) → k < n → size w' k ≡ size w k
  pub places : (k : ℕ) → k < n → (start w' k ≡ start w k) × (room w' k ≡ room w k)
  pub used : (k : ℕ) → k < n → mark w' k ≡ mark w k
  pub live : mark w' n ≡ 1

-- the mark of segment i is now v, and nothing else has changed
pub record Marked (w w' : List ℕ) (n i v : ℕ) : Type 0 where
  pub good : Good w' n
  pub same : segs w' n ≡ segs w n
  pub places : (k : ℕ) → k < n → (start w' k ≡ start w k) × (room w' k ≡ room w k)
  pub sizes : (k : ℕ) → k < n → size w' k ≡ size w k
  pub here : mark w' i ≡ v
  pub others : (k : ℕ) → k < n → k ≢ i → mark w' k ≡ mark w k

-- what the words say of segment k, and of the first n
abbrev pub entry : List ℕ → ℕ → Segment
entry w k = record { start = start w k; room = room w k; words = seg w k; used = nat_eq (mark w k) 1 }

unfoldable pub table : List ℕ → ℕ → Table
table w n = record { lent = length w; segments = map (entry w) (range_with_len 0 n) }
