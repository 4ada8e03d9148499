-- Stores whose numbers in use are those below their count, and blocks of numbers in a row.
use Rattle.std.specs.Prelude.{◌≡◌, ℕ, zero, suc, ◌+◌, ◌-◌, ◌*◌, ◌/◌, ◌<◌, ◌≤◌, Bool, true, false, cond, ◌||◌, ◌⊎◌, List, [], ◌∷◌, ◌++◌, length, replicate, Some, None, Err, Option, nat_lt, slice_index_or, slice_set}
use Rattle.std.specs.List.{prefix_len}
use Rattle.segments.specs.Layout.{need}
use Rattle.store.specs.declared.Refusal.TheVariants.{NoRoom}
use Rattle.store.specs.Sums.{extent, asked, enough, told}

-- no number below the last in use is out of use
abbrev pub Dense : List Bool → Type 0
Dense live = prefix_len (λ b. b) live ≡ extent live

-- how many numbers are in use
unfoldable pub in_use_count : List Bool → ℕ
in_use_count [] = 0
in_use_count (b ∷ bs) = cond b (1 + in_use_count bs) (in_use_count bs)

-- the k numbers from `at` on are marked b
unfoldable pub marked : List Bool → ℕ → ℕ → Bool → List Bool
marked live at zero b = live
marked live at (suc k) b = slice_set (marked live at k b) (at + k) b

-- list j takes the place of list i, and nothing is left at j
abbrev pub replaced : List (List ℕ) → ℕ → ℕ → List (List ℕ)
replaced m i j = slice_set (slice_set m i (slice_index_or m j [])) j []

-- the k lists from j on take the places from i on, the last of them first
unfoldable pub replaced_block : List (List ℕ) → ℕ → ℕ → ℕ → List (List ℕ)
replaced_block m i j zero = m
replaced_block m i j (suc k) = replaced_block (replaced m (i + k) (j + k)) i j k

-- the answer to one who asks for a fresh number, and for k of them in a row
abbrev pub offered : ℕ × List Bool → List (List ℕ) → Option ℕ
offered b m = cond (nat_lt (prefix_len (λ b. b) b.1) (extent b.1) || enough b m 8) (Some (prefix_len (λ b. b) b.1)) None

abbrev pub offered_block : ℕ × List Bool → List (List ℕ) → ℕ → Option ℕ
offered_block b m k = cond (enough b m (8 * k)) (Some (extent b.1)) None

-- An empty store is dense, and the calls keep a store dense.
abbrev pub DenseEmpty : Type 0
DenseEmpty = (n : ℕ) → Dense (replicate n false)

abbrev pub DenseFresh : Type 0
DenseFresh = (live : List Bool) → Dense live → Dense (slice_set live (prefix_len (λ b. b) live) true)

abbrev pub DenseRemove : Type 0
DenseRemove = (live : List Bool) → Dense live → Dense (slice_set live (extent live - 1) false)

abbrev pub DenseFreshBlock : Type 0
DenseFreshBlock = (live : List Bool) (k : ℕ) → Dense live → extent live + k ≤ length live →
    Dense (marked live (extent live) k true) × (in_use_count (marked live (extent live) k true) ≡ in_use_count live + k)

abbrev pub DenseRemoveBlock : Type 0
DenseRemoveBlock = (live : List Bool) (k : ℕ) → Dense live → k ≤ extent live →
    Dense (marked live (extent live - k) k false) × (in_use_count (marked live (extent live - k) k false) ≡ in_use_count live - k)

-- In a dense store the numbers in use are those below their count.
abbrev pub DenseCount : Type 0
DenseCount = (live : List Bool) → Dense live → (extent live ≡ in_use_count live) × ((i : ℕ) → slice_index_or live i false ≡ nat_lt i (in_use_count live))

-- They are marked in front, and none behind.
abbrev pub DenseShape : Type 0
DenseShape = (live : List Bool) → Dense live → live ≡ replicate (in_use_count live) true ++ replicate (length live - in_use_count live) false

abbrev pub ShapeDense : Type 0
ShapeDense = (n m : ℕ) → Dense (replicate n true ++ replicate m false) × (in_use_count (replicate n true ++ replicate m false) ≡ n)

-- What a block that takes the place of another leaves where: list i + q is what list j + q was, the lists from j on are empty, and all others stay.
abbrev pub BlockMoves : Type 0
BlockMoves = (m : List (List ℕ)) (i j k : ℕ) → i + k ≤ j → j + k ≤ length m →
    ((q : ℕ) → q < k → slice_index_or (replaced_block m i j k) (i + q) [] ≡ slice_index_or m (j + q) []) ×
    ((q : ℕ) → q < k → slice_index_or (replaced_block m i j k) (j + q) [] ≡ []) ×
    ((q : ℕ) → (q < i) ⊎ (i + k ≤ q) → (q < j) ⊎ (j + k ≤ q) → slice_index_or (replaced_block m i j k) q [] ≡ slice_index_or m q [])

-- What a refusal in a dense store tells of the words lent, by the lists in use and the words held: of a list that was to have m words,
-- of a fresh number, and of k of them.
abbrev pub FewForWords : Type 0
FewForWords = (all : ℕ) (b : ℕ × List Bool) (ms : List (List ℕ)) (i m : ℕ) → b.0 ≡ all / 2 → Dense b.1 →
    told (slice_index_or b.1 i false) (enough b ms (asked m)) ≡ Err NoRoom → all < 3 * need ms + 19 * in_use_count b.1 + 4 * m + 20

abbrev pub FewForFresh : Type 0
FewForFresh = (all : ℕ) (b : ℕ × List Bool) (ms : List (List ℕ)) → b.0 ≡ all / 2 → Dense b.1 →
    offered b ms ≡ None → all < 3 * need ms + 19 * in_use_count b.1 + 20

abbrev pub FewForBlock : Type 0
FewForBlock = (all : ℕ) (b : ℕ × List Bool) (ms : List (List ℕ)) (k : ℕ) → b.0 ≡ all / 2 → Dense b.1 →
    offered_block b ms k ≡ None → all < 3 * need ms + 19 * (in_use_count b.1 + k) + 20
