-- A number of 64 bits in two words, the low one first, and a stretch of words that is written.
use Rattle.std.specs.Prelude.{◌≡◌, ℕ, ◌+◌, ◌*◌, ◌/◌, ◌%◌, List, length, take, drop, slice_index, slice_set}

unfoldable pub at64 : List ℕ → ℕ → ℕ
at64 t k = slice_index t k + 4294967296 * slice_index t (k + 1)

unfoldable pub put64 : List ℕ → ℕ → ℕ → List ℕ
put64 t k v = slice_set (slice_set t k (v % 4294967296)) (k + 1) (v / 4294967296)

-- the words xs now stand at `to`, and all else is as it was
pub record Written (w w' : List ℕ) (to : ℕ) (xs : List ℕ) : Type 0 where
  pub len : length w' ≡ length w
  pub front : take to w' ≡ take to w
  pub mid : take (length xs) (drop to w') ≡ xs
  pub back : drop (to + length xs) w' ≡ drop (to + length xs) w
