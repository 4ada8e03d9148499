-- The sum that says whether there is room, and what is answered.
use Rattle.std.specs.Prelude.{ℕ, ◌+◌, ◌-◌, ◌*◌, ◌/◌, Bool, true, false, cond, ◌||◌, List, [], ◌∷◌, length, Some, None, Ok, Err, Option, Result, nat_le, nat_lt, slice_index}
use Rattle.store.specs.declared.Refusal.{Refusal}
use Rattle.store.specs.declared.Refusal.TheVariants.{NotInUse, NoRoom}
use Rattle.segments.specs.Layout.{need}

-- behind the last number that is in use
unfoldable pub extent : List Bool → ℕ
extent [] = 0
extent (b ∷ bs) = cond (b || nat_lt 0 (extent bs)) (1 + extent bs) 0

-- how much room a list of m words asks for when it has to grow
abbrev pub asked : ℕ → ℕ
asked m = m + m / 2 + 8

-- The sum: a word and a quarter for each word held, eight words for each number up to the last in use, what is asked for,
-- and an eighth that is kept free. It has to stay below half of the words lent.
unfoldable pub enough : ℕ × List Bool → List (List ℕ) → ℕ → Bool
enough b m ask = nat_le (need m + need m / 4 + 8 * extent b.1 + b.0 / 8 + ask) b.0

-- the answer to one who asks for more words in a list: is it in use, is there room
abbrev pub told : Bool → Bool → Result (Unit {0}) Refusal
told false e = Err NotInUse
told true false = Err NoRoom
told true true = Ok tt

-- the last of a list of words
abbrev pub final : List ℕ → Option ℕ
final l = cond (nat_lt 0 (length l)) (Some (slice_index l (length l - 1))) None
