-- A queue as a list.
use Rattle.std.specs.Prelude.{ℕ, List, [], ◌∷◌, ◌++◌, take, drop, Some, None, Option}

abbrev pub first : List ℕ → Option ℕ
first [] = None
first (x ∷ xs) = Some x

-- the first goes to the back
abbrev pub rotated : List ℕ → List ℕ
rotated [] = []
rotated (x ∷ xs) = xs ++ (x ∷ [])

-- while the first goes to the back: the next i have come forward by one
abbrev pub shifted : ℕ → List ℕ → List ℕ
shifted i q = take i (drop 1 q) ++ drop i q
