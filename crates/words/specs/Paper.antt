-- What is printed, on the paper.
use Rattle.std.specs.Prelude.{◌≡◌, ℕ, List, length, take, drop}

-- p are the first n bytes of the paper, and the rest is as it was
abbrev pub OnPaper : List ℕ → List ℕ → ℕ → List ℕ → Type 0
OnPaper o o' n p = (length p ≡ n) × (take n o' ≡ p) × (drop n o' ≡ drop n o)
