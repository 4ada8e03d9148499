-- Lists in use: the first k of n.
use Rattle.std.specs.Prelude.{◌≡◌, ℕ, ◌-◌, ◌/◌, ◌≤◌, Bool, true, false, List, [], ◌∷◌, ◌++◌, replicate, slice_set, Result, OnOk, OnErr}
use Rattle.store.specs.declared.Refusal.{Refusal}
use Rattle.store.specs.Sums.{enough}

abbrev pub opened : ℕ → ℕ → List Bool
opened k n = replicate k true ++ replicate (n - k) false

-- n lists are open, or there was no room for one behind j that were
pub record Opened (n h : ℕ) (m : List (List ℕ)) (b : ℕ × List Bool) (r : Result (Unit {0}) Refusal) : Type 0 where
  pub half : b.0 ≡ h
  pub ok : OnOk r (b.1 ≡ opened n h)
  pub err : OnErr r ((j : ℕ) × (j ≤ n) × (b.1 ≡ opened j h) × (enough b m 8 ≡ false))

-- a store in so many words, with five lists in use; the first is the queue, with the first process in it, and the others are empty
pub record Begun (all : ℕ) (b : ℕ × List Bool) (m : List (List ℕ)) : Type 0 where
  pub numbers : b ≡ (all / 2, opened 5 (all / 2))
  pub fits : 5 ≤ all / 2
  pub lists : m ≡ slice_set (replicate (all / 2) []) 0 (0 ∷ [])
