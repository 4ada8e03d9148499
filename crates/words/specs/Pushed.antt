-- What pushing words onto a list of a store leaves, or a refusal says.
use Rattle.std.specs.Prelude.{◌≡◌, ℕ, ◌+◌, ◌*◌, ◌<◌, Bool, true, false, List, [], ◌++◌, length, slice_index_or, slice_set, Result, OnOk, OnErr}
use Rattle.segments.specs.Layout.{need}
use Rattle.store.specs.declared.Refusal.{Refusal}
use Rattle.store.specs.declared.Store.{Store}
use Rattle.store.specs.Held.{model, bounds}
use Rattle.store.specs.Sums.{extent}

-- half of the words lent are too few for n words in lists
abbrev pub Scarce : ℕ × List Bool → ℕ → Type 0
Scarce b n = 7 * b.0 < 24 * n + 64 * extent b.1 + 64

-- y is behind list i of the store s, which is s' now, or was refused
pub record Pushed (s s' : Store) (i : ℕ) (y : List ℕ) (r : Result (Unit {0}) Refusal) : Type 0 where
  pub same : bounds s' ≡ bounds s
  pub ok : OnOk r (model s' ≡ slice_set (model s) i (slice_index_or (model s) i [] ++ y))
  pub err : OnErr r (slice_index_or (bounds s).1 i false ≡ true → Scarce (bounds s) (need (model s) + length y))
