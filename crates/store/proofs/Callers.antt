-- What callers may use of a store that is in order.
use Rattle.std.proofs.Common.{◌≡◌, ℕ, ◌*◌, ◌<◌, ◌≤◌, true, false, [], length, get_or, arith}
use Rattle.store.specs.Sums.{extent}
use Rattle.store.specs.Layout.{Layout}
use Rattle.store.specs.Held.{Held, model, bounds}
use Rattle.store.proofs.Totals.{length_lists, length_lives}
use Rattle.store.proofs.StoreLaws.{few, extent_of, live_back, dead_empty}

module _ (s : Layout) (v : Held s) where
  pub model_length : length (model s) ≡ (bounds s).0
  unfolding Held model bounds
  model_length = length_lists s.table s.half (few _ _ _ _ _ _ v)

  pub live_length : length (bounds s).1 ≡ (bounds s).0
  unfolding Held bounds
  live_length = length_lives s.table s.half (few _ _ _ _ _ _ v)

  -- the table takes no more than a half
  pub extent_within : 8 * extent (bounds s).1 ≤ (bounds s).0
  unfolding Held bounds
  extent_within = omega (arith, v.bound, extent_of _ _ _ _ _ _ v)

  pub live_within : (i : ℕ) → get_or (bounds s).1 i false ≡ true → i < extent (bounds s).1
  unfolding Held bounds
  live_within i e = omega (arith, (live_back s.table s.half i e).0, extent_of _ _ _ _ _ _ v)

  pub unused_empty : (i : ℕ) → get_or (bounds s).1 i false ≡ false → get_or (model s) i [] ≡ []
  unfolding Held model bounds
  unused_empty i e = dead_empty _ _ _ _ _ _ v i e

  pub extent_there : extent (bounds s).1 ≤ length (model s)
  extent_there = omega (arith, model_length, extent_within)
