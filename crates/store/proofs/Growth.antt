-- Words that are put behind a list, once there is room for them.
use Rattle.std.proofs.Common.{◌≡◌, ℕ, ◌+◌, ◌-◌, ◌*◌, ◌/◌, ◌<◌, ◌≤◌, Bool, true, false, List, [], ◌++◌, length, get_or, set, sym, ap, ◌∙◌, ap₂, arith}
use Rattle.std.proofs.lemmas.List.{length-append, length-set}
use Rattle.std.proofs.lemmas.Bool.{false≢true}
use Rattle.segments.specs.Table.{Segment, nth, written, strain, Laid}
use Rattle.store.specs.Layout.{Layout, lists, lives}
use Rattle.store.specs.Held.{Sound, Shifted, Reserved, pressed}
use Rattle.segments.proofs.Placed.{words_same}
use Rattle.store.proofs.Totals.{lists_at, lists_by, lives_by, there}
use Rattle.store.proofs.StoreLaws.{few, same_count, same_used, strain_placed, changed_inv, changed_model, changed_bounds}

module _ (s s₁ : Layout) (v : Sound s₁) (z : Shifted s s₁) where
  few_now : length s₁.table.segments ≤ s.half
  few_now = omega (arith, few _ _ _ _ _ _ v, z.half)

  few_then : length s.table.segments ≤ s.half
  few_then = omega (arith, few_now, same_count s₁.table s.table z.same)

  pub shifted_model : lists s₁.table s₁.half ≡ lists s.table s.half
  shifted_model = rw z.half (lists_by s.table s₁.table s.half few_then few_now (λ k. words_same s₁.table s.table k z.same))

  pub shifted_lives : lives s₁.table s₁.half ≡ lives s.table s.half
  shifted_lives = rw z.half (lives_by s.table s₁.table s.half few_then few_now (same_used s₁.table s.table z.used))

  pub shifted_bounds : ◌≡◌ {A = ℕ × List Bool} (s₁.half, lives s₁.table s₁.half) (s.half, lives s.table s.half)
  shifted_bounds = ap₂ (λ (h : ℕ) (y : List Bool). (h, y)) z.half shifted_lives

  -- list j is what it was
  pub shifted_list : (j : ℕ) → (nth s₁.table j).words ≡ get_or (lists s.table s.half) j []
  shifted_list j = sym (lists_at s₁.table s₁.half j) ∙ ap (λ (y : List (List ℕ)). get_or y j []) shifted_model

-- the sum still holds with k words more
pub grew_bound : (total k n half m : ℕ) → total + total / 4 + 8 * n + half / 8 + (m + k + (m + k) / 2 + 8) ≤ half → (total + k) + (total + k) / 4 + 8 * n + half / 8 ≤ half
grew_bound total k n half m h = omega arith

module _ (s u : Layout) (i : ℕ) (xs : List ℕ) (v : Sound u) (z : Reserved s u i (length xs)) where
  abbrev before : List ℕ
  before = (nth u.table i).words

  -- the store, with these words behind list i
  abbrev pub grown : ℕ → Layout
  grown total = record { table = written u.table i (before ++ xs); half = u.half; hi = u.hi; low = u.low; total = total; hint = u.hint; moved = u.moved }

  live : (nth u.table i).used ≡ true
  live = same_used u.table s.table z.shifted.used i ∙ z.live

  alive : (nth u.table i).used ≡ false → before ++ xs ≡ []
  alive d = absurd (false≢true (sym d ∙ live))

  pub inside : i < length u.table.segments
  inside = there u.table i live

  pub grew_inv : (total : ℕ) → total ≡ u.total + length xs → Laid (written u.table i (before ++ xs)) → Sound (grown total)
  grew_inv total e g = changed_inv u.table u.half u.hi u.low u.total u.hint v i total (before ++ xs) alive
      (omega (arith, length-append before xs))
      (rw (e, z.shifted.total, z.shifted.half, same_count u.table s.table z.shifted.same) (grew_bound s.total (length xs) (length s.table.segments) s.half (length (nth s.table i).words) z.spare)) g

  pub grew_model : lists (written u.table i (before ++ xs)) u.half ≡ set (lists s.table s.half) i (get_or (lists s.table s.half) i [] ++ xs)
  grew_model = changed_model u.table u.half u.hi u.low u.total u.hint v i u.total (before ++ xs) alive ∙
      ap₂ (λ (y : List (List ℕ)) (x : List ℕ). set y i (x ++ xs)) (shifted_model s u v z.shifted) (shifted_list s u v z.shifted i)

  pub grew_bounds : ◌≡◌ {A = ℕ × List Bool} (u.half, lives (written u.table i (before ++ xs)) u.half) (s.half, lives s.table s.half)
  grew_bounds = changed_bounds u.table u.half u.hi u.low u.total u.hint v i u.total (before ++ xs) alive ∙ shifted_bounds s u v z.shifted

  pub grew_cost : (total : ℕ) → pressed (grown total) 0 + 13 * strain (grown total).table ≤ pressed s 0 + 13 * strain s.table + 128 * length xs
  grew_cost total =
      let r : Segment = record { start = (nth u.table i).start; room = (nth u.table i).room; words = before ++ xs; used = (nth u.table i).used } in
      let p : pressed (grown total) 0 ≡ pressed u 0 = ap (λ (n : ℕ). u.moved + 8 * (u.half / 8 - (((u.low + u.half) - (u.hi + 8 * n)) - 0))) (length-set u.table.segments i r) in
      rw p (z.cost (strain (grown total).table) (omega (
        arith,
        strain_placed u.table i r inside,
        length-append before xs,
        ap (length {A = ℕ}) (words_same u.table s.table i z.shifted.same),
      )))
