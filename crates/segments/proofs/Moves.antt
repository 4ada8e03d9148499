-- All segments are moved, one before another.
use Rattle.std.proofs.Common.{◌≡◌, ℕ, ◌+◌, ◌-◌, ◌*◌, ◌/◌, ◌<◌, ◌≤◌, ◌≢◌, ◌⊎◌, List, [], ◌∷◌, length, get_or, take, set, refl, ap, ◌∙◌, inl, inr, ⊎_elim, arith}
use Rattle.std.proofs.lemmas.List.{get_or_past, length-set}
use Rattle.std.proofs.lemmas.List.Sums.{sum_by-cons, sum_by_more, sum_by-take-le, sum_by-set, get_or-le-sum_by}
use Rattle.std.proofs.lemmas.Bool.{cases_eq, cases_lt}
use Rattle.segments.specs.Layout.{need, spread}
use Rattle.segments.specs.Table.{Table, nth, segs, Within, Free, moved}
use Rattle.segments.proofs.Placed.{nth_same, nth_other, segs_at, length_segs, words_same}

-- how many words there are
pub need_set : (xs : List (List ℕ)) (i : ℕ) (y : List ℕ) → i < length xs → need (set xs i y) + length (get_or xs i []) ≡ need xs + length y
unfolding need
need_set xs i y h = sum_by-set length xs i y [] h

pub need_at : (xs : List (List ℕ)) (i : ℕ) → length (get_or xs i []) ≤ need xs
unfolding need
need_at xs i = ⊎_elim
    (λ (q : i < length xs). get_or-le-sum_by length xs i [] q)
    (λ (q : length xs ≤ i). rw (get_or_past xs i [] q) (omega arith))
    (cases_lt i (length xs))

spread_need : (xs : List (List ℕ)) → 4 * spread xs ≤ 5 * need xs
unfolding need spread
spread_need [] = omega arith
spread_need (x ∷ xs) =
    omega (arith, spread_need xs, sum_by-cons length x xs, sum_by-cons (λ (y : List ℕ). length y + length y / 4) x xs)

pub spread_le : (xs : List (List ℕ)) → spread xs ≤ need xs + need xs / 4
spread_le xs = omega (arith, spread_need xs)

spread_more : (xs : List (List ℕ)) (k : ℕ) → k < length xs → spread (take (k + 1) xs) ≡ spread (take k xs) + (length (get_or xs k []) + length (get_or xs k []) / 4)
unfolding spread
spread_more xs k h = sum_by_more (λ (y : List ℕ). length y + length y / 4) xs k [] h

spread_upto : (xs : List (List ℕ)) (k : ℕ) → spread (take k xs) ≤ spread xs
unfolding spread
spread_upto xs k = sum_by-take-le (λ (y : List ℕ). length y + length y / 4) xs k

pub spread_none : (xs : List (List ℕ)) → spread (take 0 xs) ≡ 0
unfolding spread
spread_none xs = refl

-- a turn, at segment k, which goes from a to b, with room r
module _ (t : Table) (lo hi to k a r : ℕ) (xs : List (List ℕ)) (e : segs t ≡ xs) (h : k < length t.segments)
    (early : (i : ℕ) → i < k → (a ≤ (nth t i).start) × ((nth t i).start + (nth t i).room ≤ to)) (late : Within t k lo hi) (p : a + spread (take k xs) ≡ to)
    (out : (hi + spread xs ≤ to) ⊎ (to ≤ lo)) (fit : 8 * length t.segments + spread xs ≤ to) (q : r ≡ length (nth t k).words + length (nth t k).words / 4) where
  turn_more : spread (take (k + 1) xs) ≡ spread (take k xs) + r
  turn_more =
      let l : get_or xs k [] ≡ (nth t k).words = rw (← e) (segs_at t k) in
      spread_more xs k (rw (← e, length_segs) h) ∙ rw (l, q) refl

  pub turn_room : 8 * length t.segments + r ≤ a
  turn_room = omega (arith, turn_more, spread_upto xs (k + 1))

  pub turn_next : (a - r) + spread (take (k + 1) xs) ≡ to
  turn_next = omega (arith, turn_more, turn_room)

  pub turn_free : Free t (a - r) ((a - r) + r)
  turn_free j jn = ⊎_elim
      (λ (z : j < k). inl (omega (arith, (early j z).0, turn_room)))
      (λ (z : k ≤ j). ⊎_elim
      (λ (o : hi + spread xs ≤ to). inr (omega (arith, (late j z jn).1, turn_next, spread_upto xs (k + 1))))
      (λ (o : to ≤ lo). inl (omega (arith, (late j z jn).0, turn_room)))
      out)
      (cases_lt j k)

  pub turn_early : (i : ℕ) → i < k + 1 → (a - r ≤ (nth (moved t k (a - r) r) i).start) × ((nth (moved t k (a - r) r) i).start + (nth (moved t k (a - r) r) i).room ≤ to)
  turn_early j jk = ⊎_elim
      (λ (s : j ≡ k). rw (s, nth_same t k _ h) (omega arith, omega (arith, turn_room)))
      (λ (s : j ≢ k). let y = early j (omega arith) in rw (nth_other t k j _ s) (omega (arith, y.0), y.1))
      (cases_eq j k)

  pub turn_late : Within (moved t k (a - r) r) (k + 1) lo hi
  turn_late j z jn = let s : j ≢ k = omega arith in rw (nth_other t k j _ s) (late j (omega arith) (rw length-set at jn))

  -- what the rooms are, from the words that u has
  module _ (u : Table) (same : segs t ≡ segs u) (rooms : (i : ℕ) → i < k → (nth t i).room ≡ length (nth u i).words + length (nth u i).words / 4) where
    pub turn_rooms : (i : ℕ) → i < k + 1 → (nth (moved t k (a - r) r) i).room ≡ length (nth u i).words + length (nth u i).words / 4
    turn_rooms j jk = ⊎_elim
        (λ (s : j ≡ k). rw (s, nth_same t k _ h) (q ∙ ap (λ (x : List ℕ). length x + length x / 4) (words_same t u k same)))
        (λ (s : j ≢ k). rw (nth_other t k j _ s) (rooms j (omega arith)))
        (cases_eq j k)
