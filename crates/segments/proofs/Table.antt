-- The table: what an entry says after a write, and the segments that it tells of.
use Rattle.std.proofs.Common.{◌≡◌, ℕ, ◌+◌, ◌*◌, ◌<◌, ◌≤◌, ◌≢◌, ◌⊎◌, List, [], ◌∷◌, ◌++◌, length, get_or, take, drop, set, sym, ◌∙◌, ⊎_elim, arith}
use Rattle.std.proofs.lemmas.List.{get_or-set_same, get_or-set_other, length-set, ext_get_or, get_or_past}
use Rattle.std.proofs.lemmas.List.FromFn.{get_or-map-range_with_len, length-map-range_with_len, map-range_with_len_more}
use Rattle.std.proofs.lemmas.Bool.{cases_eq}
use Rattle.segments.specs.Layout.{field, filed, start, size, seg, segs}
use Rattle.segments.proofs.WordLaws.{length_put64, at64_put_same, at64_put_other, at64_front, drop_put64}

pub length_filed : (w : List ℕ) (i c v : ℕ) → length (filed w i c v) ≡ length w
unfolding filed
length_filed w i c v = length_put64 w (8 * i + c) v

pub field_same : (w : List ℕ) (i c v : ℕ) → c ≤ 6 → 8 * i + 7 < length w → field (filed w i c v) i c ≡ v
unfolding field filed
field_same w i c v h l = at64_put_same w (8 * i + c) v (omega arith)

-- another part, or another entry
pub field_part : (w : List ℕ) (i c k d v : ℕ) → c ≤ 6 → d ≤ 6 → (c + 1 < d) ⊎ (d + 1 < c) → field (filed w i c v) k d ≡ field w k d
unfolding field filed
field_part w i c k d v p q h = at64_put_other w (8 * i + c) (8 * k + d) v (grind arith)

pub field_other : (w : List ℕ) (i c k d v : ℕ) → c ≤ 6 → d ≤ 6 → k ≢ i → field (filed w i c v) k d ≡ field w k d
unfolding field filed
field_other w i c k d v p q h = at64_put_other w (8 * i + c) (8 * k + d) v (grind arith)

pub drop_filed : (w : List ℕ) (i c v s : ℕ) → c ≤ 6 → 8 * i + 7 < s → drop s (filed w i c v) ≡ drop s w
unfolding filed
drop_filed w i c v s h l = drop_put64 w (8 * i + c) v s (omega arith)

-- the front is the same
pub field_front : (w w' : List ℕ) (u i c : ℕ) → take u w' ≡ take u w → c ≤ 6 → 8 * i + 7 < u → field w' i c ≡ field w i c
unfolding field
field_front w w' u i c e h l = at64_front w w' u (8 * i + c) e (omega arith)

-- a segment is the part of the words that its entry tells
pub seg_is : (w w' : List ℕ) (i s m : ℕ) → start w i ≡ s → size w i ≡ m → take m (drop s w) ≡ take m (drop s w') → seg w i ≡ take m (drop s w')
unfolding seg
seg_is w w' i s m p q e = rw (p, q) e

pub seg_same : (w w' : List ℕ) (i k : ℕ) → start w' i ≡ start w k → size w' i ≡ size w k →
    take (size w k) (drop (start w k) w') ≡ take (size w k) (drop (start w k) w) → seg w' i ≡ seg w k
unfolding seg
seg_same w w' i k p q e = rw (p, q) e

pub segs_at : (w : List ℕ) (n i : ℕ) → i < n → get_or (segs w n) i [] ≡ seg w i
unfolding segs
segs_at w n i h = get_or-map-range_with_len (seg w) 0 n i i [] h (omega arith)

pub length_segs : (w : List ℕ) (n : ℕ) → length (segs w n) ≡ n
unfolding segs
length_segs w n = length-map-range_with_len (seg w) 0 n

pub segs_past : (w : List ℕ) (n i : ℕ) → n ≤ i → get_or (segs w n) i [] ≡ []
segs_past w n i h = get_or_past (segs w n) i [] (omega (arith, length_segs w n))

-- one segment is now x, and the others are as they were
pub segs_set : (w w' : List ℕ) (n i : ℕ) (x : List ℕ) → i < n → seg w' i ≡ x →
    ((k : ℕ) → k < n → k ≢ i → seg w' k ≡ seg w k) → segs w' n ≡ set (segs w n) i x
segs_set w w' n i x h e f =
    let a = length_segs w n in
    let b = length_segs w' n in
    let l : length (segs w' n) ≡ length (set (segs w n) i x) = simp length-set (cc) in
    ext_get_or [] (segs w' n) (set (segs w n) i x) l
    (λ k lt. let m : k < n = omega arith in
    ⊎_elim
    (λ (q : k ≡ i). let z : i < length (segs w n) = omega arith in rw (segs_at w' n k m, q, get_or-set_same) e)
    (λ (q : k ≢ i). rw (segs_at w' n k m, get_or-set_other, segs_at w n k m) (f k m q))
    (cases_eq k i))

pub segs_same : (w w' : List ℕ) (n : ℕ) → ((k : ℕ) → k < n → seg w' k ≡ seg w k) → segs w' n ≡ segs w n
segs_same w w' n f =
    ext_get_or [] (segs w' n) (segs w n) (length_segs w' n ∙ sym (length_segs w n))
    (λ k lt. let m : k < n = omega (arith, length_segs w' n) in rw (segs_at w' n k m, segs_at w n k m) (f k m))

pub segs_more : (w : List ℕ) (n : ℕ) → segs w (n + 1) ≡ segs w n ++ (seg w n ∷ [])
unfolding segs
segs_more w n = map-range_with_len_more (seg w) 0 n n (omega arith)
