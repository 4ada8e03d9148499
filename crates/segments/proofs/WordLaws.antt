-- Numbers in two words, and stretches of words.
use Rattle.std.proofs.Common.{◌≡◌, ℕ, ◌+◌, ◌-◌, ◌*◌, ◌/◌, ◌%◌, ◌<◌, ◌≤◌, ◌≢◌, ◌⊎◌, List, [], ◌∷◌, ◌++◌, append_assoc, length, get_or, take, drop, set, sym, ap, ◌∙◌, ap₂, inl, inr, arith}
use Rattle.std.proofs.Math.Seq.{take-append_seam, drop-append_seam}
use Rattle.std.proofs.lemmas.List.{length-append, get_or-set_same, get_or-set_other, length-set, length-take-le, length-drop, get_or-take, take-set-le, drop-set-lt, take-take, drop-take, drop-drop, drop-set}
use Rattle.std.proofs.lemmas.Nat.{div-add-mod'}
use Rattle.segments.specs.Words.{at64, put64, Written}

pub length_put64 : (t : List ℕ) (k v : ℕ) → length (put64 t k v) ≡ length t
unfolding put64
length_put64 t k v = simp length-set

pub at64_put_same : (t : List ℕ) (k v : ℕ) → k + 1 < length t → at64 (put64 t k v) k ≡ v
unfolding put64 at64
at64_put_same t k v h =
    let lo : k < length t = omega arith in
    let ne : k ≢ k + 1 = omega arith in
    let hi : k + 1 < length (set t k (v % 4294967296)) = simp length-set h in
    rw (get_or-set_same (set t k (v % 4294967296)) (k + 1) (v / 4294967296) 0 hi, get_or-set_other, get_or-set_same)
    (omega (arith, div-add-mod' v 4294967296))

pub at64_put_other : (t : List ℕ) (k j v : ℕ) → (j + 1 < k) ⊎ (k + 1 < j) → at64 (put64 t k v) j ≡ at64 t j
unfolding put64 at64
at64_put_other t k j v h =
    let a : j ≢ k = omega arith in
    let b : j ≢ k + 1 = omega arith in
    let e : j + 1 ≢ k = omega arith in
    let f : j + 1 ≢ k + 1 = omega arith in
    simp (get_or-set_other)

pub drop_put64 : (w : List ℕ) (k v s : ℕ) → k + 1 < s → drop s (put64 w k v) ≡ drop s w
unfolding put64
drop_put64 w k v s h = let a : k < s = omega arith in rw (drop-set-lt, drop-set-lt)

-- parts of words of which the front, or what lies behind, is the same
pub part_front : (w w' : List ℕ) (u s m : ℕ) → take u w' ≡ take u w → s + m ≤ u → take m (drop s w') ≡ take m (drop s w)
part_front w w' u s m e h =
    let a : take (s + m) w' ≡ take (s + m) w = sym (take-take (s + m) u w' h) ∙ ap (take (s + m)) e ∙ take-take (s + m) u w h in
    sym (drop-take s m w') ∙ ap (drop s) a ∙ drop-take s m w

pub drop_same : (w w' : List ℕ) (u s : ℕ) → drop u w' ≡ drop u w → u ≤ s → drop s w' ≡ drop s w
drop_same w w' u s e h =
    let q : u + (s - u) ≡ s = omega arith in
    rw q at (sym (drop-drop (s - u) u w') ∙ ap (drop (s - u)) e ∙ drop-drop (s - u) u w)

pub take_same : (w w' : List ℕ) (u s : ℕ) → take u w' ≡ take u w → s ≤ u → take s w' ≡ take s w
take_same w w' u s e h = sym (take-take s u w' h) ∙ ap (take s) e ∙ take-take s u w h

pub at64_front : (w w' : List ℕ) (u k : ℕ) → take u w' ≡ take u w → k + 1 < u → at64 w' k ≡ at64 w k
unfolding at64
at64_front w w' u k e h =
    let f : (j : ℕ) → j < u → get_or w' j 0 ≡ get_or w j 0
    = λ j l. sym (get_or-take u w' j 0 l) ∙ ap (λ (x : List ℕ). get_or x j 0) e ∙ get_or-take u w j 0 l in
    ap₂ (λ (x y : ℕ). x + 4294967296 * y) (f k (omega arith)) (f (k + 1) h)

-- a write outside a part
pub part_set_out : (w : List ℕ) (s m p v : ℕ) → (p < s) ⊎ (s + m ≤ p) → take m (drop s (set w p v)) ≡ take m (drop s w)
part_set_out w s m p v (inl h) = rw drop-set-lt
part_set_out w s m p v (inr h) = part_front w (set w p v) p s m (take-set-le p w p v (omega arith)) h

-- a part outside a stretch that was written
pub part_written : (w w' : List ℕ) (to : ℕ) (xs : List ℕ) (s m : ℕ) → Written w w' to xs → (s + m ≤ to) ⊎ (to + length xs ≤ s) →
    take m (drop s w') ≡ take m (drop s w)
part_written w w' to xs s m e (inl h) = part_front w w' to s m e.front h
part_written w w' to xs s m e (inr h) = ap (take m) (drop_same w w' (to + length xs) s e.back h)

-- words that are copied
pub copied_words : (w : List ℕ) (at to len : ℕ) → at + len ≤ length w → to + len ≤ length w →
    Written w (take to w ++ take len (drop at w) ++ drop (to + len) w) to (take len (drop at w))
copied_words w at to len a b =
    let x = take to w in
    let y = take len (drop at w) in
    let z = drop (to + len) w in
    let lx : length x ≡ to = length-take-le to w (omega arith) in
    let ly : length y ≡ len = length-take-le len (drop at w) (simp length-drop (omega arith)) in
    record {
      len = simp (length-append, length-drop) (omega (arith, lx, ly));
      front = rw append_assoc (rw lx at (take-append_seam x (y ++ z)));
      mid = let e : drop to (x ++ (y ++ z)) ≡ y ++ z = rw lx at (drop-append_seam x (y ++ z)) in rw (append_assoc, e) (take-append_seam y z);
      back = let e : length (x ++ y) ≡ to + length y = simp length-append (omega (arith, lx)) in rw e at (drop-append_seam (x ++ y) z) ∙ rw ly;
    }

pub word_written : (w : List ℕ) (to v : ℕ) → to < length w → Written w (set w to v) to (v ∷ [])
word_written w to v h =
    record {
      len = length-set w to v;
      front = take-set-le to w to v (omega arith);
      mid = rw (drop-set w to v h);
      back = drop-set-lt (to + 1) w to v (omega arith);
    }
