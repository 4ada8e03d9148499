-- The lists of a store, and sums over them.
use Rattle.std.proofs.Common.{◌≡◌, ℕ, zero, suc, ◌-◌, ◌<◌, ◌≤◌, Bool, true, false, ◌||◌, ltb, ◌≢◌, ◌⊎◌, List, [], ◌∷◌, ◌++◌, length, get_or, set, replicate, sym, refl, ap, ◌∙◌, ⊎_elim, arith}
use Rattle.std.proofs.lemmas.List.{ext_get_or, length-append, length-replicate, length-set, get_or_append_left, get_or-append_right, get_or-replicate, get_or_past, get_or-set_same, get_or-set_other}
use Rattle.std.proofs.lemmas.List.Sums.{sum_by-append, sum_by-cons}
use Rattle.std.proofs.lemmas.Bool.{cases_eq, cases_lt, or_right, lt-ltb, false≢true}
use Rattle.segments.specs.Layout.{need}
use Rattle.segments.specs.Table.{Segment, Table, nth, segs, marks}
use Rattle.store.specs.Sums.{extent}
use Rattle.store.specs.Layout.{lists, lives}
use Rattle.segments.proofs.Placed.{segs_at, marks_at, length_segs, length_marks, nth_past}

-- a list with values d behind it
pub padded_at : {X : Type 0} (xs : List X) (m i : ℕ) (d : X) → get_or (xs ++ replicate m d) i d ≡ get_or xs i d
padded_at xs m i d = ⊎_elim
    (λ (h : i < length xs). get_or_append_left xs (replicate m d) d i h)
    (λ (h : length xs ≤ i). get_or-append_right xs (replicate m d) (length xs) i d refl h ∙ ⊎_elim
    (λ (q : i - length xs < m). get_or-replicate m (i - length xs) d d q)
    (λ (q : m ≤ i - length xs). get_or_past (replicate m d) (i - length xs) d (omega (arith, length-replicate m d)))
    (cases_lt (i - length xs) m) ∙ sym (get_or_past xs i d h))
    (cases_lt i (length xs))

module _ (t : Table) (half : ℕ) where
  pub lists_at : (i : ℕ) → get_or (lists t half) i [] ≡ (nth t i).words
  unfolding lists
  lists_at i = padded_at (segs t) (half - length t.segments) i [] ∙ segs_at t i

  pub lives_at : (i : ℕ) → get_or (lives t half) i false ≡ (nth t i).used
  unfolding lives
  lives_at i = padded_at (marks t) (half - length t.segments) i false ∙ marks_at t i

  pub length_lists : length t.segments ≤ half → length (lists t half) ≡ half
  unfolding lists
  length_lists h = length-append (segs t) (replicate (half - length t.segments) []) ∙ omega (arith, length_segs t, length-replicate {A = List ℕ} (half - length t.segments) [])

  pub length_lives : length t.segments ≤ half → length (lives t half) ≡ half
  unfolding lives
  length_lives h = length-append (marks t) (replicate (half - length t.segments) false) ∙ omega (arith, length_marks t, length-replicate (half - length t.segments) false)

-- a segment in use is there
pub there : (t : Table) (i : ℕ) → (nth t i).used ≡ true → i < length t.segments
there t i e = ⊎_elim
    (λ (h : i < length t.segments). h)
    (λ (h : length t.segments ≤ i). absurd (false≢true (sym (ap (λ (s : Segment). s.used) (nth_past t i h)) ∙ e)))
    (cases_lt i (length t.segments))

-- the same lists in other segments
pub lists_by : (t t' : Table) (half : ℕ) → length t.segments ≤ half → length t'.segments ≤ half → ((k : ℕ) → (nth t' k).words ≡ (nth t k).words) → lists t' half ≡ lists t half
lists_by t t' half h h' f =
    ext_get_or [] (lists t' half) (lists t half) (length_lists t' half h' ∙ sym (length_lists t half h))
    (λ k lt. lists_at t' half k ∙ f k ∙ sym (lists_at t half k))

pub lives_by : (t t' : Table) (half : ℕ) → length t.segments ≤ half → length t'.segments ≤ half → ((k : ℕ) → (nth t' k).used ≡ (nth t k).used) → lives t' half ≡ lives t half
lives_by t t' half h h' f =
    ext_get_or false (lives t' half) (lives t half) (length_lives t' half h' ∙ sym (length_lives t half h))
    (λ k lt. lives_at t' half k ∙ f k ∙ sym (lives_at t half k))

-- list i is now x
pub lists_set : (t t' : Table) (half i : ℕ) (x : List ℕ) → length t.segments ≤ half → length t'.segments ≤ half → (half ≤ i → x ≡ []) → (nth t' i).words ≡ x →
    ((k : ℕ) → k ≢ i → (nth t' k).words ≡ (nth t k).words) → lists t' half ≡ set (lists t half) i x
lists_set t t' half i x h h' p e f =
    ext_get_or [] (lists t' half) (set (lists t half) i x) (length_lists t' half h' ∙ sym (length-set (lists t half) i x ∙ length_lists t half h))
    (λ k lt. lists_at t' half k ∙ ⊎_elim
    (λ (q : k ≡ i). rw q (e ∙ sym (get_or-set_same (lists t half) i x [] (omega (arith, length_lists t half h, length_lists t' half h')))))
    (λ (q : k ≢ i). f k q ∙ sym (get_or-set_other (lists t half) i k x [] q ∙ lists_at t half k))
    (cases_eq k i))

-- the number i is now marked b
pub lives_set : (t t' : Table) (half i : ℕ) (b : Bool) → length t.segments ≤ half → length t'.segments ≤ half → (nth t' i).used ≡ b →
    ((k : ℕ) → k ≢ i → (nth t' k).used ≡ (nth t k).used) → lives t' half ≡ set (lives t half) i b
lives_set t t' half i b h h' e f =
    ext_get_or false (lives t' half) (set (lives t half) i b) (length_lives t' half h' ∙ sym (length-set (lives t half) i b ∙ length_lives t half h))
    (λ k lt. lives_at t' half k ∙ ⊎_elim
    (λ (q : k ≡ i). rw q (e ∙ sym (get_or-set_same (lives t half) i b false (omega (arith, length_lives t half h, length_lives t' half h')))))
    (λ (q : k ≢ i). f k q ∙ sym (get_or-set_other (lives t half) i k b false q ∙ lives_at t half k))
    (cases_eq k i))

need_none : (m : ℕ) → need (replicate m []) ≡ 0
unfolding need
need_none zero = refl
need_none (suc m) = sum_by-cons (length {A = ℕ}) [] (replicate m []) ∙ omega (arith, need_none m)

pub need_lists : (t : Table) (half : ℕ) → need (lists t half) ≡ need (segs t)
unfolding lists need
need_lists t half = sum_by-append length (segs t) (replicate (half - length t.segments) []) ∙ omega (arith, need_none (half - length t.segments))

-- the last number in use
pub extent_is : (bs : List Bool) (n : ℕ) → ((m : ℕ) → n ≡ suc m → get_or bs m false ≡ true) → ((k : ℕ) → n ≤ k → get_or bs k false ≡ false) → extent bs ≡ n
unfolding extent
extent_is [] zero t d = refl
extent_is [] (suc n) t d = absurd (let e : false ≡ true = t n refl in let z : ◌≡◌ {A = ℕ} 0 1 = cc in omega arith)
extent_is (b ∷ bs) zero t d =
    let a : extent bs ≡ 0 = extent_is bs zero (λ m q. absurd (omega arith)) (λ k h. d (suc k) (omega arith)) in
    let e : b ≡ false = d 0 (omega arith) in
    rw (e, a)
extent_is (b ∷ bs) (suc zero) t d =
    let a : extent bs ≡ 0 = extent_is bs zero (λ m q. absurd (omega arith)) (λ k h. d (suc k) (omega arith)) in
    let e : b ≡ true = t 0 refl in
    rw (e, a)
extent_is (b ∷ bs) (suc (suc n)) t d =
    let a : extent bs ≡ suc n = extent_is bs (suc n) (λ m q. t (suc m) (ap suc q)) (λ k h. d (suc k) (omega arith)) in
    let e : (b || ltb 0 (extent bs)) ≡ true = or_right b (ltb 0 (extent bs)) (lt-ltb 0 (extent bs) (omega arith)) in
    rw (e, a) (omega arith)

pub extent_lives : (t : Table) (half : ℕ) → (length t.segments ≡ 0) ⊎ ((nth t (length t.segments - 1)).used ≡ true) → extent (lives t half) ≡ length t.segments
extent_lives t half e = extent_is (lives t half) (length t.segments)
    (λ m q. lives_at t half m ∙ ⊎_elim (λ (z : length t.segments ≡ 0). absurd (omega arith))
    (λ (z : (nth t (length t.segments - 1)).used ≡ true). let y : length t.segments - 1 ≡ m = omega arith in rw y at z) e)
    (λ k h. lives_at t half k ∙ ap (λ (s : Segment). s.used) (nth_past t k h))
