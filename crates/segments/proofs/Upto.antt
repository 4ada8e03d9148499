-- Sums over the first numbers.
use Rattle.std.proofs.Common.{◌≡◌, ℕ, zero, suc, ◌+◌, ◌<◌, ◌≤◌, cond, eqb, ◌≢◌, sym, refl, ◌∙◌, ap₂, ⊎_elim, add-one, arith}
use Rattle.std.proofs.lemmas.Bool.{cases_eq, cond-true, cond-false, eq-eqb, ne_eqb}
use Rattle.segments.specs.Table.{upto}

module _ (f g : ℕ → ℕ) where
  pub upto_same : (n : ℕ) → ((k : ℕ) → k < n → g k ≡ f k) → upto g n ≡ upto f n
  unfolding upto
  upto_same zero e = refl
  upto_same (suc n) e = ap₂ ◌+◌ (upto_same n (λ k h. e k (omega arith))) (e n (omega arith))

  pub upto_one : (n i : ℕ) → i < n → ((k : ℕ) → k < n → k ≢ i → g k ≡ f k) → upto g n + f i ≡ upto f n + g i
  unfolding upto
  upto_one zero i h e = absurd (omega arith)
  upto_one (suc n) i h e = ⊎_elim
      (λ (q : n ≡ i). rw (q) (omega (arith, upto_same i (λ k l. e k (omega arith) (omega arith)))))
      (λ (q : n ≢ i). omega (arith, upto_one n i (omega arith) (λ k l ne. e k (omega arith) ne), e n (omega arith) q))
      (cases_eq n i)

pub upto_le : (f g : ℕ → ℕ) (n : ℕ) → ((k : ℕ) → k < n → g k ≤ f k) → upto g n ≤ upto f n
unfolding upto
upto_le f g zero e = omega arith
upto_le f g (suc n) e = omega (arith, upto_le f g n (λ k h. e k (omega arith)), e n (omega arith))

pub upto_at : (f : ℕ → ℕ) (n i : ℕ) → i < n → f i ≤ upto f n
unfolding upto
upto_at f zero i h = absurd (omega arith)
upto_at f (suc n) i h = ⊎_elim
    (λ (q : n ≡ i). rw (q) (omega arith))
    (λ (q : n ≢ i). omega (arith, upto_at f n i (omega arith)))
    (cases_eq n i)

pub upto_none : (f : ℕ → ℕ) (n : ℕ) → ((k : ℕ) → k < n → f k ≡ 0) → upto f n ≡ 0
unfolding upto
upto_none f zero e = refl
upto_none f (suc n) e = omega (arith, upto_none f n (λ k h. e k (omega arith)), e n (omega arith))

pub upto_more : (f : ℕ → ℕ) (n : ℕ) → upto f (n + 1) ≡ upto f n + f n
unfolding upto
upto_more f n = rw add-one

pub upto_fewer : (f : ℕ → ℕ) (m n : ℕ) → m ≤ n → upto f m ≤ upto f n
unfolding upto
upto_fewer f m zero h = let z : m ≡ 0 = omega arith in rw z (omega arith)
upto_fewer f m (suc n) h = ⊎_elim
    (λ (q : m ≡ suc n). rw (q) (omega arith))
    (λ (q : m ≢ suc n). omega (arith, upto_fewer f m n (omega arith)))
    (cases_eq m (suc n))

-- two values that change places
pub upto_two : (f g : ℕ → ℕ) (n i j : ℕ) → i < n → j < n → i ≢ j → g i ≡ f j → g j ≡ f i → ((k : ℕ) → k < n → k ≢ i → k ≢ j → g k ≡ f k) → upto g n ≡ upto f n
upto_two f g n i j h m ne p q e =
    let mid : ℕ → ℕ = λ k. cond (eqb k i) (f j) (f k) in
    let there : (k : ℕ) → k ≢ i → mid k ≡ f k = λ k z. cond-false (eqb k i) (f j) (f k) (ne_eqb k i z) in
    let at_i : mid i ≡ f j = cond-true (eqb i i) (f j) (f i) (eq-eqb i i refl) in
    let a = upto_one f mid n i h (λ k kn z. there k z) in
    let b = upto_one mid g n j m (λ k kn z. ⊎_elim
    (λ (y : k ≡ i). rw y (p ∙ sym at_i))
    (λ (y : k ≢ i). e k kn y z ∙ sym (there k y))
    (cases_eq k i)) in
    omega (arith, a, b, at_i, there j (λ z. ne (sym z)), q)
