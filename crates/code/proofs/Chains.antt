-- A chain that ends is no longer than the code, and its cells are those of `chain_of`.
use Rattle.std.proofs.Common.{◌≡◌, ℕ, zero, suc, ◌+◌, ◌-◌, ◌<◌, ◌≤◌, true, cond, eqb, List, [], ◌∷◌, length, get_or, sym, refl, ap, ◌∙◌, subst, ⊎_elim, arith}
use Rattle.std.proofs.lemmas.List.{get_or_past}
use Rattle.std.proofs.lemmas.Bool.{eq-eqb, ne_eqb, cases_eq, cases_lt}
use Rattle.syntax.specs.Base.{pick}
use Rattle.code.specs.Chains.{cells, ends_at, ends_in}

-- f, with its value at n where it was m
moved : (ℕ → ℕ) → ℕ → ℕ → ℕ → ℕ
moved f m n i = cond (eqb (f i) m) (f n) (f i)

moved_at : (f : ℕ → ℕ) (m n i : ℕ) → f i ≡ m → moved f m n i ≡ f n
unfolding moved
moved_at f m n i e = ap (λ b. cond b (f n) (f i)) (eq-eqb (f i) m e)

moved_off : (f : ℕ → ℕ) (m n i : ℕ) → (f i ≡ m → ⊥) → moved f m n i ≡ f i
unfolding moved
moved_off f m n i e = ap (λ b. cond b (f n) (f i)) (ne_eqb (f i) m e)

abbrev Apart : ℕ → (ℕ → ℕ) → Type 0
Apart n f = (i j : ℕ) → i < j → j < n → f i ≡ f j → ⊥

moved_below : (f : ℕ → ℕ) (m n i : ℕ) → f i < suc m → f n < suc m → (f i ≡ f n → ⊥) → moved f m n i < m
moved_below f m n i h k d = ⊎_elim (λ e. let z : f n ≡ m → ⊥ = λ u. d (e ∙ sym u) in omega (arith, moved_at f m n i e, z)) (λ e. omega (arith, moved_off f m n i e)) (cases_eq (f i) m)

moved_apart : (f : ℕ → ℕ) (m n : ℕ) → Apart (suc n) f → Apart n (moved f m n)
moved_apart f m n d i j h k e =
    ⊎_elim
    (λ p. ⊎_elim
    (λ q. d i j h (omega arith) (p ∙ sym q))
    (λ q. d j n k (omega arith) (sym (moved_off f m n j q) ∙ sym e ∙ moved_at f m n i p))
    (cases_eq (f j) m))
    (λ p. ⊎_elim
    (λ q. d i n (omega arith) (omega arith) (sym (moved_off f m n i p) ∙ e ∙ moved_at f m n j q))
    (λ q. d i j h (omega arith) (sym (moved_off f m n i p) ∙ e ∙ moved_off f m n j q))
    (cases_eq (f j) m))
    (cases_eq (f i) m)

-- n numbers below m that are pairwise different
pub pigeonhole : (m n : ℕ) (f : ℕ → ℕ) → ((i : ℕ) → i < n → f i < m) → Apart n f → n ≤ m
pigeonhole m zero f b d = omega arith
pigeonhole zero (suc n) f b d = absurd (omega (arith, b 0 (omega arith)))
pigeonhole (suc m) (suc n) f b d =
    let h : n ≤ m = pigeonhole m n (moved f m n) (λ i k. moved_below f m n i (b i (omega arith)) (b n (omega arith)) (d i n k (omega arith))) (moved_apart f m n d) in
    omega arith

-- a chain of n cells begins at a
abbrev pub Chain : List ℕ → ℕ → ℕ → Type 0
Chain code zero a = a ≡ 0
Chain code (suc n) a = (0 < a) × Chain code n (get_or code a 0)

-- where k links lead
abbrev follow : List ℕ → ℕ → ℕ → ℕ
follow code zero a = a
follow code (suc k) a = follow code k (get_or code a 0)

-- an address begins one chain at most
chain_one : (code : List ℕ) (n m a : ℕ) → Chain code n a → Chain code m a → n ≡ m
chain_one code zero zero a h k = refl
chain_one code zero (suc m) a h k = absurd (omega (arith, h, k.0))
chain_one code (suc n) zero a h k = absurd (omega (arith, h.0, k))
chain_one code (suc n) (suc m) a h k = ap suc (chain_one code n m (get_or code a 0) h.1 k.1)

-- the chain from the cell behind k links on
chain_from : (code : List ℕ) (k n m a : ℕ) → n ≡ k + m → Chain code n a → Chain code m (follow code k a)
chain_from code zero n m a e h = let z : n ≡ m = omega arith in subst (λ x. Chain code x a) z h
chain_from code (suc k) zero m a e h = absurd (omega arith)
chain_from code (suc k) (suc n) m a e h = chain_from code k n m (get_or code a 0) (omega arith) h.1

linked : (code : List ℕ) (n a : ℕ) → Chain code (suc (suc n)) a → a < length code
linked code n a h = ⊎_elim (λ l. l) (λ l. absurd (omega (arith, get_or_past code a 0 l, h.1.0))) (cases_lt a (length code))

linked_at : (code : List ℕ) (n a : ℕ) → 2 ≤ n → Chain code n a → a < length code
linked_at code zero a l h = absurd (omega arith)
linked_at code (suc zero) a l h = absurd (omega arith)
linked_at code (suc (suc n)) a l h = linked code n a h

pub chain_bound : (code : List ℕ) (n a : ℕ) → Chain code n a → n ≤ length code + 1
chain_bound code zero a h = omega arith
chain_bound code (suc n) a h =
    let b : n ≤ length code = pigeonhole (length code) n (λ k. follow code k a)
    (λ i k. linked_at code (suc n - i) (follow code i a) (omega arith) (chain_from code i (suc n) (suc n - i) a (omega arith) h))
    (λ i j k l e.
    let p = chain_from code i (suc n) (suc n - i) a (omega arith) h in
    let q = chain_from code j (suc n) (suc n - j) a (omega arith) h in
    omega (arith, chain_one code (suc n - i) (suc n - j) (follow code i a) p (subst (λ x. Chain code (suc n - j) x) (sym e) q))) in
    omega arith

-- the cells of a chain that ends, and of one that goes on
pub cells_end : (words : List ℕ) (n a : ℕ) → a ≡ 0 → cells words n a ≡ []
cells_end words zero a z = refl
cells_end words (suc n) a z = ap (λ b. pick b [] (a ∷ cells words n (get_or words a 0))) (eq-eqb a 0 z)

pub cells_more : (words : List ℕ) (n a : ℕ) → 0 < a → cells words (suc n) a ≡ a ∷ cells words n (get_or words a 0)
cells_more words n a l = let d : a ≡ 0 → ⊥ = λ z. omega arith in ap (λ b. pick b [] (a ∷ cells words n (get_or words a 0))) (ne_eqb a 0 d)

-- a chain of n cells comes to its end
ends_more : (words : List ℕ) (m a : ℕ) → 0 < a → ends_in words (suc m) a ≡ ends_in words m (get_or words a 0)
ends_more words m a l = let d : a ≡ 0 → ⊥ = λ z. omega arith in ap (λ b. pick b true (ends_in words m (get_or words a 0))) (ne_eqb a 0 d)

ends_within : (words : List ℕ) (n m a : ℕ) → Chain words n a → n ≤ m → ends_in words m a ≡ true
ends_within words zero zero a h l = eq-eqb a 0 h
ends_within words zero (suc m) a h l = ap (λ b. pick b true (ends_in words m (get_or words a 0))) (eq-eqb a 0 h)
ends_within words (suc n) zero a h l = absurd (omega arith)
ends_within words (suc n) (suc m) a h l = ends_more words m a h.0 ∙ ends_within words n m (get_or words a 0) h.1 (omega arith)

pub chain_ends : (words : List ℕ) (n a : ℕ) → Chain words n a → ends_at words a ≡ true
chain_ends words n a h = ends_within words n (length words + 1) a h (chain_bound words n a h)
