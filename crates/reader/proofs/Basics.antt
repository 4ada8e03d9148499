-- Small laws that several files use.
use Rattle.std.proofs.Common.{◌≡◌, ℕ, zero, suc, ◌<◌, ◌≤◌, max, Bool, true, false, T, ◌⊎◌, sym, subst, inl, inr, arith}
use Rattle.std.specs.Prelude.{Result, Ok, Err, OnErr}
use mathlib.Core.Option.{Option, some, none}

is_some : {A : Type 0} → Option A → Bool
is_some none = false
is_some (some a) = true

pub not_none : {A : Type 0} {a : A} → none ≡ some a → ⊥
unfolding is_some
not_none {A} e = subst (λ (o : Option A). T (is_some o)) (sym e) tt

pub true_false : {A : Type 0} → true ≡ false → A
true_false e = absurd (subst T e tt)

pub lt_or : (k n : ℕ) → (k < n) ⊎ (n ≤ k)
lt_or zero zero = inr (omega arith)
lt_or zero (suc n) = inl (omega arith)
lt_or (suc k) zero = inr (omega arith)
lt_or (suc k) (suc n) = more (lt_or k n)
  where
    more : (k < n) ⊎ (n ≤ k) → (suc k < suc n) ⊎ (suc n ≤ suc k)
    more (inl a) = inl (omega arith)
    more (inr a) = inr (omega arith)

-- the highest stage so far, from part to part
pub max_assoc : (a b c : ℕ) → max (max a b) c ≡ max a (max b c)
max_assoc a b c = omega arith

-- what holds in any case holds on an error
pub on_err : {A E P : Type 0} (r : Result A E) → P → OnErr r P
on_err (Ok a) p = tt
on_err (Err e) p = p

pub not_true : {P : Type 0} → (P → false ≡ true) → P → ⊥
not_true f p = true_false (sym (f p))
