-- Places in lists, and tests of numbers and flags.
use mathlib.Core.Path.{◌≡◌, ap, refl, subst, sym}
use mathlib.Core.Logic.{◌⊎◌, inl, inr}
use mathlib.Core.Bool.{◌&&◌, ◌||◌, Bool, false, true}
use mathlib.Core.List.{[], ◌++◌, ◌∷◌, List}
use mathlib.Core.Option.{none, some}
use Prim.Native.Nat.{◌<◌, ◌≤◌, suc, zero, ℕ}
use native.Mathlib.Omega.{arith}
use lib.ListN.{length}
use lib.Dec.{eqb, ltb}
use Rattle.syntax.specs.Base.{nth, pick, put}
use Rattle.meaning.specs.System.{here_text}
use Rattle.meaning.proofs.Own.{inside}
use Rattle.meaning.proofs.Core.{no_some}
use Rattle.confluence.proofs.Local.{Fixed}

pub nth_lt : {A : Type 0} (xs : List A) (a : ℕ) (i : A) → nth xs a ≡ some i → a < length xs
nth_lt [] a i e = absurd (no_some e)
nth_lt (x ∷ xs) zero i e = omega arith
nth_lt (x ∷ xs) (suc a) i e = omega (arith, nth_lt xs a i e)

pub nth_old : {A : Type 0} (xs ys : List A) (a : ℕ) → a < length xs → nth (xs ++ ys) a ≡ nth xs a
nth_old [] ys a h = absurd (omega arith)
nth_old (x ∷ xs) ys zero h = refl
nth_old (x ∷ xs) ys (suc a) h = nth_old xs ys a (omega arith)

pub nth_new : {A : Type 0} (xs : List A) (y : A) → nth (xs ++ (y ∷ [])) (length xs) ≡ some y
nth_new [] y = refl
nth_new (x ∷ xs) y = nth_new xs y

pub nth_snoc : {A : Type 0} (xs : List A) (y : A) (a : ℕ) (i : A) → nth (xs ++ (y ∷ [])) a ≡ some i → (nth xs a ≡ some i) ⊎ ((a ≡ length xs) × (i ≡ y))
nth_snoc [] y zero i e = inr (refl, sym (inside e))
nth_snoc [] y (suc a) i e = absurd (no_some e)
nth_snoc (x ∷ xs) y zero i e = inl e
nth_snoc (x ∷ xs) y (suc a) i e = by (nth_snoc xs y a i e)
  where
    by : (nth xs a ≡ some i) ⊎ ((a ≡ length xs) × (i ≡ y)) → (nth xs a ≡ some i) ⊎ ((suc a ≡ length (x ∷ xs)) × (i ≡ y))
    by (inl h) = inl h
    by (inr h) = inr (omega (arith, h.0), h.1)

pub put_same : {A : Type 0} (xs : List A) (a : ℕ) (v : A) → a < length xs → nth (put xs a v) a ≡ some v
put_same [] a v h = absurd (omega arith)
put_same (x ∷ xs) zero v h = refl
put_same (x ∷ xs) (suc a) v h = put_same xs a v (omega arith)

pub put_other : {A : Type 0} (xs : List A) (a b : ℕ) (v : A) → (a ≡ b → ⊥) → nth (put xs a v) b ≡ nth xs b
put_other [] a b v h = refl
put_other (x ∷ xs) zero zero v h = absurd (h refl)
put_other (x ∷ xs) zero (suc b) v h = refl
put_other (x ∷ xs) (suc a) zero v h = refl
put_other (x ∷ xs) (suc a) (suc b) v h = put_other xs a b v (λ e. h (ap (λ z. suc z) e))

pub put_length : {A : Type 0} (xs : List A) (a : ℕ) (v : A) → length (put xs a v) ≡ length xs
put_length [] a v = refl
put_length (x ∷ xs) zero v = refl
put_length (x ∷ xs) (suc a) v = omega (arith, put_length xs a v)

pub length_snoc : {A : Type 0} (xs : List A) (y : A) → length (xs ++ (y ∷ [])) ≡ suc (length xs)
length_snoc [] y = refl
length_snoc (x ∷ xs) y = omega (arith, length_snoc xs y)

pub app_nil : {A : Type 0} (xs : List A) → xs ++ [] ≡ xs
app_nil [] = refl
app_nil (x ∷ xs) = ap (λ z. x ∷ z) (app_nil xs)

pub app_assoc : {A : Type 0} (xs ys zs : List A) → (xs ++ ys) ++ zs ≡ xs ++ (ys ++ zs)
app_assoc [] ys zs = refl
app_assoc (x ∷ xs) ys zs = ap (λ z. x ∷ z) (app_assoc xs ys zs)

pub equal_or_not : (i j : ℕ) → (i ≡ j) ⊎ (i ≡ j → ⊥)
equal_or_not i j = by (eqb i j) refl
  where
    by : (z : Bool) → eqb i j ≡ z → (i ≡ j) ⊎ (i ≡ j → ⊥)
    by true p = inl (grind arith)
    by false p = inr (λ e. absurd (grind arith))

abbrev IsFalse : Bool → Type 0
IsFalse true = ⊥
IsFalse false = Unit {0}

pub both : (a b : Bool) → (a && b) ≡ true → (a ≡ true) × (b ≡ true)
both true b e = (refl, e)
both false b e = absurd (subst IsFalse e tt)

pub false_true : {A : Type 0} → false ≡ true → A
false_true e = absurd (subst IsFalse e tt)

pub or_left : (a b : Bool) → a ≡ true → (a || b) ≡ true
or_left true b e = refl
or_left false b e = absurd (subst (λ z. Fixed (pick z (some (here_text [])) none)) e tt)

pub or_right : (a b : Bool) → b ≡ true → (a || b) ≡ true
or_right true b e = refl
or_right false b e = e

pub no_cons : {A : Type 0} {x : ℕ} {xs : List ℕ} → (x ∷ xs) ≡ [] → A
no_cons {x = x} {xs = xs} e = absurd (omega (arith, ap length e))

pub next_or_last : (j n : ℕ) → j < n → (suc j < n) ⊎ (suc j ≡ n)
next_or_last j n h = by (equal_or_not (suc j) n)
  where
    by : (suc j ≡ n) ⊎ (suc j ≡ n → ⊥) → (suc j < n) ⊎ (suc j ≡ n)
    by (inl e) = inr e
    by (inr e) = inl (le (suc j) n (omega arith) e)
      where
        le : (a b : ℕ) → a ≤ b → (a ≡ b → ⊥) → a < b
        le a b h k = by2 (ltb a b) refl
          where
            by2 : (z : Bool) → ltb a b ≡ z → a < b
            by2 true p = grind arith
            by2 false p = absurd (k (grind arith))

pub length_two : {A : Type 0} (xs : List A) (a b : A) → length (xs ++ (a ∷ b ∷ [])) ≡ suc (suc (length xs))
length_two [] a b = refl
length_two (x ∷ xs) a b = omega (arith, length_two xs a b)

pub nth_two : {A : Type 0} (xs : List A) (a b : A) → nth (xs ++ (a ∷ b ∷ [])) (suc (length xs)) ≡ some b
nth_two [] a b = refl
nth_two (x ∷ xs) a b = nth_two xs a b

pub nth_one : {A : Type 0} (xs : List A) (a b : A) → nth (xs ++ (a ∷ b ∷ [])) (length xs) ≡ some a
nth_one [] a b = refl
nth_one (x ∷ xs) a b = nth_one xs a b

pub eqb_self : (n : ℕ) → eqb n n ≡ true
eqb_self n = grind arith

pub eqb_no : (a b : ℕ) → (a ≡ b → ⊥) → eqb a b ≡ false
eqb_no a b d = by (eqb a b) refl
  where
    by : (z : Bool) → eqb a b ≡ z → z ≡ false
    by true e = absurd (d (grind arith))
    by false e = refl

pub length_app : {A : Type 0} (xs ys : List A) → length xs ≤ length (xs ++ ys)
length_app [] ys = omega arith
length_app (x ∷ xs) ys = omega (arith, length_app xs ys)

pub order : (q r : ℕ) → (q < r) ⊎ ((q ≡ r) ⊎ (r < q))
order q r = by (ltb q r) (ltb r q) refl refl
  where
    by : (x y : Bool) → ltb q r ≡ x → ltb r q ≡ y → (q < r) ⊎ ((q ≡ r) ⊎ (r < q))
    by true y e f = inl (grind arith)
    by false true e f = inr (inr (grind arith))
    by false false e f = inr (inl (grind arith))
