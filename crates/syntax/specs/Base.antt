-- Small helpers on lists and options, and what a name is.
use Rattle.std.specs.Prelude.{Bool, true, false, ◌&&◌, ◌||◌, List, [], ◌∷◌, ℕ, zero, suc, length, eqb, leb}
use Rattle.std.proofs.Math.Option.{Option, some, none}

-- a if the test holds, b otherwise
abbrev pub pick : {A : Type 0} → Bool → A → A → A
pick true a b = a
pick false a b = b

-- f of what is there, c if nothing is
abbrev pub opt : {A C : Type 0} → Option A → C → (A → C) → C
opt none c f = c
opt (some x) c f = f x

abbrev pub on_some : {A C : Type 0} → Option A → (A → Option C) → Option C
on_some none f = none
on_some (some x) f = f x

-- the element at a place, counted from 0
abbrev pub nth : {A : Type 0} → List A → ℕ → Option A
nth [] n = none
nth (x ∷ xs) zero = some x
nth (x ∷ xs) (suc n) = nth xs n

-- the list with another element at a place
abbrev pub put : {A : Type 0} → List A → ℕ → A → List A
put [] n v = []
put (x ∷ xs) zero v = v ∷ xs
put (x ∷ xs) (suc n) v = x ∷ put xs n v

-- a name is its bytes
abbrev pub Name : Type 0
Name = List ℕ

abbrev pub same : Name → Name → Bool
same [] [] = true
same [] (y ∷ ys) = false
same (x ∷ xs) [] = false
same (x ∷ xs) (y ∷ ys) = eqb x y && same xs ys

-- a to z, A to Z and _
abbrev pub letter : ℕ → Bool
letter c = (leb 97 c && leb c 122) || ((leb 65 c && leb c 90) || eqb c 95)

abbrev pub digit : ℕ → Bool
digit c = leb 48 c && leb c 57

abbrev pub name_bytes : List ℕ → Bool
name_bytes [] = true
name_bytes (c ∷ cs) = (letter c || digit c) && name_bytes cs

-- names of variables and functions: letters, digits and _, no digit first, at most 32 bytes
abbrev pub valid_name : List ℕ → Bool
valid_name [] = false
valid_name (c ∷ cs) = letter c && (name_bytes cs && leb (length cs) 31)
