-- A queue whose first goes to the back.
use Rattle.std.proofs.Common.{◌≡◌, ℕ, zero, suc, ◌+◌, ◌<◌, List, [], ◌∷◌, ◌++◌, length, get_or, drop, set, Some, None, refl, ap, ◌∙◌, arith}
use Rattle.std.proofs.lemmas.List.{set-set, get_or-set_same}
use Rattle.scheduler.specs.Queue.{first, rotated, shifted}

come_forward : (i : ℕ) (q : List ℕ) → suc i < length q → set (shifted i q) i (get_or (shifted i q) (suc i) 0) ≡ shifted (suc i) q
come_forward zero [] h = absurd (omega arith)
come_forward zero (x ∷ []) h = absurd (omega arith)
come_forward zero (x ∷ y ∷ q) h = refl
come_forward (suc i) [] h = absurd (omega arith)
come_forward (suc i) (x ∷ []) h = absurd (omega arith)
come_forward (suc i) (x ∷ y ∷ q) h = ap (λ z. y ∷ z) (come_forward i (y ∷ q) (omega arith))

last_goes : (i v : ℕ) (q : List ℕ) → suc i ≡ length q → set (shifted i q) i v ≡ drop 1 q ++ (v ∷ [])
last_goes i v [] h = absurd (omega arith)
last_goes zero v (x ∷ []) h = refl
last_goes (suc i) v (x ∷ []) h = absurd (omega arith)
last_goes zero v (x ∷ y ∷ q) h = absurd (omega arith)
last_goes (suc i) v (x ∷ y ∷ q) h = ap (λ z. y ∷ z) (last_goes i v (y ∷ q) (omega arith))

rotates : (q : List ℕ) → 0 < length q → drop 1 q ++ (get_or q 0 0 ∷ []) ≡ rotated q
rotates [] h = absurd (omega arith)
rotates (x ∷ q) h = refl

-- the same in a list of lists
pub queue_more : (m m₁ m₂ : List (List ℕ)) (i : ℕ) → 0 < length m → i + 1 < length (get_or m 0 []) → m₁ ≡ set m 0 (shifted i (get_or m 0 [])) → m₂ ≡ set m₁ 0 (set (get_or m₁ 0 []) i (get_or (get_or m₁ 0 []) (i + 1) 0)) → m₂ ≡ set m 0 (shifted (i + 1) (get_or m 0 []))
queue_more m m₁ m₂ i l h e f =
    let q = get_or m 0 [] in
    let g : get_or m₁ 0 [] ≡ shifted i q = ap (λ m. get_or m 0 []) e ∙ get_or-set_same m 0 (shifted i q) [] l in
    let z : i + 1 ≡ suc i = omega arith in
    f ∙ ap (λ x. set m₁ 0 (set x i (get_or x (i + 1) 0))) g ∙ ap (λ m. set m 0 (set (shifted i q) i (get_or (shifted i q) (i + 1) 0))) e ∙ set-set m 0 (shifted i q) _ ∙ rw z (ap (set m 0) (come_forward i q (omega arith)))

pub queue_last : (m m₁ m₂ : List (List ℕ)) (i v : ℕ) → 0 < length m → i + 1 ≡ length (get_or m 0 []) → v ≡ get_or (get_or m 0 []) 0 0 → m₁ ≡ set m 0 (shifted i (get_or m 0 [])) → m₂ ≡ set m₁ 0 (set (get_or m₁ 0 []) i v) → m₂ ≡ set m 0 (rotated (get_or m 0 []))
queue_last m m₁ m₂ i v l h w e f =
    let q = get_or m 0 [] in
    let g : get_or m₁ 0 [] ≡ shifted i q = ap (λ m. get_or m 0 []) e ∙ get_or-set_same m 0 (shifted i q) [] l in
    f ∙ ap (λ x. set m₁ 0 (set x i v)) g ∙ ap (λ m. set m 0 (set (shifted i q) i v)) e ∙ set-set m 0 (shifted i q) _ ∙ ap (set m 0) (last_goes i v q (omega arith) ∙ ap (λ v. drop 1 q ++ (v ∷ [])) w ∙ rotates q (omega arith))

pub queue_there : (m : List (List ℕ)) → 0 < length (get_or m 0 []) → 0 < length m
queue_there [] h = absurd (omega arith)
queue_there (x ∷ m) h = omega arith

pub queue_none : (m : List (List ℕ)) → length (get_or m 0 []) ≡ 0 → m ≡ set m 0 (rotated (get_or m 0 []))
queue_none [] h = refl
queue_none ([] ∷ m) h = refl
queue_none ((x ∷ q) ∷ m) h = absurd (omega arith)

pub first_is : (q : List ℕ) (v : ℕ) → Some v ≡ first q → (0 < length q) × (v ≡ get_or q 0 0)
first_is [] v h = let z : Some v ≡ None = h in absurd (cc)
first_is (x ∷ q) v h = let z : v ≡ x = cc in (omega arith, z)
