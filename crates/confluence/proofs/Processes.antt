-- Lists of processes with unique numbers, and what a move does to them.
use mathlib.Core.Path.{◌∙◌, ◌≡◌, ap, refl, subst, sym}
use mathlib.Core.Bool.{Bool, false, true}
use mathlib.Core.List.{[], ◌++◌, ◌∷◌, List}
use mathlib.Core.Option.{none, Option, some}
use Prim.Native.Nat.{◌<◌, ◌≤◌, ℕ}
use native.Mathlib.Omega.{arith}
use lib.Dec.{eqb, ltb}
use Rattle.syntax.specs.Base.{on_some, pick}
use Rattle.meaning.specs.System.{find_process, Process, replace, System, without}
use Rattle.meaning.specs.Step.{move, settle, step, StepResult}
use Rattle.meaning.proofs.Own.{inside}
use Rattle.meaning.proofs.Core.{no_some}
use Rattle.confluence.proofs.Basics.{eqb_self}

-- no number stands twice
abbrev pub Unique : List Process → Type 0
Unique [] = Unit {0}
Unique (w ∷ ws) = (find_process ws w.pid ≡ none) × Unique ws

pub without_find : (ws : List Process) (q : ℕ) → Unique ws → find_process (without ws q) q ≡ none
without_find [] q h = refl
without_find (w ∷ ws) q h = by (eqb w.pid q) refl (without_find ws q h.1)
  where
    by : (z : Bool) → eqb w.pid q ≡ z → find_process (without ws q) q ≡ none → find_process (pick z ws (w ∷ without ws q)) q ≡ none
    by true e g = let p : w.pid ≡ q = grind arith in subst (λ n. find_process ws n ≡ none) p h.0
    by false e g = subst (λ z. pick z (some w) (find_process (without ws q) q) ≡ none) (sym e) g

none_without : (ws : List Process) (q n : ℕ) → find_process ws n ≡ none → find_process (without ws q) n ≡ none
none_without [] q n h = refl
none_without (w ∷ ws) q n h = by (eqb w.pid n) (eqb w.pid q) refl refl h (none_without ws q n)
  where
    by : (y z : Bool) → eqb w.pid n ≡ y → eqb w.pid q ≡ z → pick y (some w) (find_process ws n) ≡ none
        → (find_process ws n ≡ none → find_process (without ws q) n ≡ none) → find_process (pick z ws (w ∷ without ws q)) n ≡ none
    by true z e f g k = absurd (no_some (sym g))
    by false true e f g k = g
    by false false e f g k = subst (λ z. pick z (some w) (find_process (without ws q) n) ≡ none) (sym e) (k g)

pub unique_without : (ws : List Process) (q : ℕ) → Unique ws → Unique (without ws q)
unique_without [] q h = tt
unique_without (w ∷ ws) q h = by (eqb w.pid q) (none_without ws q w.pid h.0, unique_without ws q h.1)
  where
    by : (z : Bool) → Unique (w ∷ without ws q) → Unique (pick z ws (w ∷ without ws q))
    by true g = h.1
    by false g = g

none_replace : (ws : List Process) (q n : ℕ) (v : Process) → v.pid ≡ q → find_process ws n ≡ none → find_process (replace ws q v) n ≡ none
none_replace [] q n v p h = refl
none_replace (w ∷ ws) q n v p h = by (eqb w.pid n) (eqb w.pid q) refl refl h (none_replace ws q n v p)
  where
    by : (y z : Bool) → eqb w.pid n ≡ y → eqb w.pid q ≡ z → pick y (some w) (find_process ws n) ≡ none
        → (find_process ws n ≡ none → find_process (replace ws q v) n ≡ none) → find_process (pick z (v ∷ ws) (w ∷ replace ws q v)) n ≡ none
    by true z e f g k = absurd (no_some (sym g))
    by false true e f g k = let r : v.pid ≡ w.pid = p ∙ grind arith in subst (λ m. pick (eqb m n) (some v) (find_process ws n) ≡ none) (sym r)
        (subst (λ z. pick z (some v) (find_process ws n) ≡ none) (sym e) g)
    by false false e f g k = subst (λ z. pick z (some w) (find_process (replace ws q v) n) ≡ none) (sym e) (k g)

pub unique_replace : (ws : List Process) (q : ℕ) (v : Process) → v.pid ≡ q → Unique ws → Unique (replace ws q v)
unique_replace [] q v p h = tt
unique_replace (w ∷ ws) q v p h = by (eqb w.pid q) refl (none_replace ws q w.pid v p h.0, unique_replace ws q v p h.1)
  where
    by : (z : Bool) → eqb w.pid q ≡ z → Unique (w ∷ replace ws q v) → Unique (pick z (v ∷ ws) (w ∷ replace ws q v))
    by true e g = let r : v.pid ≡ w.pid = p ∙ grind arith in (subst (λ m. find_process ws m ≡ none) (sym r) h.0, h.1)
    by false e g = g

pub found_replace : (ws : List Process) (q : ℕ) (w v : Process) → find_process ws q ≡ some w → v.pid ≡ q → find_process (replace ws q v) q ≡ some v
found_replace [] q w v e p = absurd (no_some e)
found_replace (u ∷ ws) q w v e p = by (eqb u.pid q) refl e (λ g. found_replace ws q w v g p)
  where
    by : (z : Bool) → eqb u.pid q ≡ z → pick z (some u) (find_process ws q) ≡ some w
        → (find_process ws q ≡ some w → find_process (replace ws q v) q ≡ some v) → find_process (pick z (v ∷ ws) (u ∷ replace ws q v)) q ≡ some v
    by true f g k = subst (λ z. pick z (some v) (find_process ws q) ≡ some v) (sym (subst (λ n. eqb n q ≡ true) (sym (p ∙ sym r)) f)) refl
      where
        r : u.pid ≡ q
        r = grind arith
    by false f g k = subst (λ z. pick z (some u) (find_process (replace ws q v) q) ≡ some v) (sym f) (k g)

pub find_low : (xs ys : List Process) (q : ℕ) → find_process ys q ≡ none → find_process (xs ++ ys) q ≡ find_process xs q
find_low [] ys q h = h
find_low (x ∷ xs) ys q h = ap (λ z. pick (eqb x.pid q) (some x) z) (find_low xs ys q h)

pub find_high : (xs ys : List Process) (q : ℕ) → find_process xs q ≡ none → find_process (xs ++ ys) q ≡ find_process ys q
find_high [] ys q h = refl
find_high (x ∷ xs) ys q h = by (eqb x.pid q) h (λ g. find_high xs ys q g)
  where
    by : (z : Bool) → pick z (some x) (find_process xs q) ≡ none → (find_process xs q ≡ none → find_process (xs ++ ys) q ≡ find_process ys q)
        → pick z (some x) (find_process (xs ++ ys) q) ≡ find_process ys q
    by true g ih = absurd (no_some (sym g))
    by false g ih = ih g

pub unique_append : (xs ys : List Process) (n : ℕ) → Unique xs → Unique ys → ((q : ℕ) → n ≤ q → find_process xs q ≡ none)
    → ((q : ℕ) → q < n → find_process ys q ≡ none) → Unique (xs ++ ys)
unique_append [] ys n a b f g = b
unique_append (x ∷ xs) ys n a b f g = (find_low xs ys x.pid (lo (ltb x.pid n) refl) ∙ a.0, unique_append xs ys n a.1 b (λ q h. tl q (eqb x.pid q) (f q h)) g)
  where
    tl : (q : ℕ) (z : Bool) → pick z (some x) (find_process xs q) ≡ none → find_process xs q ≡ none
    tl q true h = absurd (no_some (sym h))
    tl q false h = h

    hd : find_process (x ∷ xs) x.pid ≡ some x
    hd = ap (λ z. pick z (some x) (find_process xs x.pid)) (eqb_self x.pid)

    lo : (z : Bool) → ltb x.pid n ≡ z → find_process ys x.pid ≡ none
    lo true h = g x.pid (grind arith)
    lo false h = absurd (no_some (sym (f x.pid (grind arith)) ∙ hd))

pub no_move : (s t : System) (q : ℕ) → find_process s.processes q ≡ none → move s q ≡ some t → ⊥
no_move s t q e mv = no_some (ap (λ z. on_some z (λ w. on_some (step s w) (λ o. some (settle w o)))) (sym e) ∙ mv)

pub mover : (s t : System) (q : ℕ) → move s q ≡ some t → (w : Process) × (find_process s.processes q ≡ some w)
mover s t q mv = by (find_process s.processes q) refl
  where
    by : (o : Option Process) → find_process s.processes q ≡ o → (w : Process) × (find_process s.processes q ≡ some w)
    by none e = absurd (no_move s t q e mv)
    by (some w) e = (w, e)

pub move_of : (s t : System) (q : ℕ) (w : Process) → find_process s.processes q ≡ some w → move s q ≡ some t → (a : StepResult) × (step s w ≡ some a) × (settle w a ≡ t)
move_of s t q w e mv = by (step s w) refl (ap (λ z. on_some z (λ w. on_some (step s w) (λ o. some (settle w o)))) (sym e) ∙ mv)
  where
    by : (o : Option StepResult) → step s w ≡ o → on_some o (λ a. some (settle w a)) ≡ some t → (a : StepResult) × (step s w ≡ some a) × (settle w a ≡ t)
    by none f g = absurd (no_some g)
    by (some a) f g = (a, f, inside g)

pub no_processes : (ws : List Process) → ((q : ℕ) → find_process ws q ≡ none) → ws ≡ []
no_processes [] h = refl
no_processes (w ∷ ws) h = absurd (no_some (sym (h w.pid) ∙ ap (λ z. pick z (some w) (find_process ws w.pid)) (eqb_self w.pid)))
