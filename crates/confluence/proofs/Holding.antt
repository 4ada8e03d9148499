-- A disciplined process holds the two handles that it began with, so their pipes do not end while it runs.
use mathlib.Core.Path.{◌≡◌, refl, subst, sym}
use mathlib.Core.Logic.{◌⊎◌, inl, inr}
use mathlib.Core.Bool.{◌||◌, Bool, false, true}
use mathlib.Core.List.{[], ◌∷◌, List}
use mathlib.Core.Option.{none, some}
use Prim.Native.Nat.{ℕ}
use lib.Dec.{eqb}
use Rattle.syntax.specs.Base.{pick}
use Rattle.syntax.specs.Tree.{case, Command, end, for, function, group, if, next, piped, simple, single, subshell, while}
use Rattle.meaning.specs.System.{at_and_or, at_builtin, at_capture, at_command, at_list, at_pipeline, at_redirects, at_status, at_unwind, at_wait, at_words, Control, Expansion, f_and_or, f_arguments, f_body, f_condition, f_for, f_handles, f_if, f_list, f_not, find_process, Frame, Handle, handle_is, held, here_text, in_control, in_frames, Process, Purpose, to_assign, to_invoke, to_loop, to_match, to_redirect, to_select}
use Rattle.meaning.proofs.Own.{inside}
use Rattle.meaning.proofs.Core.{no_some}
use Rattle.confluence.proofs.Basics.{or_left, or_right}
use Rattle.confluence.proofs.Renaming.{InProcess, Sequential}
use Rattle.confluence.proofs.Local.{Fixed}
use Rattle.confluence.proofs.Simulation.{NotCapture}
use Rattle.confluence.proofs.Restrictions.{OkCommand}
use Rattle.confluence.proofs.Discipline.{At, AtPurpose, Between, Disciplined, NotPipeline, Within}

-- a disciplined step is sequential, except at a pipeline or a $( )
pub sequential : (b0 b1 : ℕ) (i : Bool) (c : Control) (k : List Frame) (a b : ℕ) → NotPipeline b0 b1 c → At b0 b1 i c k a b → Sequential c × NotCapture c
sequential b0 b1 i (at_list end) k a b np h = (tt, tt)
sequential b0 b1 i (at_list (next x true l)) k a b np h = absurd h.0
sequential b0 b1 i (at_list (next x false l)) k a b np h = (tt, tt)
sequential b0 b1 i (at_and_or x) k a b np h = (tt, tt)
sequential b0 b1 i (at_pipeline n (single c)) k a b np h = (tt, tt)
sequential b0 b1 i (at_pipeline n (piped c p)) k a b np h = absurd np
sequential b0 b1 i (at_command c) k a b np h = (by c h.0, tt)
  where
    by : (c : Command) → OkCommand i c → InProcess c
    by (simple ss ws ts) g = tt
    by (group l ts) g = tt
    by (subshell l ts) g = absurd g
    by (if x y z ts) g = tt
    by (while x y ts) g = tt
    by (for x ws l ts) g = tt
    by (case w is ts) g = tt
    by (function x l) g = absurd g
sequential b0 b1 i (at_words x y) k a b np h = (np, tt)
sequential b0 b1 i (at_redirects ts t) k a b np h = (tt, tt)
sequential b0 b1 i (at_builtin u) k a b np h = (tt, tt)
sequential b0 b1 i (at_status n) k a b np h = (tt, tt)
sequential b0 b1 i (at_unwind t n) k a b np h = (tt, tt)
sequential b0 b1 i (at_wait []) k a b np h = (tt, tt)
sequential b0 b1 i (at_wait (p ∷ ps)) k a b np h = absurd h
sequential b0 b1 i (at_capture d bs q x y) k a b np h = absurd np

abbrev EitherEnd : (os : List Handle) (g : Handle → Bool) → ℕ → ℕ → Type 0
EitherEnd os g b0 b1 = (handle_is os g b0 || handle_is os g b1) ≡ true

within_frames : (b0 b1 : ℕ) (i : Bool) (os : List Handle) (g : Handle → Bool) (k : List Frame) (b : ℕ) → EitherEnd os g b0 b1 → Within b0 b1 i k b → in_frames os g k ≡ true
within_frames b0 b1 i os g [] b h e = absurd e
within_frames b0 b1 i os g (f_list l ∷ k) b h e = absurd e
within_frames b0 b1 i os g (f_and_or c n p ∷ k) b h e = absurd e
within_frames b0 b1 i os g (f_not ∷ k) b h e = absurd e
within_frames b0 b1 i os g (f_if x y ∷ k) b h e = absurd e
within_frames b0 b1 i os g (f_condition x y ∷ k) b h e = absurd e
within_frames b0 b1 i os g (f_body x y ∷ k) b h e = absurd e
within_frames b0 b1 i os g (f_for x as₁ l ∷ k) b h e = absurd e
within_frames b0 b1 i os g (f_handles x y ∷ k) b h e = subst (λ z. (handle_is os g z || (handle_is os g y || in_frames os g k)) ≡ true) (sym e.0)
    (subst (λ z. (handle_is os g b0 || (handle_is os g z || in_frames os g k)) ≡ true) (sym e.1)
    (three (handle_is os g b0) (handle_is os g b1) (in_frames os g k) h))
  where
    three : (a b c : Bool) → (a || b) ≡ true → (a || (b || c)) ≡ true
    three true b c h = refl
    three false true c h = refl
    three false false c h = absurd (subst (λ z. Fixed (pick z (some (here_text [])) none)) h tt)
within_frames b0 b1 i os g (f_arguments as₁ ∷ k) b h e = absurd e

pub control_holds : (b0 b1 : ℕ) (i : Bool) (os : List Handle) (g : Handle → Bool) (c : Control) (k : List Frame) (a b : ℕ) → EitherEnd os g b0 b1
    → At b0 b1 i c k a b → ((handle_is os g a || handle_is os g b) || in_frames os g k) ≡ true
control_holds b0 b1 i os g c k a b h e = by c e
  where
    pl : Between b0 b1 i k a b → ((handle_is os g a || handle_is os g b) || in_frames os g k) ≡ true
    pl p = or_left _ _ (subst (λ z. (handle_is os g z || handle_is os g b) ≡ true) (sym p.1) (subst (λ z. (handle_is os g b0 || handle_is os g z) ≡ true) (sym p.2) h))

    ir : Within b0 b1 i k b → ((handle_is os g a || handle_is os g b) || in_frames os g k) ≡ true
    ir p = or_right (handle_is os g a || handle_is os g b) _ (within_frames b0 b1 i os g k b h p)

    ei : Between b0 b1 i k a b ⊎ Within b0 b1 i k b → ((handle_is os g a || handle_is os g b) || in_frames os g k) ≡ true
    ei (inl p) = pl p
    ei (inr p) = ir p

    wy : (j : Bool) (x : Expansion) (y : Purpose) → AtPurpose b0 b1 i j x y k a b → ((handle_is os g a || handle_is os g b) || in_frames os g k) ≡ true
    wy j x (to_assign n ss ws ts) p = pl p.4
    wy j x (to_invoke ts) p = pl p.2
    wy j x (to_redirect n ts t) p = ir p.3
    wy j x (to_loop n l) p = pl p.1
    wy j x (to_select is) p = pl p.1
    wy j x (to_match n l is) p = pl p.2

    by : (c : Control) → At b0 b1 i c k a b → ((handle_is os g a || handle_is os g b) || in_frames os g k) ≡ true
    by (at_list l) p = pl p.1
    by (at_and_or x) p = pl p.1
    by (at_pipeline n q) p = pl p.1
    by (at_command c) p = pl p.1
    by (at_words x y) p = wy p.0 x y p.4
    by (at_redirects ts t) p = ir p.4
    by (at_builtin u) p = ir p
    by (at_status n) p = ei p
    by (at_unwind t n) p = ei p
    by (at_wait []) p = ei p
    by (at_wait (q ∷ ps)) p = absurd p
    by (at_capture d bs q x y) p = absurd p

-- one that holds it is enough
pub held_by : (ws : List Process) (q : ℕ) (w : Process) (os : List Handle) (g : Handle → Bool) → find_process ws q ≡ some w
    → ((handle_is os g w.stdin || handle_is os g w.stdout) || (in_frames os g w.frames || in_control os g w.control)) ≡ true
    → held os g ws ≡ true
held_by [] q w os g e h = absurd (no_some e)
held_by (v ∷ ws) q w os g e h = by (eqb v.pid q) e (λ z. held_by ws q w os g z h)
  where
    five : (a b c : Bool) → (a || b) ≡ true → (a || (b || c)) ≡ true
    five true b c h = refl
    five false true c h = refl
    five false false c h = absurd (subst (λ z. Fixed (pick z (some (here_text [])) none)) h tt)

    by : (z : Bool) → pick z (some v) (find_process ws q) ≡ some w → (find_process ws q ≡ some w → held os g ws ≡ true) → held os g (v ∷ ws) ≡ true
    by true p r = five (handle_is os g v.stdin || handle_is os g v.stdout) (in_frames os g v.frames || in_control os g v.control)
        (held os g ws) (subst (λ (u : Process). ((handle_is os g u.stdin || handle_is os g u.stdout) ||
        (in_frames os g u.frames || in_control os g u.control)) ≡ true) (sym (inside p)) h)
    by false p r = or_right (handle_is os g v.stdin || handle_is os g v.stdout) _ (or_right (in_frames os g v.frames || in_control os g v.control) _ (r p))

pub process_holds : (ws : List Process) (q : ℕ) (w : Process) (b0 b1 : ℕ) (i : Bool) (os : List Handle) (g : Handle → Bool) → EitherEnd os g b0 b1
    → find_process ws q ≡ some w → Disciplined b0 b1 i w → held os g ws ≡ true
process_holds ws q w b0 b1 i os g h e f = held_by ws q w os g e (six (handle_is os g w.stdin || handle_is os g w.stdout)
    (in_frames os g w.frames) (in_control os g w.control) (control_holds b0 b1 i os g w.control w.frames w.stdin w.stdout h
    f.place))
  where
    six : (a b c : Bool) → (a || b) ≡ true → (a || (b || c)) ≡ true
    six true b c h = refl
    six false true c h = refl
    six false false c h = absurd (subst (λ z. Fixed (pick z (some (here_text [])) none)) h tt)
