-- No process, or one, number 0, that is within what the machine has: in every run of a covered text of the core.
use mathlib.Core.Path.{◌≡◌, refl, sym, ◌∙◌, ap, subst}
use mathlib.Core.Bool.{Bool, true, false}
use mathlib.Core.List.{List, [], ◌∷◌}
use mathlib.Core.Option.{Option, some, none}
use Prim.Native.Nat.{ℕ}
use native.Mathlib.Omega.{arith}
use lib.Dec.{eqb}
use Rattle.syntax.specs.Base.{pick, on_some}
use Rattle.meaning.specs.System.{Process, System, find_process, replace, without}
use Rattle.meaning.specs.Step.{StepResult, continues, exits, step, settle, move, moves}
use Rattle.meaning.proofs.Own.{inside}
use Rattle.meaning.proofs.Core.{no_some, split_moves}
use Rattle.within.proofs.Steps.{Within, Stays?, step_stays}

abbrev pub Alone : List Process → Type 0
Alone [] = Unit {0}
Alone (w ∷ []) = (w.pid ≡ 0) × Within w
Alone (w ∷ v ∷ vs) = ⊥

change_one : (w v : Process) → replace (w ∷ []) w.pid v ≡ v ∷ []
change_one w v = grind arith

without_one : (w : Process) → without (w ∷ []) w.pid ≡ []
without_one w = grind arith

find_one : (w v : Process) (n : ℕ) → find_process (w ∷ []) n ≡ some v → w ≡ v
find_one w v n e = by (eqb w.pid n) e
  where
    by : (b : Bool) → pick b (some w) none ≡ some v → w ≡ v
    by true h = inside h
    by false h = absurd (no_some h)

abbrev Moved : System → System → ℕ → List Process → Type 0
Moved s t n ws = on_some (find_process ws n) (λ w. on_some (step s w) (λ o. some (settle w o))) ≡ some t

settled_alone : (s t : System) (w : Process) (o : Option StepResult) → s.processes ≡ w ∷ [] → w.pid ≡ 0 → Stays? s w o → on_some o (λ o. some (settle w o)) ≡ some t → Alone t.processes
settled_alone s t w none p z k g = absurd (no_some g)
settled_alone s t w (some (continues v u)) p z k g = subst Alone (sym (change_one w v) ∙ ap (λ vs. replace vs w.pid v) (sym (k.1 ∙ p)) ∙ ap (λ z. z.processes) (inside g)) (k.0 ∙ z, k.2)
settled_alone s t w (some (exits m u)) p z k g = subst Alone (sym (without_one w) ∙ ap (λ vs. without vs w.pid) (sym (k ∙ p)) ∙ ap (λ z. z.processes) (inside g)) tt

move_alone : (s t : System) (n : ℕ) → Alone s.processes → move s n ≡ some t → Alone t.processes
move_alone s t n a e = by s.processes refl a
  where
    found : (w : Process) (o : Option Process) → s.processes ≡ w ∷ [] → w.pid ≡ 0 → Within w → find_process (w ∷ []) n ≡ o → on_some o (λ w. on_some (step s w) (λ o. some (settle w o))) ≡ some t → Alone t.processes
    found w none p z c f g = absurd (no_some g)
    found w (some v) p z c f g = settled_alone s t w (step s w) p z (step_stays s w w.control c.0 c.1 c.2 c.3) (subst (λ v. on_some (step s v) (λ o. some (settle v o)) ≡ some t) (sym (find_one w v n f)) g)

    by : (ws : List Process) → s.processes ≡ ws → Alone ws → Alone t.processes
    by [] p h = absurd (no_some (subst (Moved s t n) p e))
    by (w ∷ []) p h = found w (find_process (w ∷ []) n) p h.0 h.1 refl (subst (Moved s t n) p e)
    by (w ∷ v ∷ vs) p h = absurd h

pub moves_alone : (ms : List ℕ) (s t : System) → Alone s.processes → moves s ms ≡ some t → Alone t.processes
moves_alone [] s t h e = subst (λ r. Alone r.processes) (inside e) h
moves_alone (n ∷ ms) s t h e =
    let f = split_moves s t n ms e in
    moves_alone ms f.0 t (move_alone s f.0 n h f.1) f.2

pub found_within : (ws : List Process) (n : ℕ) (w : Process) → Alone ws → find_process ws n ≡ some w → Within w
found_within [] n w h e = absurd (no_some e)
found_within (v ∷ []) n w h e = subst Within (find_one v w n e) h.1
found_within (v ∷ x ∷ vs) n w h e = absurd h
