-- Steps as moves of a system.
use Rattle.std.proofs.Common.{◌≡◌, ℕ, zero, suc, ◌+◌, ◌<◌, Bool, true, false, eqb, List, [], ◌∷◌, ◌++◌, take, drop, set, replicate, Ok, Err, Result, MatchResult, sym, refl, ap, ◌∙◌, subst, inl, arith}
use Rattle.std.proofs.lemmas.Bool.{eq-eqb}
use mathlib.Core.Option.{Option, some, none}
use Rattle.std.specs.Result.{IsOkAnd}
use Rattle.store.specs.declared.Store.{Store}
use Rattle.syntax.specs.Base.{pick, on_some, nth}
use Rattle.meaning.specs.System.{Control, Frame, Process, System, host_paper, with_processes, with_paper, find_process, replace}
use Rattle.meaning.specs.Step.{continues, exits, step, settle, move, moves}
use Rattle.machine.specs.declared.process.Process.{Process as Process'}
use Rattle.machine.specs.declared.step.Step.{Step}
use Rattle.machine.specs.declared.step.Step.TheVariants.{Continues, Prints, Exits}
use Rattle.machine.specs.declared.halt.Halt.{Halt}
use Rattle.machine.specs.declared.halt.Halt.TheVariants.{NoRoom, PaperFull, Unsupported}
use Rattle.machine.specs.declared.stretch.Ending.TheVariants.{Exited as Exited'}
use Rattle.machine.specs.Represent.{Rest, abstract, Kept, Rep}
use Rattle.std.proofs.lemmas.List.{length-set, take_more_set, drop-set-lt, drop-drop}
use Rattle.machine.specs.Promises.{Does, StepsAs, Stepped}
use Rattle.machine.specs.Stretches.{with_process, Reached, Stands, EndSays}
use Rattle.machine.proofs.Places.{kept_none, kept_then}

-- a step that prints nothing leaves the paper as it is
pub lifted : {text code : List ℕ} {s s' : Store} {o : List ℕ} {place : ℕ} {p : Process'} (a : Result Process' Halt) (r : Result Step Halt) → MatchResult a (λ x. IsOkAnd r (λ y. y ≡ Continues x)) (λ e. r ≡ Err e) → Does text code s s' p a → Stepped text code s s' o o place p r
lifted {text} {code} {s} {s'} {o} {place} {p} (Ok x) (Ok y) e h = subst (λ y. Stepped text code s s' o o place p (Ok y)) (sym e) (record { same = h.same; steps = record { says = λ number r c k g. (h.says number r c k g, refl) } })
lifted (Ok x) (Err d) e h = absurd e
lifted (Err NoRoom) r e h = rw e (record { same = h.same; steps = record { says = λ number r c k g. (h.says number r c k g, refl) } })
lifted (Err PaperFull) r e h = rw e (record { same = h.same; steps = record { says = λ number r c k g. absurd (h.says number r c k g) } })
lifted (Err Unsupported) r e h = rw e (record { same = h.same; steps = record { says = λ number r c k g. (inl (h.says number r c k g), refl) } })

-- the process by its number
found : (ws : List Process) (n : ℕ) (w v : Process) → find_process ws n ≡ some w → v.pid ≡ n → find_process (replace ws n v) n ≡ some v
found [] n w v h e = absurd (cc)
found (u ∷ ws) n w v h e = by (eqb u.pid n) refl h (λ g. found ws n w v g e)
  where
    by : (b : Bool) → eqb u.pid n ≡ b → pick b (some u) (find_process ws n) ≡ some w → (find_process ws n ≡ some w → find_process (replace ws n v) n ≡ some v) → find_process (pick b (v ∷ ws) (u ∷ replace ws n v)) n ≡ some v
    by true q g f = rw (eq-eqb v.pid n e)
    by false q g f = rw q (f g)

replaced : (ws : List Process) (n : ℕ) (v u : Process) → v.pid ≡ n → replace (replace ws n v) n u ≡ replace ws n u
replaced [] n v u e = refl
replaced (w ∷ ws) n v u e = by (eqb w.pid n) refl (replaced ws n v u e)
  where
    by : (b : Bool) → eqb w.pid n ≡ b → replace (replace ws n v) n u ≡ replace ws n u → replace (pick b (v ∷ ws) (w ∷ replace ws n v)) n u ≡ pick b (u ∷ ws) (w ∷ replace ws n u)
    by true q f = rw (eq-eqb v.pid n e)
    by false q f = rw (q, f)

itself : (ws : List Process) (n : ℕ) (w : Process) → find_process ws n ≡ some w → replace ws n w ≡ ws
itself [] n w h = refl
itself (u ∷ ws) n w h = by (eqb u.pid n) h (λ g. itself ws n w g)
  where
    by : (b : Bool) → pick b (some u) (find_process ws n) ≡ some w → (find_process ws n ≡ some w → replace ws n w ≡ ws) → pick b (w ∷ ws) (u ∷ replace ws n w) ≡ u ∷ ws
    by true g f = let z : u ≡ w = cc in ap (λ v. v ∷ ws) (sym z)
    by false g f = ap (λ z. u ∷ z) (f g)

moves_push : (s t u : System) (ms : List ℕ) (n : ℕ) → moves s ms ≡ some t → move t n ≡ some u → moves s (ms ++ (n ∷ [])) ≡ some u
moves_push s t u [] n e f = let g : s ≡ t = cc in rw (g, f)
moves_push s t u (x ∷ ms) n e f = by (λ v g. moves_push v t u ms n g f) (move s x) refl e
  where
    by : ((v : System) → moves v ms ≡ some t → moves v (ms ++ (n ∷ [])) ≡ some u) → (o : Option System) → move s x ≡ o → on_some o (λ v. moves v ms) ≡ some t → on_some (move s x) (λ v. moves v (ms ++ (n ∷ []))) ≡ some u
    by k none p g = absurd (cc)
    by k (some v) p g = rw p (k v g)

replicate_more : (j n : ℕ) → replicate (j + 1) n ≡ replicate j n ++ (n ∷ [])
replicate_more zero n = refl
replicate_more (suc j) n = let e : suc j + 1 ≡ suc (j + 1) = omega arith in rw e (ap (λ z. n ∷ z) (replicate_more j n))

moves_more : (s t u : System) (j n : ℕ) → moves s (replicate j n) ≡ some t → move t n ≡ some u → moves s (replicate (j + 1) n) ≡ some u
moves_more s t u j n e f = ap (moves s) (replicate_more j n) ∙ moves_push s t u (replicate j n) n e f

-- a step of the process, in a system with it
moved : (s : System) (w₀ w w' : Process) (n : ℕ) (o o' : List ℕ) → find_process s.processes n ≡ some w₀ → w.pid ≡ n → w'.pid ≡ n → step (with_process s w o) w ≡ some (continues w' (with_paper (with_process s w o) o')) → move (with_process s w o) n ≡ some (with_process s w' o')
moved s w₀ w w' n o o' h e f t =
    let u = with_process s w o in
    let g : find_process u.processes n ≡ some w = subst (λ z. find_process (replace s.processes z w) n ≡ some w) (sym e) (found s.processes n w₀ w h e) in
    ap (λ q. on_some q (λ v. on_some (step u v) (λ a. some (settle v a)))) g ∙ ap (λ q. on_some q (λ a. some (settle w a))) t ∙ ap (λ ws. some (with_paper (with_processes s ws) o')) (again e f)
  where
    again : w.pid ≡ n → w'.pid ≡ n → replace (replace s.processes w.pid w) w.pid w' ≡ replace s.processes w'.pid w'
    again a b = replaced s.processes w.pid w w' refl ∙ ap (λ z. replace s.processes z w') (a ∙ sym b)

moved_out : (s : System) (w₀ w : Process) (n x : ℕ) (o : List ℕ) → find_process s.processes n ≡ some w₀ → w.pid ≡ n → step (with_process s w o) w ≡ some (exits x (with_process s w o)) → move (with_process s w o) n ≡ some (settle w (exits x (with_process s w o)))
moved_out s w₀ w n x o h e t =
    let u = with_process s w o in
    let g : find_process u.processes n ≡ some w = subst (λ z. find_process (replace s.processes z w) n ≡ some w) (sym e) (found s.processes n w₀ w h e) in
    ap (λ q. on_some q (λ v. on_some (step u v) (λ a. some (settle v a)))) g ∙ ap (λ q. on_some q (λ a. some (settle w a))) t

-- no move yet
pub reach_none : {text code : List ℕ} {number : ℕ → ℕ} {live : List Bool} {m : List (List ℕ)} {o : List ℕ} {place : ℕ} {p : Process'} {r : Rest} {c : Control} {k : List Frame} {s : System} → Rep text code number live m p r c k → Stands number o place p r c k s → Reached text code number live m m o o place p p r s 0
reach_none {number = number} {p = p} {r = r} {c = c} {k = k} {s = s} h t = record { c = c; k = k; came = sym (ap (λ z. some (with_process s (abstract number p r c k) z)) (sym t.printed) ∙ ap (λ ws. some (with_paper (with_processes s ws) s.paper)) (itself s.processes r.pid (abstract number p r c k) t.there)); rep = h; kept = kept_none; base = refl; long = refl; within = t.within; behind = refl }

-- one move more
pub reach_on : {text code : List ℕ} {number : ℕ → ℕ} {b : ℕ × List Bool} {m₀ m m' : List (List ℕ)} {o₀ o o' : List ℕ} {place₀ place : ℕ} {p₀ p p' : Process'} {r : Rest} {c₀ : Control} {k₀ : List Frame} {s : System} {made : ℕ} → Stands number o₀ place₀ p₀ r c₀ k₀ s → Reached text code number b.1 m₀ m o₀ o place p₀ p r s made → StepsAs text code b m m' o o' place p (Ok (Continues p')) → Reached text code number b.1 m₀ m' o₀ o' place p₀ p' r s (made + 1)
reach_on {text} {code} {number} {b} {m₀} {m} {m'} {o₀} {o} {o'} {place₀} {place} {p₀} {p} {p'} {r} {c₀} {k₀} {s} {made} t z h =
    let a = h.says number r z.c z.k z.rep in
    let w = abstract number p r z.c z.k in
    let w' = abstract number p' r a.0.c' a.0.k' in
    subst (λ o'. Reached text code number b.1 m₀ m' o₀ o' place p₀ p' r s (made + 1)) (sym a.1) (record { c = a.0.c'; k = a.0.k'; came = moves_more s _ _ made r.pid z.came (moved s (abstract number p₀ r c₀ k₀) w w' r.pid (take place o) (take place o) t.there refl refl (a.0.steps_to (with_process s w (take place o)))); rep = a.0.rep; kept = kept_then z.kept (subst (λ n. Kept n m m') z.base a.0.kept); base = a.0.base ∙ z.base; long = z.long; within = z.within; behind = z.behind })

pub reach_print : {text code : List ℕ} {number : ℕ → ℕ} {b : ℕ × List Bool} {m₀ m m' : List (List ℕ)} {o₀ o o' : List ℕ} {place₀ place q : ℕ} {p₀ p p' : Process'} {r : Rest} {c₀ : Control} {k₀ : List Frame} {s : System} {made : ℕ} → Stands number o₀ place₀ p₀ r c₀ k₀ s → Reached text code number b.1 m₀ m o₀ o place p₀ p r s made → StepsAs text code b m m' o o' place p (Ok (Prints p' q)) → Reached text code number b.1 m₀ m' o₀ o' q p₀ p' r s (made + 1)
reach_print {text} {code} {number} {b} {m₀} {m} {m'} {o₀} {o} {o'} {place₀} {place} {q} {p₀} {p} {p'} {r} {c₀} {k₀} {s} {made} t z h =
    let a = h.says number r z.c z.k z.rep in
    let w = abstract number p r z.c z.k in
    let w' = abstract number p' r a.0.c' a.0.k' in
    let x = a.0.byte in
    let paper : nth s.handles (number p.stdout) ≡ some host_paper = ap (λ d. nth s.handles (number d)) a.0.output ∙ t.paper in
    let more : take (place + 1) (set o place x) ≡ take place o ++ (x ∷ []) = take_more_set o place x a.0.inside in
    let rest : drop (place + 1) (set o place x) ≡ drop (place + 1) o₀ = drop-set-lt (place + 1) o place x (omega arith) ∙ sym (drop-drop 1 place o) ∙ ap (drop 1) z.behind ∙ drop-drop 1 place o₀ in
    subst (λ q. Reached text code number b.1 m₀ m' o₀ o' q p₀ p' r s (made + 1)) (sym a.1) (subst (λ o'. Reached text code number b.1 m₀ m' o₀ o' (place + 1) p₀ p' r s (made + 1)) (sym a.0.paper) (record { c = a.0.c'; k = a.0.k'; came = moves_more s _ _ made r.pid z.came (moved s (abstract number p₀ r c₀ k₀) w w' r.pid (take place o) (take (place + 1) (set o place x)) t.there refl refl (a.0.steps_to (with_process s w (take place o)) paper ∙ ap (λ e. some (continues w' (with_paper (with_process s w (take place o)) e))) (sym more))); rep = a.0.rep; kept = kept_then z.kept (subst (λ n. Kept n m m') z.base a.0.kept); base = a.0.base ∙ z.base; long = length-set o place x ∙ z.long; within = omega (arith, a.0.inside, length-set o place x); behind = rest }))

-- why a stretch ends
pub reach_exit : {text code : List ℕ} {number : ℕ → ℕ} {b : ℕ × List Bool} {m₀ m m' : List (List ℕ)} {o₀ o o' : List ℕ} {place₀ place : ℕ} {p₀ p : Process'} {r : Rest} {c₀ : Control} {k₀ : List Frame} {s : System} {made : ℕ} (n most : ℕ) → made < most → Stands number o₀ place₀ p₀ r c₀ k₀ s → Reached text code number b.1 m₀ m o₀ o place p₀ p r s made → StepsAs text code b m m' o o' place p (Ok (Exits n)) → EndSays text code b m₀ m' o₀ o' place₀ p₀ most number r s p place (made + 1) (Ok (Exited' n))
reach_exit {text} {code} {number} {b} {m₀} {m} {m'} {o₀} {o} {o'} {place₀} {place} {p₀} {p} {r} {c₀} {k₀} {s} {made} n most l t z h =
    let a = h.says number r z.c z.k z.rep in
    let w = abstract number p r z.c z.k in
    rw (a.1, a.2) (made, z, refl, omega arith, a.0, moves_more s (with_process s w (take place o)) _ made r.pid z.came (moved_out s (abstract number p₀ r c₀ k₀) w r.pid n (take place o) t.there refl (a.0 (with_process s w (take place o)))))

pub reach_tight : {text code : List ℕ} {number : ℕ → ℕ} {b : ℕ × List Bool} {m₀ m m' : List (List ℕ)} {o₀ o o' : List ℕ} {place : ℕ} {p₀ p : Process'} {r : Rest} {s : System} {made : ℕ} (place₀ most : ℕ) → made < most → Reached text code number b.1 m₀ m o₀ o place p₀ p r s made → StepsAs text code b m m' o o' place p (Err NoRoom) → EndSays text code b m₀ m' o₀ o' place₀ p₀ most number r s p place made (Err NoRoom)
reach_tight {number = number} {m = m} {r = r} place₀ most l z h = let a = h.says number r z.c z.k z.rep in rw a.1 (m, z, l, a.0)

pub reach_full : {text code : List ℕ} {number : ℕ → ℕ} {b : ℕ × List Bool} {m₀ m m' : List (List ℕ)} {o₀ o o' : List ℕ} {place : ℕ} {p₀ p : Process'} {r : Rest} {s : System} {made : ℕ} (place₀ most : ℕ) → made < most → Reached text code number b.1 m₀ m o₀ o place p₀ p r s made → StepsAs text code b m m' o o' place p (Err PaperFull) → EndSays text code b m₀ m' o₀ o' place₀ p₀ most number r s p place made (Err PaperFull)
reach_full {number = number} {r = r} place₀ most l z h = let a = h.says number r z.c z.k z.rep in rw (a.1, a.2) (z, l, a.0)

pub reach_beyond : {text code : List ℕ} {number : ℕ → ℕ} {b : ℕ × List Bool} {m₀ m m' : List (List ℕ)} {o₀ o o' : List ℕ} {place : ℕ} {p₀ p : Process'} {r : Rest} {s : System} {made : ℕ} (place₀ most : ℕ) → made < most → Reached text code number b.1 m₀ m o₀ o place p₀ p r s made → StepsAs text code b m m' o o' place p (Err Unsupported) → EndSays text code b m₀ m' o₀ o' place₀ p₀ most number r s p place made (Err Unsupported)
reach_beyond {number = number} {m = m} {r = r} place₀ most l z h = let a = h.says number r z.c z.k z.rep in rw a.1 (m, z, l, a.0)

-- why a process halted
pub reach_halt : {text code : List ℕ} {number : ℕ → ℕ} {b : ℕ × List Bool} {m₀ m m' : List (List ℕ)} {o₀ o o' : List ℕ} {place : ℕ} {p₀ p : Process'} {r : Rest} {s : System} {made : ℕ} (halt : Halt) (place₀ most : ℕ) → made < most → Reached text code number b.1 m₀ m o₀ o place p₀ p r s made → StepsAs text code b m m' o o' place p (Err halt) → EndSays text code b m₀ m' o₀ o' place₀ p₀ most number r s p place made (Err halt)
reach_halt NoRoom place₀ most l z h = reach_tight place₀ most l z h
reach_halt PaperFull place₀ most l z h = reach_full place₀ most l z h
reach_halt Unsupported place₀ most l z h = reach_beyond place₀ most l z h
