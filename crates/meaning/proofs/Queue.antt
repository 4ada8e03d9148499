-- A queue of those who are able, in slices of at most 4,096 moves, is fair.
use mathlib.Core.Path.{◌≡◌, refl, sym, ◌∙◌, ap, subst}
use mathlib.Core.Logic.{◌⊎◌, inl, inr}
use mathlib.Core.Bool.{Bool, true, false}
use mathlib.Core.List.{List, [], ◌∷◌, ◌++◌}
use mathlib.Core.Option.{some}
use Prim.Native.Nat.{ℕ, suc, ◌+◌, ◌*◌, ◌≤◌, ◌<◌}
use native.Mathlib.Omega.{arith}
use lib.ListN.{length}
use lib.Dec.{eqb}
use Rattle.syntax.specs.Base.{pick, on_some}
use Rattle.meaning.specs.System.{Process, System, find_process}
use Rattle.meaning.specs.Step.{move, moves, enabled}
use Rattle.meaning.specs.Statements.{Fair, Able, enabled_count, Among, at_head, in_tail}
use Rattle.meaning.specs.Queue.{place, Once, Ready, Queued, rests, stays, yields, QueueFair}
use Rattle.meaning.proofs.Own.{inside}
use Rattle.meaning.proofs.Core.{no_some}

-- how many moves of others there may be before it is a process's step: few at first, and fewer after each
abbrev pub Small : System → (ℕ → ℕ) → Type 0
Small s c = (q : ℕ) → Able s q → c q ≤ 4096 * (1 + enabled_count s s.processes)

abbrev pub Falls : ℕ → System → (ℕ → ℕ) → System → (ℕ → ℕ) → Type 0
Falls m s c t d = (q : ℕ) → (q ≡ m → ⊥) → Able s q → Able t q → d q < c q

pub data Costed : System → (ℕ → ℕ) → List ℕ → System → (ℕ → ℕ) → Type 0 where
  c_end : {s : System} {c : ℕ → ℕ} → Small s c → Costed s c [] s c
  c_step : {s t u : System} {c d e : ℕ → ℕ} {m : ℕ} {ms : List ℕ} → Small s c → move s m ≡ some t → Falls m s c t d → Costed t d ms u e → Costed s c (m ∷ ms) u e

-- one more move at the end
pub and_then : (m : ℕ) (s t u : System) (c d e : ℕ → ℕ) (ms : List ℕ) → Costed s c ms t d → move t m ≡ some u → Falls m t d u e → Small u e → Costed s c (ms ++ (m ∷ [])) u e
and_then m s t u c d e ms (c_end h) g f k = c_step h g f (c_end k)
and_then m s t u c d e ms (c_step {t = t₁} {d = d₁} {ms = ms₁} h p l r) g f k = c_step h p l (and_then m t₁ t u d₁ d e ms₁ r g f k)

small_of : (s u : System) (c e : ℕ → ℕ) (ms : List ℕ) → Costed s c ms u e → Small s c
small_of s u c e ms (c_end h) = h
small_of s u c e ms (c_step h p l r) = h

after : (a b : List ℕ) (s t u : System) (c e : ℕ → ℕ) → Costed s c (a ++ b) u e → moves s a ≡ some t → (d : ℕ → ℕ) × Costed t d b u e
after [] b s t u c e h g = (c, subst (λ r. Costed r c b u e) (inside g) h)
after (m ∷ a) b s t u c e (c_step {t = t₁} {d = d₁} k p l r) g = after a b t₁ t u d₁ e r (subst (λ o. on_some o (λ x. moves x a) ≡ some t) p g)

one_or : (q m : ℕ) → (q ≡ m) ⊎ (q ≡ m → ⊥)
one_or q m = by (eqb q m) refl
  where
    by : (b : Bool) → eqb q m ≡ b → (q ≡ m) ⊎ (q ≡ m → ⊥)
    by true e = inl (grind arith)
    by false e = inr (grind arith)

-- all through a stretch of others' moves
within : (b c : List ℕ) (q : ℕ) (t u : System) (d e : ℕ → ℕ) → Costed t d (b ++ c) u e → ((x y : List ℕ) (v : System) → b ≡ x ++ y → moves t x ≡ some v → Able v q) → Among q b ⊎ (length b ≤ d q)
within [] c q t u d e h k = inr (omega arith)
within (m ∷ b) c q t u d e (c_step {t = t₁} {d = d₁} h p l r) k = by (one_or q m) (within b c q t₁ u d₁ e r (λ x y v f g. k (m ∷ x) y v (ap (λ z. m ∷ z) f) (subst (λ o. on_some o (λ z. moves z x) ≡ some v) (sym p) g)))
  where
    by : (q ≡ m) ⊎ (q ≡ m → ⊥) → Among q b ⊎ (length b ≤ d₁ q) → Among q (m ∷ b) ⊎ (length (m ∷ b) ≤ d q)
    by (inl f) o = inl (subst (λ n. Among q (n ∷ b)) f at_head)
    by (inr f) (inl i) = inl (in_tail i)
    by (inr f) (inr i) =
        let j = l q f (k [] (m ∷ b) t refl refl) (k (m ∷ []) b t₁ refl (subst (λ o. on_some o (λ z. some z) ≡ some t₁) (sym p) refl)) in
        inr (omega arith)

pub fair_by_cost : (ms : List ℕ) (s u : System) (c e : ℕ → ℕ) → Costed s c ms u e → Fair s ms
fair_by_cost ms s u c e h = record { served = λ a b z t q p m k n. by a b z t q p m k n }
  where
    by : (a b z : List ℕ) (t : System) (q : ℕ) → ms ≡ a ++ (b ++ z) → moves s a ≡ some t → ((x y : List ℕ) (v : System) → b ≡ x ++ y → moves t x ≡ some v → Able v q) → 4096 * (1 + enabled_count t t.processes) < length b → Among q b
    by a b z t q p m k n = end1 (after a (b ++ z) s t u c e (subst (λ l. Costed s c l u e) p h) m)
      where
        end1 : (d : ℕ → ℕ) × Costed t d (b ++ z) u e → Among q b
        end1 d = at (within b z q t u d.0 e d.1 k)
          where
            at : Among q b ⊎ (length b ≤ d.0 q) → Among q b
            at (inl i) = i
            at (inr i) = let j = small_of t u d.0 e (b ++ z) d.1 q (k [] b t refl refl) in absurd (omega arith)

-- a queue whose first has k moves left: the moves of others before it is q's step
abbrev pub cost : List ℕ → ℕ → ℕ → ℕ
cost [] k q = 0
cost (r ∷ rs) k q = pick (eqb r q) 0 (k + 4096 * place rs q)

-- the slice goes on, or is over: nobody comes to stand before another
pub goes_on : (r k j q : ℕ) (rs vs : List ℕ) → (q ≡ r → ⊥) → place vs q ≤ place rs q → j < k → cost (r ∷ vs) j q < cost (r ∷ rs) k q
goes_on r k j q rs vs d h l = grind arith

pub over : (r k q : ℕ) (rs vs : List ℕ) → (q ≡ r → ⊥) → place vs q ≤ place rs q → 0 < k → cost vs 4096 q < cost (r ∷ rs) k q
over r k q rs [] d h l = grind arith
over r k q rs (v ∷ vs) d h l = grind arith

pub placed : (rs : List ℕ) (q : ℕ) → Among q rs → place rs q < length rs
placed [] q i = elim i [ ]
placed (r ∷ rs) q at_head = grind arith
placed (r ∷ rs) q (in_tail i) = let h = placed rs q i in grind arith

pub little : (rs : List ℕ) (k q n : ℕ) → Among q rs → length rs ≤ n → k ≤ 4096 → cost rs k q ≤ 4096 * (1 + n)
little [] k q n i h l = elim i [ ]
little (r ∷ rs) k q n at_head h l = grind arith
little (r ∷ rs) k q n (in_tail i) h l = let p = placed rs q i in grind arith

-- those who stand once in a queue, all able, are no more than are enabled
abbrev Split : ℕ → List ℕ → Type 0
Split p qs = ((q : ℕ) → Among q qs → q ≡ p → ⊥) ⊎ ((rs : List ℕ) × (length qs ≡ suc (length rs)) × Once rs × Among p qs × ((q : ℕ) → Among q rs → Among q qs × (q ≡ p → ⊥)))

split1 : (p : ℕ) (qs : List ℕ) → Once qs → Split p qs
split1 p [] o = inl (λ q i. elim i [ ])
split1 p (x ∷ qs) o = by (one_or x p) (split1 p qs o.1)
  where
    by : (x ≡ p) ⊎ (x ≡ p → ⊥) → Split p qs → Split p (x ∷ qs)
    by (inl e) h = inr (qs, refl, o.1, subst (λ n. Among p (n ∷ qs)) (sym e) at_head, λ q i. (in_tail i, λ f. o.0 (subst (λ n. Among n qs) (f ∙ sym e) i)))
    by (inr e) (inl h) = inl at
      where
        at : (q : ℕ) → Among q (x ∷ qs) → q ≡ p → ⊥
        at q at_head f = e f
        at q (in_tail i) f = h q i f
    by (inr e) (inr h) = inr (x ∷ h.0, ap suc h.1, (λ i. o.0 (h.4 x i).0, h.2), in_tail h.3, at)
      where
        at : (q : ℕ) → Among q (x ∷ h.0) → Among q (x ∷ qs) × (q ≡ p → ⊥)
        at q at_head = (at_head, e)
        at q (in_tail i) = (in_tail (h.4 q i).0, (h.4 q i).1)

abbrev Can1 : System → List Process → ℕ → Type 0
Can1 s ws q = (w : Process) × (find_process ws q ≡ some w) × (enabled s w ≡ true)

not_first : (s : System) (w : Process) (ws : List Process) (q : ℕ) → (q ≡ w.pid → ⊥) → Can1 s (w ∷ ws) q → Can1 s ws q
not_first s w ws q d h = (h.0, by (eqb w.pid q) refl h.1, h.2)
  where
    by : (b : Bool) → eqb w.pid q ≡ b → pick b (some w) (find_process ws q) ≡ some h.0 → find_process ws q ≡ some h.0
    by true e f = absurd (grind arith)
    by false e f = f

first_can : (s : System) (w : Process) (ws : List Process) → Can1 s (w ∷ ws) w.pid → enabled s w ≡ true
first_can s w ws h = by (eqb w.pid w.pid) refl h.1
  where
    by : (b : Bool) → eqb w.pid w.pid ≡ b → pick b (some w) (find_process ws w.pid) ≡ some h.0 → enabled s w ≡ true
    by true e f = ap (enabled s) (inside f) ∙ h.2
    by false e f = absurd (grind arith)

pub able_count : (s : System) (ws : List Process) (qs : List ℕ) → Once qs → ((q : ℕ) → Among q qs → Can1 s ws q) → length qs ≤ enabled_count s ws
able_count s [] [] o h = omega arith
able_count s [] (q ∷ qs) o h = absurd (no_some (h q at_head).1)
able_count s (w ∷ ws) qs o h = by (split1 w.pid qs o) (λ rs. able_count s ws rs)
  where
    by : Split w.pid qs → ((rs : List ℕ) → Once rs → ((q : ℕ) → Among q rs → Can1 s ws q) → length rs ≤ enabled_count s ws) → length qs ≤ enabled_count s (w ∷ ws)
    by (inl d) f = let g = f qs o (λ q i. not_first s w ws q (d q i) (h q i)) in omega arith
    by (inr d) f =
        let g = f d.0 d.2 (λ q i. not_first s w ws q (d.4 q i).1 (h q (d.4 q i).0)) in
        let c = first_can s w ws (h w.pid d.3) in
        rw c (omega (arith, d.1))

-- the queue's law
rest_among : {q r : ℕ} {rs : List ℕ} → (q ≡ r → ⊥) → Among q (r ∷ rs) → Among q rs
rest_among d at_head = absurd (d refl)
rest_among d (in_tail i) = i

ready_small : (s : System) (rs : List ℕ) (k : ℕ) → Ready s rs → k ≤ 4096 → Small s (cost rs k)
ready_small s rs k h l q a = little rs k q (enabled_count s s.processes) (h.whole q a) (able_count s s.processes rs h.once h.able) l

ready_of : {s u : System} {rs : List ℕ} {k : ℕ} {ms : List ℕ} → Queued s rs k ms u → Ready s rs
ready_of (rests h l) = h
ready_of (stays h l g n j r) = h
ready_of (yields h l g n j r) = h

queued_costed : (s u : System) (rs : List ℕ) (k : ℕ) (ms : List ℕ) → Queued s rs k ms u → (e : ℕ → ℕ) × Costed s (cost rs k) ms u e
queued_costed s u rs k ms (rests h l) = (cost rs k, c_end (ready_small s rs k h l))
queued_costed s u rs k ms (stays {t = t} {r = r} {rs = rs₁} {vs = vs} {j = j} {ms = ms₁} h l g n i x) =
    let z = queued_costed t u (r ∷ vs) j ms₁ x in
    (z.0, c_step (ready_small s (r ∷ rs₁) k h l) g (λ q d a b. goes_on r k j q rs₁ vs d (n q (rest_among d (h.whole q a)) (rest_among d ((ready_of x).whole q b))) i) z.1)
queued_costed s u rs k ms (yields {t = t} {r = r} {rs = rs₁} {vs = vs} {ms = ms₁} h l g n i x) =
    let z = queued_costed t u vs 4096 ms₁ x in
    (z.0, c_step (ready_small s (r ∷ rs₁) k h l) g (λ q d a b. over r k q rs₁ vs d (n q (rest_among d (h.whole q a)) ((ready_of x).whole q b)) i) z.1)

pub queue_fair : QueueFair
queue_fair s u rs ms h = let z = queued_costed s u rs 4096 ms h in fair_by_cost ms s u (cost rs 4096) z.0 z.1
