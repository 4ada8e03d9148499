-- Deterministic processes in a row, each reading what the one before it writes: whatever the order of their steps, a row
-- that is finished has one output and one status. Processes are abstract here: states with an action each.
use mathlib.Core.Path.{◌∙◌, ◌≡◌, ap, refl, subst, sym}
use mathlib.Core.Logic.{◌⊎◌, inl, inr}
use mathlib.Core.Bool.{Bool, true}
use mathlib.Core.List.{[], ◌∷◌, List}
use mathlib.Core.Option.{none, Option, some}
use Prim.Native.Nat.{ℕ}
use native.Mathlib.Omega.{arith}

-- what a process does next: a step of its own; read (a byte, or the end); write; exit
pub data Action (X : Type 0) : Type 0 where
  silent : X → Action X
  reading : (Option ℕ → X) → Action X
  writing : ℕ → X → Action X
  finished : ℕ → Action X

pub data Event : Type 0 where
  e_silent : Event
  e_read : Option ℕ → Event
  e_write : ℕ → Event

abbrev pub Prefix : {A : Type 0} → List A → List A → Type 0
Prefix [] ys = Unit {0}
Prefix (x ∷ xs) [] = ⊥
Prefix (x ∷ xs) (y ∷ ys) = (x ≡ y) × Prefix xs ys

abbrev pub Comparable : {A : Type 0} → List A → List A → Type 0
Comparable xs ys = Prefix xs ys ⊎ Prefix ys xs

abbrev pub inputs : List Event → List (Option ℕ)
inputs [] = []
inputs (e_silent ∷ es) = inputs es
inputs (e_read o ∷ es) = o ∷ inputs es
inputs (e_write b ∷ es) = inputs es

abbrev pub outputs : List Event → List ℕ
outputs [] = []
outputs (e_silent ∷ es) = outputs es
outputs (e_read o ∷ es) = outputs es
outputs (e_write b ∷ es) = b ∷ outputs es

module _ (X : Type 0) (step : X → Action X) where
  abbrev pub Fires : X → Event → X → Type 0
  Fires x e_silent u = step x ≡ silent u
  Fires x (e_read o) u = (f : Option ℕ → X) × (step x ≡ reading f) × (f o ≡ u)
  Fires x (e_write b) u = step x ≡ writing b u

  abbrev pub Trace : X → List Event → X → Type 0
  Trace x [] y = x ≡ y
  Trace x (e ∷ es) y = (u : X) × Fires x e u × Trace u es y

  abbrev tag : Action X → ℕ
  tag (silent u) = 0
  tag (reading f) = 1
  tag (writing b u) = 2
  tag (finished n) = 3

  -- a state has one action
  one_action : {A : Type 0} (x : X) (p q : Action X) → step x ≡ p → step x ≡ q → (tag p ≡ tag q → ⊥) → A
  one_action x p q e f d = absurd (d (ap tag (sym e ∙ f)))

  comparable_cons : {A : Type 0} (a b : A) (xs ys : List A) → a ≡ b → Comparable xs ys → Comparable (a ∷ xs) (b ∷ ys)
  comparable_cons a b xs ys e (inl h) = inl (e, h)
  comparable_cons a b xs ys e (inr h) = inr (sym e, h)

  comparable_tail : {A : Type 0} (a b : A) (xs ys : List A) → Comparable (a ∷ xs) (b ∷ ys) → (a ≡ b) × Comparable xs ys
  comparable_tail a b xs ys (inl h) = (h.0, inl h.1)
  comparable_tail a b xs ys (inr h) = (sym h.0, inr h.1)

  -- two runs from one state that read the same: one is a prefix of the other, and one that has exited is not shorter
  abbrev pub Together : List Event → List Event → X → X → Type 0
  Together es fs y z = Comparable es fs × ((n : ℕ) → step y ≡ finished n → Prefix fs es) × ((n m : ℕ) → step y ≡ finished n → step z ≡ finished m → n ≡ m)

  together_cons : (e f : Event) (es fs : List Event) (y z : X) → e ≡ f → Together es fs y z → Together (e ∷ es) (f ∷ fs) y z
  together_cons e f es fs y z p h = (comparable_cons e f es fs p h.0, λ n g. (sym p, h.1 n g), h.2)

  pub deterministic : (es fs : List Event) (x y z : X) → Trace x es y → Trace x fs z → Comparable (inputs es) (inputs fs) → Together es fs y z
  deterministic [] [] x y z r q c = (inl tt, λ n g. tt, λ n m g h. cc (ap step r, ap step q, g, h))
  deterministic [] (e_silent ∷ fs) x y z r q c = (
    inl tt,
    λ n g. one_action x (finished n) _ (ap step r ∙ g) q.1 (λ e. absurd (omega arith)),
    λ n m g h. one_action x (finished n) _ (ap step r ∙ g) q.1 (λ e. absurd (omega arith)),
  )
  deterministic [] (e_read o ∷ fs) x y z r q c = (
    inl tt,
    λ n g. one_action x (finished n) _ (ap step r ∙ g) q.1.1 (λ e. absurd (omega arith)),
    λ n m g h. one_action x (finished n) _ (ap step r ∙ g) q.1.1 (λ e. absurd (omega arith)),
  )
  deterministic [] (e_write b ∷ fs) x y z r q c = (
    inl tt,
    λ n g. one_action x (finished n) _ (ap step r ∙ g) q.1 (λ e. absurd (omega arith)),
    λ n m g h. one_action x (finished n) _ (ap step r ∙ g) q.1 (λ e. absurd (omega arith)),
  )
  deterministic (e_silent ∷ es) [] x y z r q c = (inr tt, λ n g. tt, λ n m g h. one_action x (finished m) _ (ap step q ∙ h) r.1 (λ e. absurd (omega arith)))
  deterministic (e_read o ∷ es) [] x y z r q c = (inr tt, λ n g. tt, λ n m g h. one_action x (finished m) _ (ap step q ∙ h) r.1.1 (λ e. absurd (omega arith)))
  deterministic (e_write b ∷ es) [] x y z r q c = (inr tt, λ n g. tt, λ n m g h. one_action x (finished m) _ (ap step q ∙ h) r.1 (λ e. absurd (omega arith)))
  deterministic (e_silent ∷ es) (e_silent ∷ fs) x y z r q c = together_cons _ _ es fs y z refl
      (deterministic es fs r.0 y z r.2 (subst (λ u. Trace u fs z) (cc (r.1, q.1)) q.2) c)
  deterministic (e_silent ∷ es) (e_read o ∷ fs) x y z r q c = one_action x _ _ r.1 q.1.1 (λ e. absurd (omega arith))
  deterministic (e_silent ∷ es) (e_write b ∷ fs) x y z r q c = one_action x _ _ r.1 q.1 (λ e. absurd (omega arith))
  deterministic (e_read o ∷ es) (e_silent ∷ fs) x y z r q c = one_action x _ _ r.1.1 q.1 (λ e. absurd (omega arith))
  deterministic (e_read o ∷ es) (e_read p ∷ fs) x y z r q c =
      let d = comparable_tail o p (inputs es) (inputs fs) c in
      let e : q.0 ≡ r.0 = cc (r.1.1, q.1.1, r.1.2, q.1.2, d.0) in
      together_cons (e_read o) (e_read p) es fs y z (ap e_read d.0) (deterministic es fs r.0 y z r.2 (subst (λ u. Trace u fs z) e q.2) d.1)
  deterministic (e_read o ∷ es) (e_write b ∷ fs) x y z r q c = one_action x _ _ r.1.1 q.1 (λ e. absurd (omega arith))
  deterministic (e_write b ∷ es) (e_silent ∷ fs) x y z r q c = one_action x _ _ r.1 q.1 (λ e. absurd (omega arith))
  deterministic (e_write b ∷ es) (e_read o ∷ fs) x y z r q c = one_action x _ _ r.1 q.1.1 (λ e. absurd (omega arith))
  deterministic (e_write a ∷ es) (e_write b ∷ fs) x y z r q c =
      let e : q.0 ≡ r.0 = cc (r.1, q.1) in
      let f : a ≡ b = cc (r.1, q.1) in
      together_cons (e_write a) (e_write b) es fs y z (ap e_write f) (deterministic es fs r.0 y z r.2 (subst (λ u. Trace u fs z) e q.2) c)

  -- what was read stands in ts; the end is read only if ts is complete
  abbrev pub Read_from : List (Option ℕ) → List ℕ → Bool → Type 0
  Read_from [] ts c = Unit {0}
  Read_from (some b ∷ is) [] c = ⊥
  Read_from (some b ∷ is) (a ∷ ts) c = (b ≡ a) × Read_from is ts c
  Read_from (none ∷ is) [] c = (c ≡ true) × Read_from is [] c
  Read_from (none ∷ is) (a ∷ ts) c = ⊥

  abbrev pub Agree : List ℕ → Bool → List ℕ → Bool → Type 0
  Agree ts c bs d = Comparable ts bs × (c ≡ true → Prefix bs ts) × (d ≡ true → Prefix ts bs)

  read_comparable : (is js : List (Option ℕ)) (ts bs : List ℕ) (c d : Bool) → Read_from is ts c → Read_from js bs d → Agree ts c bs d → Comparable is js
  read_comparable [] js ts bs c d h k g = inl tt
  read_comparable (i ∷ is) [] ts bs c d h k g = inr tt
  read_comparable (some i ∷ is) (some j ∷ js) [] bs c d h k g = absurd h
  read_comparable (some i ∷ is) (some j ∷ js) (a ∷ ts) [] c d h k g = absurd k
  read_comparable (some i ∷ is) (some j ∷ js) (a ∷ ts) (b ∷ bs) c d h k g =
      let e = comparable_tail a b ts bs g.0 in
      comparable_cons (some i) (some j) is js (ap some (h.0 ∙ e.0 ∙ sym k.0)) (read_comparable is js ts bs c d h.1 k.1 (e.1, λ p. (g.1 p).1, λ p. (g.2 p).1))
  read_comparable (some i ∷ is) (none ∷ js) [] bs c d h k g = absurd h
  read_comparable (some i ∷ is) (none ∷ js) (a ∷ ts) [] c d h k g = absurd (g.2 k.0)
  read_comparable (some i ∷ is) (none ∷ js) (a ∷ ts) (b ∷ bs) c d h k g = absurd k
  read_comparable (none ∷ is) (some j ∷ js) [] [] c d h k g = absurd k
  read_comparable (none ∷ is) (some j ∷ js) [] (b ∷ bs) c d h k g = absurd (g.1 h.0)
  read_comparable (none ∷ is) (some j ∷ js) (a ∷ ts) bs c d h k g = absurd h
  read_comparable (none ∷ is) (none ∷ js) [] [] c d h k g = comparable_cons none none is js refl (read_comparable is js [] [] c d h.1 k.1 g)
  read_comparable (none ∷ is) (none ∷ js) [] (b ∷ bs) c d h k g = absurd k
  read_comparable (none ∷ is) (none ∷ js) (a ∷ ts) bs c d h k g = absurd h

  outputs_prefix : (es fs : List Event) → Prefix es fs → Prefix (outputs es) (outputs fs)
  outputs_prefix [] fs h = tt
  outputs_prefix (e ∷ es) [] h = absurd h
  outputs_prefix (e ∷ es) (f ∷ fs) h = subst (λ g. Prefix (outputs (e ∷ es)) (outputs (g ∷ fs))) h.0 (by e (outputs_prefix es fs h.1))
    where
      by : (e : Event) → Prefix (outputs es) (outputs fs) → Prefix (outputs (e ∷ es)) (outputs (e ∷ fs))
      by e_silent k = k
      by (e_read o) k = k
      by (e_write b) k = (refl, k)

  prefix_both : {A : Type 0} (xs ys : List A) → Prefix xs ys → Prefix ys xs → xs ≡ ys
  prefix_both [] [] h k = refl
  prefix_both [] (y ∷ ys) h k = absurd k
  prefix_both (x ∷ xs) [] h k = absurd h
  prefix_both (x ∷ xs) (y ∷ ys) h k = λ i. h.0 i ∷ prefix_both xs ys h.1 k.1 i

  comparable_sym : (xs ys : List (Option ℕ)) → Comparable xs ys → Comparable ys xs
  comparable_sym xs ys (inl h) = inr h
  comparable_sym xs ys (inr h) = inl h

  outputs_comparable : (es fs : List Event) → Comparable es fs → Comparable (outputs es) (outputs fs)
  outputs_comparable es fs (inl h) = inl (outputs_prefix es fs h)
  outputs_comparable es fs (inr h) = inr (outputs_prefix fs es h)

  -- a row: the run of each, reading what the one before has written (complete, if that one has exited by itself); the last
  -- has exited
  abbrev pub Row : X → List X → List ℕ → Bool → List ℕ → ℕ → Type 0
  Row x [] ts c o n = (es : List Event) × (y : X) × Trace x es y × Read_from (inputs es) ts c × (step y ≡ finished n) × (outputs es ≡ o)
  Row x (x' ∷ xs) ts c o n = (es : List Event) × (y : X) × (d : Bool) × Trace x es y × Read_from (inputs es) ts c
      × (d ≡ true → (m : ℕ) × (step y ≡ finished m)) × Row x' xs (outputs es) d o n

  pub same_output : (xs : List X) (x : X) (ts bs : List ℕ) (c d : Bool) (o o' : List ℕ) (n n' : ℕ) → Row x xs ts c o n → Row x xs bs d o' n' → Agree ts c bs d → (o ≡ o') × (n ≡ n')
  same_output [] x ts bs c d o o' n n' h k g =
      let p = read_comparable (inputs h.0) (inputs k.0) ts bs c d h.3 k.3 g in
      let q = deterministic h.0 k.0 x h.1 k.1 h.2 k.2 p in
      let r = deterministic k.0 h.0 x k.1 h.1 k.2 h.2 (comparable_sym (inputs h.0) (inputs k.0) p) in
      let e : h.0 ≡ k.0 = prefix_both h.0 k.0 (r.1 n' k.4) (q.1 n h.4) in
      (sym h.5 ∙ ap outputs e ∙ k.5, q.2 n n' h.4 k.4)
  same_output (x' ∷ xs) x ts bs c d o o' n n' h k g =
      let p = read_comparable (inputs h.0) (inputs k.0) ts bs c d h.4 k.4 g in
      let q = deterministic h.0 k.0 x h.1 k.1 h.3 k.3 p in
      let r = deterministic k.0 h.0 x k.1 h.1 k.3 h.3 (comparable_sym (inputs h.0) (inputs k.0) p) in
      same_output xs x' (outputs h.0) (outputs k.0) h.2 k.2 o o' n n' h.6 k.6 (
        outputs_comparable h.0 k.0 q.0,
        λ e. let f = h.5 e in outputs_prefix k.0 h.0 (q.1 f.0 f.1),
        λ e. let f = k.5 e in outputs_prefix h.0 k.0 (r.1 f.0 f.1),
      )
