-- What pushes leave in the lists, and what a refusal says.
use Rattle.std.proofs.Common.{◌≡◌, ℕ, ◌+◌, ◌<◌, ◌≤◌, Bool, true, false, List, [], ◌++◌, length, get_or, set, Ok, Err, Result, MatchResult, sym, refl, ap, ◌∙◌, ⊎_elim, arith}
use Rattle.std.proofs.lemmas.List.{append_assoc, set-set, get_or-set_same, set_past, length-append, append-nil, set-get_or}
use Rattle.std.proofs.lemmas.Bool.{cases_lt, leb-false}
use Rattle.std.proofs.lemmas.Result.{on_ok_weaker, on_err_weaker}
use Rattle.segments.proofs.Moves.{need_at, need_set}
use Rattle.store.specs.declared.Refusal.{Refusal}
use Rattle.store.specs.declared.Store.{Store}
use Rattle.store.specs.Held.{model, bounds}
use Rattle.segments.specs.Layout.{need}
use Rattle.store.specs.Sums.{asked, enough, told}
use Rattle.words.specs.Pushed.{Scarce, Pushed}

pub again : (m : List (List ℕ)) (i : ℕ) (y z : List ℕ) →
    set (set m i (get_or m i [] ++ y)) i (get_or (set m i (get_or m i [] ++ y)) i [] ++ z) ≡ set m i (get_or m i [] ++ (y ++ z))
again m i y z = ⊎_elim
    (λ (h : i < length m). rw (get_or-set_same m i (get_or m i [] ++ y) [] h, set-set, append_assoc))
    (λ (h : length m ≤ i). rw (set_past m i (get_or m i [] ++ y) h, set_past m i (get_or m i [] ++ z) h, set_past m i (get_or m i [] ++ (y ++ z)) h))
    (cases_lt i (length m))

pub need_push : (m : List (List ℕ)) (i : ℕ) (y : List ℕ) → need (set m i (get_or m i [] ++ y)) ≤ need m + length y
need_push m i y = ⊎_elim
    (λ (h : i < length m). omega (arith, need_set m i (get_or m i [] ++ y) h, length-append (get_or m i []) y))
    (λ (h : length m ≤ i). omega (arith, ap need (set_past m i (get_or m i [] ++ y) h)))
    (cases_lt i (length m))

pub differ : true ≡ false → ⊥
differ e = cc

-- the store's sum, in what it holds and is asked for
short : (b : ℕ × List Bool) (m : List (List ℕ)) (i k : ℕ) → enough b m (asked (length (get_or m i []) + k)) ≡ false → Scarce b (need m + k)
unfolding enough
short b m i k e = omega (arith, leb-false _ _ e, need_at m i)

taken : (b e : Bool) → told b e ≡ Ok tt → e ≡ true
taken true true h = refl
taken true false h = absurd (cc)
taken false e h = absurd (cc)

pub refused : (b e : Bool) (w : Refusal) → told b e ≡ Err w → b ≡ true → e ≡ false
refused true true w h z = absurd (cc)
refused true false w h z = refl
refused false e w h z = absurd (differ (sym z))

-- what a call of the store answers
pub pushed : {s s' : Store} {i : ℕ} {y : List ℕ} (r : Result (Unit {0}) Refusal) → bounds s' ≡ bounds s → MatchResult r (λ _. model s' ≡ set (model s) i (get_or (model s) i [] ++ y)) (λ _. model s' ≡ model s) → r ≡ told (get_or (bounds s).1 i false) (enough (bounds s) (model s) (asked (length (get_or (model s) i []) + length y))) → Pushed s s' i y r
pushed (Ok u) b a e = record { same = b; ok = a; err = tt }
pushed {s} {i = i} {y = y} (Err w) b a e = record { same = b; ok = tt; err = λ l. short (bounds s) (model s) i (length y) (refused (get_or (bounds s).1 i false) (enough (bounds s) (model s) (asked (length (get_or (model s) i []) + length y))) w (sym e) l) }

pub push_nil : {s : Store} {i : ℕ} → Pushed s s i [] (Ok tt)
push_nil = record { same = refl; ok = simp (append-nil, set-get_or); err = tt }

pub push_more : {s s₁ s₂ : Store} {i : ℕ} {y z : List ℕ} {u : Unit {0}} {r : Result (Unit {0}) Refusal} → Pushed s s₁ i y (Ok u) → Pushed s₁ s₂ i z r → Pushed s s₂ i (y ++ z) r
push_more {s} {s₁} {s₂} {i} {y} {z} {r = r} e f = record { same = f.same ∙ e.same; ok = on_ok_weaker r (λ (h : model s₂ ≡ set (model s₁) i (get_or (model s₁) i [] ++ z)). h ∙ ap (λ q. set q i (get_or q i [] ++ z)) e.ok ∙ again (model s) i y z) f.ok; err = on_err_weaker r later f.err }
  where
    later : (get_or (bounds s₁).1 i false ≡ true → Scarce (bounds s₁) (need (model s₁) + length z)) → get_or (bounds s).1 i false ≡ true → Scarce (bounds s) (need (model s) + length (y ++ z))
    later h l = let k : Scarce (bounds s) (need (model s₁) + length z) = (rw e.same at h) l in omega (arith, k, need_push (model s) i y, length-append y z, ap need e.ok)

-- more was to come
pub push_fails : {s s₁ : Store} {i : ℕ} {y : List ℕ} {v w : Refusal} (z : List ℕ) → Pushed s s₁ i y (Err v) → length y ≤ length z → Pushed s s₁ i z (Err w)
push_fails z e h = record { same = e.same; ok = tt; err = λ l. omega (arith, e.err l) }
