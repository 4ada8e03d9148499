-- Numbers as digits, the last first.
use Rattle.std.proofs.Common.{◌≡◌, ℕ, zero, suc, ◌+◌, ◌/◌, ◌%◌, ◌<◌, ◌≤◌, Bool, true, false, ltb, List, [], ◌∷◌, ◌++◌, length, Ok, Err, Result, sym, refl, ap, ◌∙◌, subst, arith}
use Rattle.std.proofs.lemmas.Bool.{ltb-false, le-ltb, lt-ltb}
use Rattle.std.proofs.lemmas.List.{append_assoc, length-append}
use Rattle.syntax.specs.Base.{pick}
use Rattle.meaning.specs.Words.{digits, decimal, as_line}
use Rattle.words.specs.Encoding.{Bytes, rev}
use Rattle.store.specs.declared.Refusal.{Refusal}
use Rattle.store.specs.declared.Store.{Store}
use Rattle.words.specs.Pushed.{Pushed}
use Rattle.words.proofs.Pushes.{push_nil, push_more, push_fails}
use Rattle.words.proofs.Texts.{rev_push, rev_length}

digits_more : (d n : ℕ) (ds : List ℕ) → digits d n ds ≡ digits d n [] ++ ds
digits_more zero n ds = refl
digits_more (suc d) n ds = by (ltb n 10) (λ es. digits_more d (n / 10) es)
  where
    c : ℕ
    c = 48 + n % 10

    by : (b : Bool) → ((es : List ℕ) → digits d (n / 10) es ≡ digits d (n / 10) [] ++ es) → pick b (c ∷ ds) (digits d (n / 10) (c ∷ ds)) ≡ pick b (c ∷ []) (digits d (n / 10) (c ∷ [])) ++ ds
    by true f = refl
    by false f = f (c ∷ ds) ∙ sym (ap (λ z. z ++ ds) (f (c ∷ [])) ∙ append_assoc (digits d (n / 10) []) (c ∷ []) ds)

digits_fuel : (d e n : ℕ) (ds : List ℕ) → n < d → n < e → digits d n ds ≡ digits e n ds
digits_fuel zero e n ds h l = absurd (omega arith)
digits_fuel (suc d) zero n ds h l = absurd (omega arith)
digits_fuel (suc d) (suc e) n ds h l = by (ltb n 10) refl (λ p q. digits_fuel d e (n / 10) ((48 + n % 10) ∷ ds) p q)
  where
    c : ℕ
    c = 48 + n % 10

    by : (b : Bool) → ltb n 10 ≡ b → (n / 10 < d → n / 10 < e → digits d (n / 10) (c ∷ ds) ≡ digits e (n / 10) (c ∷ ds)) → pick b (c ∷ ds) (digits d (n / 10) (c ∷ ds)) ≡ pick b (c ∷ ds) (digits e (n / 10) (c ∷ ds))
    by true q f = refl
    by false q f = let g = ltb-false n 10 q in f (omega arith) (omega arith)

pub decimal_last : (n : ℕ) → 10 ≤ n → rev (decimal n) ≡ (48 + n % 10) ∷ rev (decimal (n / 10))
decimal_last n h = rw (le-ltb n 10 h) (ap rev (digits_more n (n / 10) ((48 + n % 10) ∷ []) ∙ ap (λ z. z ++ ((48 + n % 10) ∷ [])) (digits_fuel n (suc (n / 10)) (n / 10) [] (omega arith) (omega arith))) ∙ rev_push (decimal (n / 10)) (48 + n % 10))

pub decimal_one : (n : ℕ) → n < 10 → rev (decimal n) ≡ (48 + n) ∷ []
decimal_one n h = let e : n % 10 ≡ n = omega arith in rw (lt-ltb n 10 h, e)

bytes_digits : (d n : ℕ) (ds : List ℕ) → Bytes ds → Bytes (digits d n ds)
bytes_digits zero n ds h = h
bytes_digits (suc d) n ds h = by (ltb n 10) (bytes_digits d (n / 10) ((48 + n % 10) ∷ ds) (omega arith, h))
  where
    by : (b : Bool) → Bytes (digits d (n / 10) ((48 + n % 10) ∷ ds)) → Bytes (pick b ((48 + n % 10) ∷ ds) (digits d (n / 10) ((48 + n % 10) ∷ ds)))
    by true f = (omega arith, h)
    by false f = f

pub bytes_decimal : (n : ℕ) → Bytes (as_line (decimal n))
bytes_decimal n = bytes_line (decimal n) (bytes_digits (suc n) n [] tt)
  where
    bytes_line : (s : List ℕ) → Bytes s → Bytes (s ++ (10 ∷ []))
    bytes_line [] h = (omega arith, tt)
    bytes_line (b ∷ s) h = (h.0, bytes_line s h.1)

-- digits pushed one after the other
pub record Digits (s s' : Store) (i n rest : ℕ) : Type 0 where
  pub said : List ℕ
  pub pushed : Pushed s s' i said (Ok tt)
  pub whole : said ++ rev (decimal rest) ≡ rev (decimal n)

pub digits_none : {s : Store} {i : ℕ} (n : ℕ) → Digits s s i n n
digits_none n = record { said = []; pushed = push_nil; whole = refl }

pub digits_next : {s s₁ s₂ : Store} {i : ℕ} {n rest : ℕ} {u : Unit {0}} → Digits s s₁ i n rest → 10 ≤ rest → Pushed s₁ s₂ i ((48 + rest % 10) ∷ []) (Ok u) → Digits s s₂ i n (rest / 10)
digits_next {rest = rest} d h p = record { said = d.said ++ ((48 + rest % 10) ∷ []); pushed = push_more d.pushed p; whole = append_assoc d.said ((48 + rest % 10) ∷ []) (rev (decimal (rest / 10))) ∙ sym (ap (λ z. d.said ++ z) (decimal_last rest h)) ∙ d.whole }

pub digits_fails : {s s₁ s₂ : Store} {i : ℕ} {n rest : ℕ} {v w : Refusal} → Digits s s₁ i n rest → 10 ≤ rest → Pushed s₁ s₂ i ((48 + rest % 10) ∷ []) (Err v) → Pushed s s₂ i (rev (decimal n)) (Err w)
digits_fails {rest = rest} d h p = push_fails _ (push_more d.pushed p) (omega (arith, ap length d.whole, length-append d.said (rev (decimal rest)), length-append d.said ((48 + rest % 10) ∷ []), ap length (decimal_last rest h)))

pub digits_last : {s s₁ s₂ : Store} {i : ℕ} {n rest : ℕ} {r : Result (Unit {0}) Refusal} → Digits s s₁ i n rest → rest < 10 → Pushed s₁ s₂ i ((48 + rest) ∷ []) r → Pushed s s₂ i (rev (decimal n)) r
digits_last {s} {s₂ = s₂} {i = i} {rest = rest} {r = r} d h p = subst (λ y. Pushed s s₂ i y r) (sym (ap (λ z. d.said ++ z) (decimal_one rest h)) ∙ d.whole) (push_more d.pushed p)

pub decimal_line : {s s₁ s₂ : Store} {i : ℕ} (n : ℕ) {u : Unit {0}} {r : Result (Unit {0}) Refusal} → Pushed s s₁ i (10 ∷ []) (Ok u) → Pushed s₁ s₂ i (rev (decimal n)) r → Pushed s s₂ i (rev (as_line (decimal n))) r
decimal_line n p q = rw (rev_push (decimal n) 10) (push_more p q)

pub line_longer : (n : ℕ) → 1 ≤ length (rev (as_line (decimal n)))
line_longer n = omega (arith, rev_length (as_line (decimal n)), length-append (decimal n) (10 ∷ []))
