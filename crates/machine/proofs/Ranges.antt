-- The arguments of seq.
use Rattle.std.proofs.Common.{◌≡◌, ℕ, suc, ◌+◌, ◌-◌, ◌<◌, ◌≤◌, List, [], ◌∷◌, ◌++◌, length, take, drop, Some, None, Option as Maybe, sym, refl, ap, ◌∙◌, arith}
use mathlib.Core.Option.{Option, some, none}
use Rattle.std.proofs.lemmas.List.{append-nil, length-append, drop_at, drop-drop, take_at}
use Rattle.syntax.specs.Base.{opt}
use Rattle.meaning.specs.System.{QuotedByte, b_seq, Process, System}
use Rattle.meaning.specs.Words.{number, bytes_of}
use Rattle.meaning.specs.Step.{completes, start_builtin, start_seq}
use Rattle.machine.specs.declared.arguments.Range.{Range}
use Rattle.words.specs.Encoding.{encoded, marked, plain, Small, AllSmall, word_length}
use Rattle.machine.specs.Arguments.{maybe, number_of}
use Rattle.machine.specs.Ranges.{seq_range}
use Rattle.words.proofs.Texts.{encoded_length, word_is, tail_is}
use Rattle.machine.proofs.Numbers.{some_number, no_number, lows_encoded}

pub range_empty : (A : List ℕ) (es : List (List QuotedByte)) → length A ≡ 0 → A ≡ marked es → None ≡ seq_range es
range_empty A [] z e = refl
range_empty A (x ∷ es) z e = absurd (omega (arith, ap length e))

-- the length of the first word, as it is read off a slice
first_length : (A : List ℕ) (x : List QuotedByte) (es : List (List QuotedByte)) (n : ℕ) → Small x → A ≡ marked (x ∷ es) → n ≡ word_length (take (length A - 1) (drop 1 A)) → n ≡ length x
first_length A x es n s e h = h ∙ ap word_length (tail_is A (marked (x ∷ es)) e) ∙ word_is x es s

first_number : (A : List ℕ) (x : List QuotedByte) (es : List (List QuotedByte)) (n j : ℕ) → Small x → A ≡ marked (x ∷ es) → n ≡ length x → j ≡ n → number_of (take j (drop 1 A)) ≡ maybe (number (bytes_of x))
first_number A x es n j s e h g = ap number_of (ap (λ z. take j (drop 1 z)) e ∙ take_at (encoded x) (marked es) j (encoded_length x ∙ sym (g ∙ h))) ∙ ap (λ z. maybe (number z)) (lows_encoded x s)

-- the first argument is no number
none_first : (x : List QuotedByte) (es : List (List QuotedByte)) → number (bytes_of x) ≡ none → None ≡ seq_range (x ∷ es)
none_first x [] h = rw h
none_first x (y ∷ []) h = rw h
none_first x (y ∷ z ∷ es) h = refl

pub range_bad : (A : List ℕ) (es : List (List QuotedByte)) (n j : ℕ) → (length A ≡ 0 → ⊥) → AllSmall es → A ≡ marked es → n ≡ word_length (take (length A - 1) (drop 1 A)) → j ≡ n → ◌≡◌ {A = Maybe ℕ} None (number_of (take j (drop 1 A))) → None ≡ seq_range es
range_bad A [] n j z s e h g o = absurd (z (ap length e))
range_bad A (x ∷ es) n j z s e h g o = none_first x es (no_number (number (bytes_of x)) (o ∙ first_number A x es n j s.0 e (first_length A x es n s.0 e h) g))

-- one argument
pub range_one : (A : List ℕ) (es : List (List QuotedByte)) (n j a : ℕ) → (length A ≡ 0 → ⊥) → AllSmall es → A ≡ marked es → n ≡ word_length (take (length A - 1) (drop 1 A)) → j ≡ n → Some a ≡ number_of (take j (drop 1 A)) → length A ≤ 1 + n → Some (record { from = 1; to = a }) ≡ seq_range es
range_one A [] n j a z s e h g o l = absurd (z (ap length e))
range_one A (x ∷ []) n j a z s e h g o l = sym (rw (some_number (number (bytes_of x)) a (o ∙ first_number A x [] n j s.0 e (first_length A x [] n s.0 e h) g)))
range_one A (x ∷ y ∷ es) n j a z s e h g o l = absurd (omega (arith, ap length e, length-append (encoded x) (marked (y ∷ es)), encoded_length x, first_length A x (y ∷ es) n s.0 e h))

-- what stands behind the first word and a mark
second_word : (A : List ℕ) (x y : List QuotedByte) (es : List (List QuotedByte)) (n : ℕ) → A ≡ marked (x ∷ y ∷ es) → n ≡ length x → drop (1 + n + 1) A ≡ encoded y ++ marked es
second_word A x y es n e h =
    let q : 1 + n + 1 ≡ suc (n + 1) = omega arith in
    ap (λ z. drop (1 + n + 1) z) e ∙ rw q (sym (drop-drop 1 n (encoded x ++ marked (y ∷ es))) ∙ ap (drop 1) (drop_at (encoded x) (marked (y ∷ es)) n (encoded_length x ∙ sym h)))

pub range_many : (A : List ℕ) (es : List (List QuotedByte)) (n k : ℕ) → AllSmall es → A ≡ marked es → n ≡ word_length (take (length A - 1) (drop 1 A)) → 1 + n < length A → k ≡ word_length (drop (1 + n + 1) A) → k < length (drop (1 + n + 1) A) → None ≡ seq_range es
range_many A [] n k s e h l f g = absurd (omega (arith, ap length e))
range_many A (x ∷ []) n k s e h l f g = absurd (omega (arith, ap length e, length-append (encoded x) [], encoded_length x, first_length A x [] n s.0 e h))
range_many A (x ∷ y ∷ []) n k s e h l f g = let q = second_word A x y [] n e (first_length A x (y ∷ []) n s.0 e h) in absurd (omega (arith, f ∙ ap word_length q ∙ word_is y [] s.1.0, ap length q, length-append (encoded y) [], encoded_length y))
range_many A (x ∷ y ∷ z ∷ es) n k s e h l f g = refl

-- two arguments
last_word : (A : List ℕ) (x y : List QuotedByte) (n : ℕ) → A ≡ marked (x ∷ y ∷ []) → n ≡ length x → Small y → number_of (drop (1 + n + 1) A) ≡ maybe (number (bytes_of y))
last_word A x y n e h s = ap number_of (second_word A x y [] n e h ∙ append-nil (encoded y)) ∙ ap (λ z. maybe (number z)) (lows_encoded y s)

pub range_two : (A : List ℕ) (es : List (List QuotedByte)) (n j a b k : ℕ) → AllSmall es → A ≡ marked es → n ≡ word_length (take (length A - 1) (drop 1 A)) → 1 + n < length A → j ≡ n → Some a ≡ number_of (take j (drop 1 A)) → k ≡ word_length (drop (1 + n + 1) A) → length (drop (1 + n + 1) A) ≤ k → Some b ≡ number_of (drop (1 + n + 1) A) → Some (record { from = a; to = b }) ≡ seq_range es
range_two A [] n j a b k s e h l g o f i q = absurd (omega (arith, ap length e))
range_two A (x ∷ []) n j a b k s e h l g o f i q = absurd (omega (arith, ap length e, length-append (encoded x) [], encoded_length x, first_length A x [] n s.0 e h))
range_two A (x ∷ y ∷ []) n j a b k s e h l g o f i q = let w = first_length A x (y ∷ []) n s.0 e h in sym (rw (some_number (number (bytes_of x)) a (o ∙ first_number A x (y ∷ []) n j s.0 e w g), some_number (number (bytes_of y)) b (q ∙ last_word A x y n e w s.1.0)))
range_two A (x ∷ y ∷ z ∷ es) n j a b k s e h l g o f i q = let w = second_word A x y (z ∷ es) n e (first_length A x (y ∷ z ∷ es) n s.0 e h) in absurd (omega (arith, f ∙ ap word_length w ∙ word_is y (z ∷ es) s.1.0, ap length w, length-append (encoded y) (marked (z ∷ es)), encoded_length y))

pub range_wrong : (A : List ℕ) (es : List (List QuotedByte)) (n j a k : ℕ) → AllSmall es → A ≡ marked es → n ≡ word_length (take (length A - 1) (drop 1 A)) → 1 + n < length A → j ≡ n → Some a ≡ number_of (take j (drop 1 A)) → ◌≡◌ {A = Maybe ℕ} None (number_of (drop (1 + n + 1) A)) → None ≡ seq_range es
range_wrong A [] n j a k s e h l g o q = absurd (omega (arith, ap length e))
range_wrong A (x ∷ []) n j a k s e h l g o q = absurd (omega (arith, ap length e, length-append (encoded x) [], encoded_length x, first_length A x [] n s.0 e h))
range_wrong A (x ∷ y ∷ []) n j a k s e h l g o q = let w = first_length A x (y ∷ []) n s.0 e h in sym (rw (some_number (number (bytes_of x)) a (o ∙ first_number A x (y ∷ []) n j s.0 e w g), no_number (number (bytes_of y)) (q ∙ last_word A x y n e w s.1.0)))
range_wrong A (x ∷ y ∷ z ∷ es) n j a k s e h l g o q = refl

-- and what seq does with them
pub seq_starts : (es : List (List QuotedByte)) (x : Range) → Some x ≡ seq_range es → (s : System) (w : Process) → start_seq s w (plain es) ≡ start_builtin s w (b_seq x.from x.to)
seq_starts [] x h s w = absurd (cc)
seq_starts (e ∷ []) x h s w = by (number (bytes_of e)) h
  where
    by : (o : Option ℕ) → Some x ≡ opt o None (λ n. Some (record { from = 1; to = n })) → opt o (completes s w 2) (λ n. start_builtin s w (b_seq 1 n)) ≡ start_builtin s w (b_seq x.from x.to)
    by none g = absurd (cc)
    by (some n) g = let z : x ≡ record { from = 1; to = n } = cc in rw z
seq_starts (e ∷ f ∷ []) x h s w = by (number (bytes_of e)) (number (bytes_of f)) h
  where
    by : (o q : Option ℕ) → Some x ≡ opt o None (λ m. opt q None (λ n. Some (record { from = m; to = n }))) → opt o (completes s w 2) (λ m. opt q (completes s w 2) (λ n. start_builtin s w (b_seq m n))) ≡ start_builtin s w (b_seq x.from x.to)
    by none q g = absurd (cc)
    by (some m) none g = absurd (cc)
    by (some m) (some n) g = let z : x ≡ record { from = m; to = n } = cc in rw z
seq_starts (e ∷ f ∷ g ∷ es) x h s w = absurd (cc)

pub seq_stops : (es : List (List QuotedByte)) → ◌≡◌ {A = Maybe Range} None (seq_range es) → (s : System) (w : Process) → start_seq s w (plain es) ≡ completes s w 2
seq_stops [] h s w = refl
seq_stops (e ∷ []) h s w = by (number (bytes_of e)) h
  where
    by : (o : Option ℕ) → ◌≡◌ {A = Maybe Range} None (opt o None (λ n. Some (record { from = 1; to = n }))) → opt o (completes s w 2) (λ n. start_builtin s w (b_seq 1 n)) ≡ completes s w 2
    by none g = refl
    by (some n) g = absurd (cc)
seq_stops (e ∷ f ∷ []) h s w = by (number (bytes_of e)) (number (bytes_of f)) h
  where
    by : (o q : Option ℕ) → ◌≡◌ {A = Maybe Range} None (opt o None (λ m. opt q None (λ n. Some (record { from = m; to = n })))) → opt o (completes s w 2) (λ m. opt q (completes s w 2) (λ n. start_builtin s w (b_seq m n))) ≡ completes s w 2
    by none q g = refl
    by (some m) none g = refl
    by (some m) (some n) g = absurd (cc)
seq_stops (e ∷ f ∷ g ∷ es) h s w = refl
