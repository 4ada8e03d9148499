-- Numbers that are read.
use Rattle.std.proofs.Common.{◌≡◌, ℕ, zero, suc, ◌+◌, ◌-◌, ◌*◌, ◌%◌, ◌^◌, ◌<◌, ◌≤◌, Bool, true, false, ◌&&◌, eqb, leb, List, [], ◌∷◌, ◌++◌, length, get_or, take, drop, Some, None, codes, Option as Maybe, Result, sym, refl, ap, ◌∙◌, subst, ⊎_elim, arith, pow-add}
use mathlib.Core.Option.{Option, some, none}
use Rattle.std.proofs.lemmas.List.{drop_more, drop_all, take_at, take_all, length-take}
use Rattle.std.proofs.lemmas.Bool.{cases_lt, lt-leb, le-leb, eqb-true}
use Rattle.syntax.specs.Base.{opt}
use Rattle.meaning.specs.System.{QuotedByte}
use Rattle.meaning.specs.Words.{decimal, digits_value, number, bytes_of, first_or}
use Rattle.words.specs.Encoding.{encoded, marked, plain, Small, AllSmall, Bytes, shown, rev, word_length}
use Rattle.machine.specs.Arguments.{lows, maybe, number_of, exit_number, chosen}
use Rattle.store.specs.declared.Refusal.{Refusal}
use Rattle.store.specs.declared.Store.{Store}
use Rattle.words.specs.Pushed.{Pushed}
use Rattle.words.proofs.Pushes.{differ}
use Rattle.words.proofs.Texts.{low, byte_is, encoded_length, word_is, shown_length, line_bytes}

lows_length : (ws : List ℕ) → length (lows ws) ≡ length ws
lows_length [] = refl
lows_length (w ∷ ws) = ap suc (lows_length ws)

and_false : (a : Bool) → (a && false) ≡ false
and_false true = refl
and_false false = refl

-- too short or too long
pub number_short : (ws : List ℕ) → length ws ≡ 0 → None ≡ number_of ws
number_short [] h = refl
number_short (w ∷ ws) h = absurd (omega arith)

pub number_long : (ws : List ℕ) → 9 < length ws → None ≡ number_of ws
number_long ws h = sym (rw (lows_length ws, lt-leb (length ws) 9 h, and_false (leb 1 (length ws))))

-- of the right length
pub number_right : (ws : List ℕ) → 1 ≤ length ws → length ws ≤ 9 → number_of ws ≡ maybe (digits_value 0 (lows ws))
number_right ws h l = rw (lows_length ws, le-leb 1 (length ws) h, le-leb (length ws) 9 l)

-- one digit
pub digit_low : (ws : List ℕ) (n i : ℕ) → i < length ws → get_or ws i 0 % 256 < 48 → digits_value n (lows (drop i ws)) ≡ none
digit_low ws n i l h = rw (drop_more ws i 0 l, lt-leb 48 (get_or ws i 0 % 256) h)

pub digit_high : (ws : List ℕ) (n i : ℕ) → i < length ws → 57 < get_or ws i 0 % 256 → digits_value n (lows (drop i ws)) ≡ none
digit_high ws n i l h = rw (drop_more ws i 0 l, lt-leb (get_or ws i 0 % 256) 57 h, and_false (leb 48 (get_or ws i 0 % 256)))

pub digit_on : (ws : List ℕ) (n i : ℕ) → i < length ws → 48 ≤ get_or ws i 0 % 256 → get_or ws i 0 % 256 ≤ 57 → digits_value n (lows (drop i ws)) ≡ digits_value (n * 10 + (get_or ws i 0 % 256 - 48)) (lows (drop (i + 1) ws))
digit_on ws n i l h k = rw (drop_more ws i 0 l, le-leb 48 (get_or ws i 0 % 256) h, le-leb (get_or ws i 0 % 256) 57 k)

pub digit_end : (ws : List ℕ) (n i : ℕ) → length ws ≤ i → digits_value n (lows (drop i ws)) ≡ some n
digit_end ws n i l = ap (λ z. digits_value n (lows z)) (drop_all i ws l)

-- how large
pub pow_next : (i n c : ℕ) → n < 10 ^ i → c ≤ 9 → n * 10 + c < 10 ^ (i + 1)
pow_next i n c h l = omega (arith, pow-add 10 i 1)

pub pow_small : (i n : ℕ) → n < 10 ^ i → i ≤ 9 → n < 1000000000
pow_small zero n h l = omega arith
pow_small (suc zero) n h l = omega arith
pow_small (suc (suc zero)) n h l = omega arith
pow_small (suc (suc (suc zero))) n h l = omega arith
pow_small (suc (suc (suc (suc zero)))) n h l = omega arith
pow_small (suc (suc (suc (suc (suc zero))))) n h l = omega arith
pow_small (suc (suc (suc (suc (suc (suc zero)))))) n h l = omega arith
pow_small (suc (suc (suc (suc (suc (suc (suc zero))))))) n h l = omega arith
pow_small (suc (suc (suc (suc (suc (suc (suc (suc zero)))))))) n h l = omega arith
pow_small (suc (suc (suc (suc (suc (suc (suc (suc (suc zero))))))))) n h l = omega arith
pow_small (suc (suc (suc (suc (suc (suc (suc (suc (suc (suc i)))))))))) n h l = absurd (omega arith)

-- tests of a length
pub no_words : {n : ℕ} → eqb n 0 ≡ true → n ≡ 0
no_words {n} e = grind arith

pub some_words : {n : ℕ} → eqb n 0 ≡ false → n ≡ 0 → ⊥
some_words {n} e = grind arith

-- the first argument
pub exit_is : (A : List ℕ) (s n : ℕ) → (length A ≡ 0 → ⊥) → n ≡ word_length (drop 1 A) → number_of (take n (drop 1 A)) ≡ exit_number A s
exit_is [] s n z e = absurd (z refl)
exit_is (w ∷ ws) s n z e = ap (λ j. number_of (take j ws)) e

first_word : (e : List QuotedByte) (es : List (List QuotedByte)) → Small e → take (word_length (encoded e ++ marked es)) (encoded e ++ marked es) ≡ encoded e
first_word e es s = take_at (encoded e) (marked es) (word_length (encoded e ++ marked es)) (encoded_length e ∙ sym (word_is e es s))

pub lows_encoded : (e : List QuotedByte) → Small e → lows (encoded e) ≡ bytes_of e
lows_encoded [] s = refl
lows_encoded (c ∷ e) s = rw (byte_is c.byte c.quoted s.0, lows_encoded e s.1)

shown_encoded : (e : List QuotedByte) → Small e → shown (encoded e) ≡ bytes_of e
shown_encoded [] s = refl
shown_encoded (c ∷ e) s = rw (low c.byte c.quoted s.0, byte_is c.byte c.quoted s.0, shown_encoded e s.1)

pub chosen_words : (es : List (List QuotedByte)) → AllSmall es → chosen (marked es) ≡ first_or (codes "y") (plain es)
chosen_words [] s = refl
chosen_words (e ∷ es) s = ap shown (first_word e es s.0) ∙ shown_encoded e s.0

-- a status as a number: each one is tried
tried : ℕ → Bool
tried n = opt (number (decimal n)) false (λ v. eqb v n)

all_tried : ℕ → Bool
all_tried zero = true
all_tried (suc k) = tried k && all_tried k

every : (k : ℕ) → all_tried k ≡ true → (n : ℕ) → n < k → tried n ≡ true
unfolding all_tried
every zero h n l = absurd (omega arith)
every (suc k) h n l = by (tried k) (all_tried k) refl refl h (λ g. every k g n)
  where
    by : (a b : Bool) → tried k ≡ a → all_tried k ≡ b → (a && b) ≡ true → (all_tried k ≡ true → n < k → tried n ≡ true) → tried n ≡ true
    by true true p q g f = ⊎_elim (λ (e : n < k). f q e) (λ (e : k ≤ n). let z : n ≡ k = omega arith in ap tried z ∙ p) (cases_lt n k)
    by true false p q g f = absurd (differ (sym g))
    by false b p q g f = absurd (differ (sym g))

pub status_number : (n : ℕ) → n < 256 → number (decimal n) ≡ some n
unfolding tried all_tried
status_number n l = by (number (decimal n)) (every 256 refl n l)
  where
    by : (o : Option ℕ) → opt o false (λ v. eqb v n) ≡ true → o ≡ some n
    by none h = absurd (differ (sym h))
    by (some v) h = ap some (eqb-true v n h)

pub some_number : (o : Option ℕ) (n : ℕ) → Some n ≡ maybe o → o ≡ some n
some_number none n h = absurd (cc)
some_number (some v) n h = let z : n ≡ v = cc in ap some (sym z)

pub no_number : (o : Option ℕ) → ◌≡◌ {A = Maybe ℕ} None (maybe o) → o ≡ none
no_number none h = refl
no_number (some v) h = absurd (cc)

number_first : (e : List QuotedByte) (es : List (List QuotedByte)) → Small e → number_of (take (word_length (encoded e ++ marked es)) (encoded e ++ marked es)) ≡ maybe (number (bytes_of e))
number_first e es s = ap number_of (first_word e es s) ∙ ap (λ z. maybe (number z)) (lows_encoded e s)

-- what exit is given
pub exit_some : (es : List (List QuotedByte)) (n v : ℕ) → AllSmall es → n < 256 → Some v ≡ exit_number (marked es) n → number (first_or (decimal n) (plain es)) ≡ some v
exit_some [] n v s l h = let z : v ≡ n = cc in status_number n l ∙ ap some (sym z)
exit_some (e ∷ es) n v s l h = some_number (number (bytes_of e)) v (h ∙ number_first e es s.0)

pub exit_none : (es : List (List QuotedByte)) (n : ℕ) → AllSmall es → ◌≡◌ {A = Maybe ℕ} None (exit_number (marked es) n) → number (first_or (decimal n) (plain es)) ≡ none
exit_none [] n s h = absurd (cc)
exit_none (e ∷ es) n s h = no_number (number (bytes_of e)) (h ∙ number_first e es s.0)

pub exit_empty : (A : List ℕ) (n : ℕ) → length A ≡ 0 → Some n ≡ exit_number A n
exit_empty [] n h = refl
exit_empty (w ∷ A) n h = absurd (omega arith)

-- what yes prints
pub chosen_bytes : (A : List ℕ) → Bytes (chosen A ++ (10 ∷ []))
chosen_bytes [] = (omega arith, (omega arith, tt))
chosen_bytes (w ∷ A) = line_bytes (take (word_length A) A)

pub chosen_length : (A : List ℕ) → length (chosen A) ≤ length A + 1
chosen_length [] = omega arith
chosen_length (w ∷ A) = omega (arith, shown_length (take (word_length A) A), length-take (word_length A) A)

drop_take : (i n : ℕ) (V : List ℕ) → drop i (take (i + n) V) ≡ take n (drop i V)
drop_take zero n V = let e : 0 + n ≡ n = omega arith in rw e
drop_take (suc i) n [] = let e : suc i + n ≡ suc (i + n) = omega arith in rw e (sym (take_all n [] (omega arith)))
drop_take (suc i) n (v ∷ V) = let e : suc i + n ≡ suc (i + n) = omega arith in rw e (drop_take i n V)

-- the first argument, where there is one, and where there is none
pub choice_some : {s s' : Store} {t : ℕ} {r : Result (Unit {0}) Refusal} (V : List ℕ) (first n : ℕ) → first < length V → n ≡ word_length (drop (first + 1) V) → Pushed s s' t (rev (shown (drop (first + 1) (take (first + 1 + n) V)) ++ (10 ∷ []))) r → Pushed s s' t (rev (chosen (drop first V) ++ (10 ∷ []))) r
choice_some {s} {s'} {t} {r} V first n l f h = subst (λ y. Pushed s s' t (rev (y ++ (10 ∷ []))) r) (ap shown (drop_take (first + 1) n V) ∙ sym (ap chosen (drop_more V first 0 l) ∙ sym (ap (λ j. shown (take j (drop (first + 1) V))) f))) h

pub choice_none : {s s' : Store} {t : ℕ} {r : Result (Unit {0}) Refusal} (V : List ℕ) (first : ℕ) → length V ≤ first → Pushed s s' t (10 ∷ 121 ∷ []) r → Pushed s s' t (rev (chosen (drop first V) ++ (10 ∷ []))) r
choice_none V first l h = rw (drop_all first V l) h
