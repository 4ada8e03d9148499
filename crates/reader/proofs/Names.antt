-- Tokens that are names, by their codes.
use Rattle.std.proofs.Common.{◌≡◌, ℕ, zero, suc, ◌+◌, ◌<◌, ◌≤◌, Bool, true, false, not, ◌&&◌, ◌||◌, T, eqb, leb, ◌≢◌, List, [], ◌∷◌, ◌++◌, length, get_or, take, drop, sym, refl, ap, ◌∙◌, subst, arith, leb→le}
use mathlib.Core.Option.{Option, some, none}
use lib.Dec.{nleb→lt}
use Rattle.syntax.specs.Base.{pick, Name, letter, digit, name_bytes, valid_name}
use Rattle.grammar.specs.Tokens.{Token, token}
use Rattle.grammar.specs.Grammar.{Split, split_equals, reserved, listed}
use Rattle.grammar.specs.Parser.{Deeper, name_go, parse_name, parse_function, after_first}
use Rattle.lexer.specs.Stored.{Spelled, index_of, keyword_index, bare_code, assignment_code, word_code, sign_code, token_code_of, tokens_of, tokens_from, code_at, Has}
use Rattle.grammar.proofs.Fit.{by_bool}
use Rattle.lexer.proofs.Runs.{leb_no, leb_yes}
use Rattle.lexer.proofs.Next.{eqb_no, eqb_yes}
use Rattle.reader.specs.Reading.{names}
use Rattle.reader.proofs.Views.{sign_in, here}
use Rattle.reader.proofs.Eats.{same_eq, index_at}
use Rattle.reader.proofs.Sets.{cut_sound, bytes1, tag1}
use Rattle.reader.proofs.First.{key_listed}

and_f : (b : Bool) → b && false ≡ false
and_f true = refl
and_f false = refl

no_equals : (xs ys : List ℕ) → name_bytes (xs ++ (61 ∷ ys)) ≡ false
no_equals [] ys = refl
no_equals (x ∷ xs) ys = rw (no_equals xs ys) (and_f (letter x || digit x))

not_valid : (xs ys : List ℕ) → valid_name (xs ++ (61 ∷ ys)) ≡ false
not_valid [] ys = refl
not_valid (x ∷ xs) ys = rw (no_equals xs ys) (and_f (letter x))

data NameOf (b : List ℕ) : ℕ → Type 0 where
  n_key : {k : ℕ} (j : ℕ) → j < 16 → k ≡ 16 + j → b ≡ get_or reserved j [] → listed b reserved ≡ true → NameOf b k
  n_set : {k : ℕ} → 64 ≤ k → valid_name b ≡ false → NameOf b k
  n_other : {k : ℕ} (x : Bool) → k ≡ pick x 46 0 → valid_name b ≡ x → listed b reserved ≡ false → NameOf b k

by_split : (b : List ℕ) → listed b reserved ≡ false → (o : Option Split) → split_equals b [] ≡ o → NameOf b (assignment_code o (pick (valid_name b) 46 0))
by_split b h none e = n_other (valid_name b) refl refl h
by_split b h (some c) e = by_bool (λ y. NameOf b (pick y (64 + length c.before) (pick (valid_name b) 46 0))) (valid_name c.before) (λ y. n_set (omega arith) (ap valid_name (cut_sound b [] c e) ∙ not_valid c.before c.behind)) (λ y. n_other (valid_name b) refl refl h)

reserved_is : (b : Name) → index_of b reserved < 16 → b ≡ get_or reserved (index_of b reserved) []
reserved_is b h = same_eq b _ (index_at b reserved (index_of b reserved) refl h)

by_word : (b : List ℕ) → NameOf b (word_code (keyword_index b) b)
unfolding keyword_index
by_word b = by_bool (λ x. leb 16 (keyword_index b) ≡ x → NameOf b (pick x (assignment_code (split_equals b []) (pick (valid_name b) 46 0)) (16 + keyword_index b))) (leb 16 (keyword_index b)) (λ x y. by_split b (key_listed b ∙ leb_no (suc (keyword_index b)) 16 (omega (arith, leb→le 16 (keyword_index b) (subst T (sym x) tt)))) (split_equals b []) refl) (λ x y. let l = nleb→lt 16 (keyword_index b) (subst (λ b. T (not b)) (sym x) tt) in n_key (keyword_index b) l refl (reserved_is b l) (key_listed b ∙ leb_yes (suc (keyword_index b)) 16 l)) refl

bare_name : (b : List ℕ) → NameOf b (bare_code b)
unfolding bare_code
bare_name b = by_word b

data NameGo (g : Bool) (t : ℕ) (b : List ℕ) (k : ℕ) : Type 0 where
  no_go : ((r : List Token) → name_go g t b r ≡ none) → names k ≡ false → k ≢ 46 → NameGo g t b k
  a_go : ((r : List Token) → name_go g t b r ≡ some (b, r)) → names k ≡ true → listed b reserved ≡ not (eqb k 46) → t ≡ 0 → NameGo g t b k

key_valid : (j : ℕ) → j < 16 → (b : List ℕ) → b ≡ get_or reserved j [] → listed b reserved ≡ true → NameGo false zero b (16 + j)
key_valid j h b e l = go j h (ap valid_name e)
  where
    yes : (j : ℕ) → names (16 + j) ≡ true → eqb (16 + j) 46 ≡ false → valid_name b ≡ true → NameGo false zero b (16 + j)
    yes j x y z = a_go (λ r. rw z) x (l ∙ rw y) refl

    no1 : (j : ℕ) → names (16 + j) ≡ false → 16 + j ≢ 46 → valid_name b ≡ false → NameGo false zero b (16 + j)
    no1 j x y z = no_go (λ r. rw z) x y

    go : (j : ℕ) → j < 16 → valid_name b ≡ valid_name (get_or reserved j []) → NameGo false zero b (16 + j)
    go zero h z = yes 0 refl refl z
    go (suc zero) h z = yes 1 refl refl z
    go (suc (suc zero)) h z = yes 2 refl refl z
    go (suc (suc (suc zero))) h z = yes 3 refl refl z
    go (suc (suc (suc (suc zero)))) h z = yes 4 refl refl z
    go (suc (suc (suc (suc (suc zero))))) h z = yes 5 refl refl z
    go (suc (suc (suc (suc (suc (suc zero)))))) h z = yes 6 refl refl z
    go (suc (suc (suc (suc (suc (suc (suc zero))))))) h z = yes 7 refl refl z
    go (suc (suc (suc (suc (suc (suc (suc (suc zero)))))))) h z = yes 8 refl refl z
    go (suc (suc (suc (suc (suc (suc (suc (suc (suc zero))))))))) h z = yes 9 refl refl z
    go (suc (suc (suc (suc (suc (suc (suc (suc (suc (suc zero)))))))))) h z = yes 10 refl refl z
    go (suc (suc (suc (suc (suc (suc (suc (suc (suc (suc (suc zero))))))))))) h z = yes 11 refl refl z
    go (suc (suc (suc (suc (suc (suc (suc (suc (suc (suc (suc (suc zero)))))))))))) h z = yes 12 refl refl z
    go (suc (suc (suc (suc (suc (suc (suc (suc (suc (suc (suc (suc (suc zero))))))))))))) h z = no1 13 refl (omega arith) z
    go (suc (suc (suc (suc (suc (suc (suc (suc (suc (suc (suc (suc (suc (suc zero)))))))))))))) h z = no1 14 refl (omega arith) z
    go (suc (suc (suc (suc (suc (suc (suc (suc (suc (suc (suc (suc (suc (suc (suc zero))))))))))))))) h z = no1 15 refl (omega arith) z
    go (suc (suc (suc (suc (suc (suc (suc (suc (suc (suc (suc (suc (suc (suc (suc (suc j)))))))))))))))) h z = absurd (omega arith)

from_name : {b : List ℕ} {k : ℕ} → NameOf b k → NameGo false zero b k
from_name {b} (n_key j h e f l) = subst (NameGo false zero b) (sym e) (key_valid j h b f l)
from_name {b} {k} (n_set h v) = no_go (λ r. rw v) (rw (eqb_no k 46 (omega arith), leb_no k 28 (omega arith)) (and_f (leb 16 k))) (omega arith)
from_name {b} (n_other true e v l) = a_go (λ r. rw v) (ap names e) (l ∙ rw e) refl
from_name {b} (n_other false e v l) = no_go (λ r. rw v) (ap names e) (omega (arith, e))

sign_name : (b : List ℕ) → names (sign_code b) ≡ false
sign_name b = rw (eqb_no (sign_code b) 46 (omega (arith, (sign_in b).1)), leb_no (sign_code b) 28 (omega (arith, (sign_in b).0))) (and_f (leb 16 (sign_code b)))

name_is_go : (g : Bool) (t : ℕ) (b : List ℕ) → NameGo g t b (token_code_of g t b)
name_is_go true zero b = no_go (λ r. refl) refl (omega arith)
name_is_go true (suc zero) b = no_go (λ r. refl) refl (omega arith)
name_is_go true (suc (suc zero)) b = no_go (λ r. refl) refl (omega arith)
name_is_go true (suc (suc (suc zero))) b = no_go (λ r. refl) refl (omega arith)
name_is_go true (suc (suc (suc (suc zero)))) b = no_go (λ r. refl) refl (omega arith)
name_is_go true (suc (suc (suc (suc (suc zero))))) [] = no_go (λ r. refl) refl (omega arith)
name_is_go true (suc (suc (suc (suc (suc zero))))) (c ∷ b) = no_go (λ r. refl) refl (omega arith)
name_is_go true (suc (suc (suc (suc (suc (suc zero)))))) [] = no_go (λ r. refl) refl (omega arith)
name_is_go true (suc (suc (suc (suc (suc (suc zero)))))) (c ∷ b) = no_go (λ r. refl) refl (omega arith)
name_is_go true (suc (suc (suc (suc (suc (suc (suc t))))))) b = no_go (λ r. refl) refl (omega arith)
name_is_go false zero b = from_name (bare_name b)
name_is_go false (suc zero) b = no_go (λ r. refl) refl (omega arith)
name_is_go false (suc (suc zero)) b = no_go (λ r. refl) refl (omega arith)
name_is_go false (suc (suc (suc zero))) b = no_go (λ r. refl) refl (omega arith)
name_is_go false (suc (suc (suc (suc zero)))) b = no_go (λ r. refl) (sign_name b) (omega (arith, (sign_in b).1))
name_is_go false (suc (suc (suc (suc (suc zero))))) [] = no_go (λ r. refl) refl (omega arith)
name_is_go false (suc (suc (suc (suc (suc zero))))) (c ∷ b) = no_go (λ r. refl) refl (omega arith)
name_is_go false (suc (suc (suc (suc (suc (suc zero)))))) [] = no_go (λ r. refl) refl (omega arith)
name_is_go false (suc (suc (suc (suc (suc (suc zero)))))) (c ∷ b) = no_go (λ r. refl) refl (omega arith)
name_is_go false (suc (suc (suc (suc (suc (suc (suc t))))))) b = no_go (λ r. refl) refl (omega arith)

data NameAt (ps : List Token) (k : ℕ) : Type 0 where
  no_name : parse_name ps ≡ none → names k ≡ false → k ≢ 46 → NameAt ps k
  a_name : (b : List ℕ) → parse_name ps ≡ some (b, after_first ps) → names k ≡ true → listed b reserved ≡ not (eqb k 46) → bytes1 ps ≡ b → tag1 ps ≡ 0 → NameAt ps k

up : (p : Token) (r : List Token) {k : ℕ} → NameGo p.joined p.kind p.bytes k → NameAt (p ∷ r) k
up p r (no_go e f h) = no_name (e r) f h
up p r (a_go e f h z) = a_name p.bytes (e r) f h refl z

name_is : (ps : List Token) → NameAt ps (code_at ps)
name_is [] = no_name refl refl (omega arith)
name_is (p ∷ r) = up p r (name_is_go p.joined p.kind p.bytes)

abbrev pub NameHere : List ℕ → ℕ → ℕ → ℕ → Type 0
NameHere t i s l = (b : List ℕ) × (parse_name (tokens_from t i) ≡ some (b, tokens_from t (i + 1))) × (take l (drop s t) ≡ b)

true≢false : {A : Type 0} → true ≡ false → A
true≢false e = absurd (subst T e tt)

module _ {t : List ℕ} {n : ℕ} {m : List ℕ} (h : Has t n m) (i : ℕ) (k : ℕ) (ke : k ≡ code_at (tokens_from t i)) where
  pub name_none : names k ≡ false → parse_name (tokens_from t i) ≡ none
  name_none e = go (name_is (tokens_from t i))
    where
      go : NameAt (tokens_from t i) (code_at (tokens_from t i)) → parse_name (tokens_from t i) ≡ none
      go (no_name a b d) = a
      go (a_name b a d f g z) = true≢false (sym d ∙ (ap names (sym ke) ∙ e))

  pub function_none : (S : Deeper) → k ≢ 46 → parse_function S (tokens_from t i) ≡ none
  function_none S e = go (name_is (tokens_from t i))
    where
      go : NameAt (tokens_from t i) (code_at (tokens_from t i)) → parse_function S (tokens_from t i) ≡ none
      go (no_name a b d) = rw a
      go (a_name b a d f g z) = rw (a, f ∙ ap not (eqb_no (code_at (tokens_from t i)) 46 (λ x. e (ke ∙ x))))

  -- its bytes are l0 of the text from s on
  module _ (s l0 : ℕ) (sp : Spelled t s l0 (get_or (tokens_of t) i (token false 0 []))) where
    spelled : i < n → (b : List ℕ) → bytes1 (tokens_from t i) ≡ b → tag1 (tokens_from t i) ≡ 0 → take l0 (drop s t) ≡ b
    spelled z b d e = sp (omega (arith, sym (ap tag1 (here i h z)) ∙ e)) ∙ (sym (ap bytes1 (here i h z)) ∙ d)

    pub name_here : names k ≡ true → i < n → NameHere t i s l0
    name_here e l = go (name_is (tokens_from t i))
      where
        go : NameAt (tokens_from t i) (code_at (tokens_from t i)) → NameHere t i s l0
        go (no_name a b d) = true≢false (sym e ∙ (ap names ke ∙ b))
        go (a_name b a d f g z) = (b, a ∙ ap (λ ps. some (b, after_first ps)) (here i h l), spelled l b g z)

    pub function_here : k ≡ 46 → i < n → (x : NameHere t i s l0) × (listed x.0 reserved ≡ false)
    function_here e l = go (name_is (tokens_from t i))
      where
        go : NameAt (tokens_from t i) (code_at (tokens_from t i)) → (x : NameHere t i s l0) × (listed x.0 reserved ≡ false)
        go (no_name a b d) = absurd (d (sym ke ∙ e))
        go (a_name b a d f g z) = ((b, a ∙ ap (λ ps. some (b, after_first ps)) (here i h l), spelled l b g z), f ∙ ap not (eqb_yes (code_at (tokens_from t i)) 46 (sym ke ∙ e)))
