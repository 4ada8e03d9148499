-- Where words end, and arrows.
use Rattle.std.proofs.Common.{◌≡◌, ℕ, zero, suc, ◌+◌, ◌<◌, ◌≤◌, Bool, true, false, not, ◌&&◌, T, leb, ◌≢◌, ◌⊎◌, List, [], ◌∷◌, length, sym, refl, ◌∙◌, subst, inl, inr, arith}
use mathlib.Core.Option.{some, none}
use Rattle.syntax.specs.Base.{pick, same, Name}
use Rattle.grammar.specs.Tokens.{Token}
use Rattle.grammar.specs.Grammar.{sign}
use Rattle.grammar.specs.Parser.{Lookahead, la_part, la_odd, Entry, look_up, keyword_table, sign_table, lookahead, lookahead_of, no_word, next_joined, expect, redirect_at, after_first}
use Rattle.lexer.specs.Stored.{index_of, sign_names, sign_code, token_code_of, code_at}
use Rattle.syntax.specs.Tree.{RedirectKind, input, output, append, here}
use Rattle.code.specs.Layout.{kind_code}
use Rattle.reader.specs.Reading.{ends_words}
use Rattle.grammar.proofs.Fit.{by_bool}
use Rattle.lexer.proofs.Runs.{leb_no, leb_yes}
use Rattle.lexer.proofs.Next.{eqb_no}
use Rattle.reader.proofs.Views.{Bare, b_none, b_name, b_key, b_set, bare_in}
use Rattle.reader.proofs.Eats.{eat_no, eat_sign}

abbrev none_of : (Lookahead → Bool) → List Entry → Bool
none_of f [] = true
none_of f (e ∷ es) = not (f e.means) && none_of f es

look_no : (f : Lookahead → Bool) (b : List ℕ) (es : List Entry) (d : Lookahead) → none_of f es ≡ true → f d ≡ false → f (look_up b es d) ≡ false
look_no f b [] d h k = k
look_no f b (e ∷ es) d h k = by_bool (λ x. f (pick x e.means (look_up b es d)) ≡ false) (same b e.spelling) (λ x. first (f e.means) (none_of f es) h) (λ x. look_no f b es d (second (f e.means) (none_of f es) h) k)
  where
    first : (x y : Bool) → not x && y ≡ true → x ≡ false
    first true y e = sym e
    first false y e = refl

    second : (x y : Bool) → not x && y ≡ true → y ≡ true
    second true y e = absurd (subst T (sym e) tt)
    second false y e = e

abbrev all_of : (Lookahead → Bool) → List Entry → Bool
all_of f [] = true
all_of f (e ∷ es) = f e.means && all_of f es

abbrev saids : List Entry → List Name
saids [] = []
saids (e ∷ es) = e.spelling ∷ saids es

look_yes : (f : Lookahead → Bool) (b : List ℕ) (es : List Entry) (d : Lookahead) → all_of f es ≡ true → f d ≡ false → f (look_up b es d) ≡ leb (suc (index_of b (saids es))) (length es)
look_yes f b [] d h k = k ∙ sym (leb_no 1 0 (omega arith))
look_yes f b (e ∷ es) d h k = by_bool (λ x. f (pick x e.means (look_up b es d)) ≡ leb (suc (pick x 0 (suc (index_of b (saids es))))) (suc (length es))) (same b e.spelling) (λ x. first (f e.means) (all_of f es) h ∙ sym (leb_yes 1 (suc (length es)) (omega arith))) (λ x. look_yes f b es d (second (f e.means) (all_of f es) h) k ∙ leb_up (suc (index_of b (saids es))) (length es))
  where
    first : (x y : Bool) → x && y ≡ true → x ≡ true
    first true y e = refl
    first false y e = e

    second : (x y : Bool) → x && y ≡ true → y ≡ true
    second true y e = e
    second false y e = absurd (subst T (sym e) tt)

    leb_up : (m n : ℕ) → leb m n ≡ leb (suc m) (suc n)
    leb_up m n = sym (lib.Dec.leb-suc-suc m n)

bare_ends : {k : ℕ} → Bare k → ends_words k ≡ false
bare_ends b_none = refl
bare_ends b_name = refl
bare_ends (b_key {k} a b) = rw (eqb_no k 47 (omega arith), leb_no 32 k b)
bare_ends (b_set {k} a) = rw (eqb_no k 47 (omega arith), leb_no k 44 (omega arith)) (and_f (leb 32 k))
  where
    and_f : (b : Bool) → b && false ≡ false
    and_f true = refl
    and_f false = refl

sign_ends : (b : List ℕ) → no_word (look_up b sign_table la_odd) ≡ ends_words (sign_code b)
unfolding sign_code
sign_ends b = look_yes no_word b sign_table la_odd refl refl ∙ sum (index_of b sign_names) (index_le2 b sign_names)
  where
    index_le2 : (b : Name) (ks : List Name) → index_of b ks ≤ length ks
    index_le2 b [] = omega arith
    index_le2 b (k ∷ ks) = by_bool (λ x. pick x 0 (suc (index_of b ks)) ≤ suc (length ks)) (same b k) (λ e. omega arith) (λ e. omega (arith, index_le2 b ks))

    sum : (j : ℕ) → j ≤ 13 → leb (suc j) 13 ≡ ends_words (32 + j)
    sum j h = by_bool (λ x. leb (suc j) 13 ≡ x → x ≡ ends_words (32 + j)) (leb (suc j) 13) (λ e f. sym (rw (eqb_no (32 + j) 47 (omega arith), leb_yes 32 (32 + j) (omega arith), leb_yes (32 + j) 44 (omega (arith, lib.Dec.leb→le (suc j) 13 (subst T (sym e) tt)))))) (λ e f. sym (rw (eqb_no (32 + j) 47 (omega arith), leb_yes 32 (32 + j) (omega arith), leb_no (32 + j) 44 (omega (arith, lib.Dec.nleb→lt (suc j) 13 (subst (λ b. T (not b)) (sym e) tt)))))) refl

word_go : (g : Bool) (t : ℕ) (b : List ℕ) (s : Bool) → no_word (lookahead_of g t b s) ≡ ends_words (token_code_of g t b)
word_go true zero b s = refl
word_go true (suc zero) b s = refl
word_go true (suc (suc zero)) b s = refl
word_go true (suc (suc (suc zero))) b s = refl
word_go true (suc (suc (suc (suc zero)))) b s = refl
word_go true (suc (suc (suc (suc (suc zero))))) [] s = refl
word_go true (suc (suc (suc (suc (suc zero))))) (c ∷ b) s = refl
word_go true (suc (suc (suc (suc (suc (suc zero)))))) [] s = refl
word_go true (suc (suc (suc (suc (suc (suc zero)))))) (c ∷ b) s = refl
word_go true (suc (suc (suc (suc (suc (suc (suc t))))))) b s = refl
word_go false zero b true = sym (bare_ends (bare_in b))
word_go false zero b false = look_no no_word b keyword_table la_part refl refl ∙ sym (bare_ends (bare_in b))
word_go false (suc zero) b s = refl
word_go false (suc (suc zero)) b s = refl
word_go false (suc (suc (suc zero))) b s = refl
word_go false (suc (suc (suc (suc zero)))) b s = sign_ends b
word_go false (suc (suc (suc (suc (suc zero))))) [] s = refl
word_go false (suc (suc (suc (suc (suc zero))))) (c ∷ b) s = refl
word_go false (suc (suc (suc (suc (suc (suc zero)))))) [] s = refl
word_go false (suc (suc (suc (suc (suc (suc zero)))))) (c ∷ b) s = refl
word_go false (suc (suc (suc (suc (suc (suc (suc t))))))) b s = refl

pub ends_is : (ps : List Token) → no_word (lookahead ps) ≡ ends_words (code_at ps)
ends_is [] = refl
ends_is (p ∷ r) = word_go p.joined p.kind p.bytes (next_joined r)

codes : (sign_code (60 ∷ []) ≡ 36) × (sign_code (62 ∷ []) ≡ 37) × (sign_code (62 ∷ 62 ∷ []) ≡ 38) × (sign_code (60 ∷ 60 ∷ []) ≡ 39)
unfolding sign_code
codes = (refl, refl, refl, refl)

yes : (b : Name) (ps : List Token) (k : ℕ) → sign_code b ≡ k → code_at ps ≡ k → 32 ≤ k → k ≤ 44 → expect (sign b) ps ≡ some (after_first ps)
yes b ps k e f x y = eat_sign b ps (f ∙ sym e) (omega (arith, e)) (omega (arith, e))

no : (b : Name) (ps : List Token) (k : ℕ) → sign_code b ≡ k → code_at ps ≢ k → expect (sign b) ps ≡ none
no b ps k e f = eat_no (sign b) ps (λ x. f (x ∙ e))

-- the kind of a redirection, from its sign's code
abbrev pub kind_by : ℕ → RedirectKind
kind_by zero = input
kind_by (suc zero) = output
kind_by (suc (suc zero)) = append
kind_by (suc (suc (suc j))) = here

pub kind_back : (j : ℕ) → j < 4 → j ≡ kind_code (kind_by j)
kind_back zero h = refl
kind_back (suc zero) h = refl
kind_back (suc (suc zero)) h = refl
kind_back (suc (suc (suc zero))) h = refl
kind_back (suc (suc (suc (suc j)))) h = absurd (omega arith)

pub arrow_yes : (ps : List Token) (j : ℕ) → j < 4 → code_at ps ≡ 36 + j → redirect_at ps ≡ some (kind_by j, after_first ps)
arrow_yes ps zero h e = rw (yes (60 ∷ []) ps 36 codes.0 e (omega arith) (omega arith))
arrow_yes ps (suc zero) h e = rw (no (60 ∷ []) ps 36 codes.0 (omega (arith, e)), yes (62 ∷ []) ps 37 codes.1 e (omega arith) (omega arith))
arrow_yes ps (suc (suc zero)) h e = rw (no (60 ∷ []) ps 36 codes.0 (omega (arith, e)), no (62 ∷ []) ps 37 codes.1 (omega (arith, e)), yes (62 ∷ 62 ∷ []) ps 38 codes.2 e (omega arith) (omega arith))
arrow_yes ps (suc (suc (suc zero))) h e = rw (no (60 ∷ []) ps 36 codes.0 (omega (arith, e)), no (62 ∷ []) ps 37 codes.1 (omega (arith, e)), no (62 ∷ 62 ∷ []) ps 38 codes.2 (omega (arith, e)), yes (60 ∷ 60 ∷ []) ps 39 codes.3 e (omega arith) (omega arith))
arrow_yes ps (suc (suc (suc (suc j)))) h e = absurd (omega arith)

pub arrow_no : (ps : List Token) (k : ℕ) → k ≡ code_at ps → (k < 36) ⊎ (39 < k) → redirect_at ps ≡ none
arrow_no ps k e h = rw (no (60 ∷ []) ps 36 codes.0 (out 36 (omega arith) (omega arith) h), no (62 ∷ []) ps 37 codes.1 (out 37 (omega arith) (omega arith) h), no (62 ∷ 62 ∷ []) ps 38 codes.2 (out 38 (omega arith) (omega arith) h), no (60 ∷ 60 ∷ []) ps 39 codes.3 (out 39 (omega arith) (omega arith) h))
  where
    out : (x : ℕ) → 36 ≤ x → x ≤ 39 → (k < 36) ⊎ (39 < k) → code_at ps ≢ x
    out x a b (inl c) f = omega (arith, e, f)
    out x a b (inr c) f = omega (arith, e, f)
