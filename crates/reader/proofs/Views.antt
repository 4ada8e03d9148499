-- What the number of a token says of its token.
use Rattle.std.proofs.Common.{◌≡◌, ℕ, zero, suc, ◌+◌, ◌<◌, ◌≤◌, Bool, true, false, not, ◌&&◌, T, leb, List, [], ◌∷◌, length, get_or, sym, refl, subst, arith}
use mathlib.Core.Option.{Option, some, none}
use Rattle.std.proofs.lemmas.List.{drop_all, drop_more}
use Rattle.syntax.specs.Base.{pick, same, Name, valid_name}
use Rattle.grammar.specs.Tokens.{Token, token}
use Rattle.grammar.specs.Grammar.{split_equals, Split}
use Rattle.grammar.specs.Parser.{Deeper, parse_part_go, next_joined}
use Rattle.lexer.specs.Stored.{index_of, keyword_index, bare_code, assignment_code, word_code, sign_code, sign_names, token_code_of, token_code, tokens_of, tokens_from, code_at, Has}
use Rattle.reader.specs.Reading.{part_tag, joins}
use Rattle.grammar.proofs.Fit.{by_bool}
use Rattle.lexer.proofs.Runs.{leb_no, leb_yes}
use Rattle.lexer.proofs.Next.{eqb_no}

index_le : (b : Name) (ks : List Name) → index_of b ks ≤ length ks
index_le b [] = omega arith
index_le b (k ∷ ks) = by_bool (λ x. pick x 0 (suc (index_of b ks)) ≤ suc (length ks)) (same b k) (λ e. omega arith) (λ e. omega (arith, index_le b ks))

pub sign_in : (b : List ℕ) → (32 ≤ sign_code b) × (sign_code b ≤ 45)
unfolding sign_code
sign_in b = (omega arith, omega (arith, index_le b sign_names))

-- a bare word's number
pub data Bare : ℕ → Type 0 where
  b_none : Bare 0
  b_name : Bare 46
  b_key : {k : ℕ} → 16 ≤ k → k < 32 → Bare k
  b_set : {k : ℕ} → 64 ≤ k → Bare k

pick_bare : (x : Bool) {a b : ℕ} → Bare a → Bare b → Bare (pick x a b)
pick_bare true h k = h
pick_bare false h k = k

set_bare : (o : Option Split) {d : ℕ} → Bare d → Bare (assignment_code o d)
set_bare none h = h
set_bare (some c) h = pick_bare (valid_name c.before) (b_set (omega arith)) h

word_bare1 : (k : ℕ) (b : List ℕ) → Bare (word_code k b)
word_bare1 k b = by_bool (λ x. leb 16 k ≡ x → Bare (pick x (assignment_code (split_equals b []) (pick (valid_name b) 46 0)) (16 + k))) (leb 16 k) (λ e f. set_bare (split_equals b []) (pick_bare (valid_name b) b_name b_none)) (λ e f. b_key (omega arith) (omega (arith, not_le1 16 k e))) refl
  where
    not_le1 : (m n : ℕ) → leb m n ≡ false → n < m
    not_le1 m n e = lib.Dec.nleb→lt m n (subst (λ b. T (not b)) (sym e) tt)

pub bare_in : (b : List ℕ) → Bare (bare_code b)
unfolding bare_code
bare_in b = word_bare1 (keyword_index b) b

bare_tag : {k : ℕ} → Bare k → part_tag k ≡ 0
bare_tag b_none = refl
bare_tag b_name = refl
bare_tag (b_key {k} a b) = rw (leb_no 64 k (omega arith), eqb_no k 46 (omega arith), leb_no 32 k b, leb_yes 16 k a)
bare_tag (b_set {k} a) = rw (leb_yes 64 k a)

bare_free : {k : ℕ} → Bare k → joins k ≡ false
bare_free b_none = refl
bare_free b_name = refl
bare_free (b_key {k} a b) = rw (leb_no k 15 (omega arith)) (and_no (leb 8 k))
  where
    and_no : (b : Bool) → b && false ≡ false
    and_no true = refl
    and_no false = refl
bare_free (b_set {k} a) = rw (leb_no k 15 (omega arith)) (and_no (leb 8 k))
  where
    and_no : (b : Bool) → b && false ≡ false
    and_no true = refl
    and_no false = refl

sign_tag : (b : List ℕ) → part_tag (sign_code b) ≡ 4
sign_tag b = let h = sign_in b in rw (leb_no 64 (sign_code b) (omega arith), eqb_no (sign_code b) 46 (omega arith), leb_yes 32 (sign_code b) (omega arith))

sign_free : (b : List ℕ) → joins (sign_code b) ≡ false
sign_free b = let h = sign_in b in rw (leb_no (sign_code b) 15 (omega arith)) (and_no (leb 8 (sign_code b)))
  where
    and_no : (b : Bool) → b && false ≡ false
    and_no true = refl
    and_no false = refl

pub data View (t : ℕ) (b : List ℕ) : ℕ → Type 0 where
  v_low : t ≤ 3 → View t b t
  v_run : 5 ≤ t → t ≤ 6 → b ≡ [] → View t b t
  v_none : ((S : Deeper) (r : List Token) → parse_part_go S t b r ≡ none) → View t b 4

view_go : (g : Bool) (t : ℕ) (b : List ℕ) → View t b (part_tag (token_code_of g t b))
view_go true zero b = v_low (omega arith)
view_go true (suc zero) b = v_low (omega arith)
view_go true (suc (suc zero)) b = v_low (omega arith)
view_go true (suc (suc (suc zero))) b = v_low (omega arith)
view_go true (suc (suc (suc (suc zero)))) b = v_none (λ S r. refl)
view_go true (suc (suc (suc (suc (suc zero))))) [] = v_run (omega arith) (omega arith) refl
view_go true (suc (suc (suc (suc (suc zero))))) (c ∷ b) = v_none (λ S r. refl)
view_go true (suc (suc (suc (suc (suc (suc zero)))))) [] = v_run (omega arith) (omega arith) refl
view_go true (suc (suc (suc (suc (suc (suc zero)))))) (c ∷ b) = v_none (λ S r. refl)
view_go true (suc (suc (suc (suc (suc (suc (suc t))))))) b = v_none (λ S r. refl)
view_go false zero b = subst (λ k. View zero b k) (sym (bare_tag (bare_in b))) (v_low (omega arith))
view_go false (suc zero) b = v_low (omega arith)
view_go false (suc (suc zero)) b = v_low (omega arith)
view_go false (suc (suc (suc zero))) b = v_low (omega arith)
view_go false (suc (suc (suc (suc zero)))) b = subst (λ k. View 4 b k) (sym (sign_tag b)) (v_none (λ S r. refl))
view_go false (suc (suc (suc (suc (suc zero))))) [] = v_run (omega arith) (omega arith) refl
view_go false (suc (suc (suc (suc (suc zero))))) (c ∷ b) = v_none (λ S r. refl)
view_go false (suc (suc (suc (suc (suc (suc zero)))))) [] = v_run (omega arith) (omega arith) refl
view_go false (suc (suc (suc (suc (suc (suc zero)))))) (c ∷ b) = v_none (λ S r. refl)
view_go false (suc (suc (suc (suc (suc (suc (suc t))))))) b = v_none (λ S r. refl)

sticks_go : (g : Bool) (t : ℕ) (b : List ℕ) → joins (token_code_of g t b) ≡ g
sticks_go true zero b = refl
sticks_go true (suc zero) b = refl
sticks_go true (suc (suc zero)) b = refl
sticks_go true (suc (suc (suc zero))) b = refl
sticks_go true (suc (suc (suc (suc zero)))) b = refl
sticks_go true (suc (suc (suc (suc (suc zero))))) [] = refl
sticks_go true (suc (suc (suc (suc (suc zero))))) (c ∷ b) = refl
sticks_go true (suc (suc (suc (suc (suc (suc zero)))))) [] = refl
sticks_go true (suc (suc (suc (suc (suc (suc zero)))))) (c ∷ b) = refl
sticks_go true (suc (suc (suc (suc (suc (suc (suc t))))))) b = refl
sticks_go false zero b = bare_free (bare_in b)
sticks_go false (suc zero) b = refl
sticks_go false (suc (suc zero)) b = refl
sticks_go false (suc (suc (suc zero))) b = refl
sticks_go false (suc (suc (suc (suc zero)))) b = sign_free b
sticks_go false (suc (suc (suc (suc (suc zero))))) [] = refl
sticks_go false (suc (suc (suc (suc (suc zero))))) (c ∷ b) = refl
sticks_go false (suc (suc (suc (suc (suc (suc zero)))))) [] = refl
sticks_go false (suc (suc (suc (suc (suc (suc zero)))))) (c ∷ b) = refl
sticks_go false (suc (suc (suc (suc (suc (suc (suc t))))))) b = refl

pub view : (p : Token) → View p.kind p.bytes (part_tag (token_code p))
view p = view_go p.joined p.kind p.bytes

pub glued_is : (ps : List Token) → next_joined ps ≡ joins (code_at ps)
glued_is [] = refl
glued_is (p ∷ r) = sym (sticks_go p.joined p.kind p.bytes)

pub here : {t : List ℕ} {n : ℕ} {w : List ℕ} (i : ℕ) → Has t n w → i < n → tokens_from t i ≡ get_or (tokens_of t) i (token false 0 []) ∷ tokens_from t (i + 1)
here {t} {n} i h l = drop_more (tokens_of t) i (token false 0 []) (omega (arith, h.count))

pub there : {t : List ℕ} {n : ℕ} {w : List ℕ} (i : ℕ) → Has t n w → n ≤ i → tokens_from t i ≡ []
there {t} i h l = drop_all i (tokens_of t) (omega (arith, h.count))
