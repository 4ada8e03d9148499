-- What stands at the beginning of tokens, by the numbers of two tokens.
use Rattle.std.proofs.Common.{◌≡◌, ℕ, zero, suc, ◌+◌, ◌-◌, ◌<◌, ◌≤◌, Bool, true, false, not, T, leb, List, [], ◌∷◌, length, sym, refl, ap, ◌∙◌, subst, arith, leb→le}
use mathlib.Core.Option.{Option, some, none}
use lib.Dec.{nleb→lt}
use Rattle.syntax.specs.Base.{pick, same, Name, valid_name}
use Rattle.grammar.specs.Tokens.{Token}
use Rattle.grammar.specs.Grammar.{keyword, split_equals, Split, reserved}
use Rattle.grammar.specs.Parser.{expect, same_token, Lookahead, la_odd, la_part, Entry, look_up, keyword_table, sign_table, lookahead, lookahead_of, next_joined, after_first}
use Rattle.lexer.specs.Stored.{index_of, keyword_index, bare_code, assignment_code, word_code, sign_code, sign_names, token_code_of, token_code, code_at}
use Rattle.reader.specs.Reading.{joins, nth_lookahead, lookahead_by}
use Rattle.reader.proofs.Eats.{same_eq, same_re, index_at}
use Rattle.grammar.proofs.Fit.{by_bool}
use Rattle.lexer.proofs.Runs.{leb_no, leb_yes}
use Rattle.lexer.proofs.Next.{eqb_no, eqb_yes}
use Rattle.reader.proofs.Views.{sign_in, glued_is}

abbrev saids : List Entry → List Name
saids [] = []
saids (e ∷ es) = e.spelling ∷ saids es

look_nth : (b : Name) (es : List Entry) (d : Lookahead) → look_up b es d ≡ nth_lookahead (index_of b (saids es)) es d
look_nth b [] d = refl
look_nth b (e ∷ es) d = by_bool (λ x. pick x e.means (look_up b es d) ≡ nth_lookahead (pick x 0 (suc (index_of b (saids es)))) (e ∷ es) d) (same b e.spelling) (λ x. refl) (λ x. look_nth b es d)

key_look : (b : Name) → look_up b keyword_table la_part ≡ nth_lookahead (keyword_index b) keyword_table la_part
unfolding keyword_index
key_look b = look_nth b keyword_table la_part

past_keys : (k : ℕ) → 16 ≤ k → nth_lookahead k keyword_table la_part ≡ la_part
past_keys zero h = absurd (omega arith)
past_keys (suc zero) h = absurd (omega arith)
past_keys (suc (suc zero)) h = absurd (omega arith)
past_keys (suc (suc (suc zero))) h = absurd (omega arith)
past_keys (suc (suc (suc (suc zero)))) h = absurd (omega arith)
past_keys (suc (suc (suc (suc (suc zero))))) h = absurd (omega arith)
past_keys (suc (suc (suc (suc (suc (suc zero)))))) h = absurd (omega arith)
past_keys (suc (suc (suc (suc (suc (suc (suc zero))))))) h = absurd (omega arith)
past_keys (suc (suc (suc (suc (suc (suc (suc (suc zero)))))))) h = absurd (omega arith)
past_keys (suc (suc (suc (suc (suc (suc (suc (suc (suc zero))))))))) h = absurd (omega arith)
past_keys (suc (suc (suc (suc (suc (suc (suc (suc (suc (suc zero)))))))))) h = absurd (omega arith)
past_keys (suc (suc (suc (suc (suc (suc (suc (suc (suc (suc (suc zero))))))))))) h = absurd (omega arith)
past_keys (suc (suc (suc (suc (suc (suc (suc (suc (suc (suc (suc (suc zero)))))))))))) h = absurd (omega arith)
past_keys (suc (suc (suc (suc (suc (suc (suc (suc (suc (suc (suc (suc (suc zero))))))))))))) h = absurd (omega arith)
past_keys (suc (suc (suc (suc (suc (suc (suc (suc (suc (suc (suc (suc (suc (suc zero)))))))))))))) h = absurd (omega arith)
past_keys (suc (suc (suc (suc (suc (suc (suc (suc (suc (suc (suc (suc (suc (suc (suc zero))))))))))))))) h = absurd (omega arith)
past_keys (suc (suc (suc (suc (suc (suc (suc (suc (suc (suc (suc (suc (suc (suc (suc (suc k)))))))))))))))) h = refl

sign_tok : (b : Name) (g : Bool) → look_up b sign_table la_odd ≡ lookahead_by (sign_code b) g
unfolding sign_code
sign_tok b g = look_nth b sign_table la_odd ∙ at_sign (index_of b sign_names) (index_le3 b sign_names)
  where
    index_le3 : (b : Name) (ks : List Name) → index_of b ks ≤ length ks
    index_le3 b [] = omega arith
    index_le3 b (k ∷ ks) = by_bool (λ x. pick x 0 (suc (index_of b ks)) ≤ suc (length ks)) (same b k) (λ e. omega arith) (λ e. omega (arith, index_le3 b ks))

    at_sign : (j : ℕ) → j ≤ 13 → nth_lookahead j sign_table la_odd ≡ lookahead_by (32 + j) g
    at_sign j h = let q : 32 + j - 32 ≡ j = omega arith in rw (eqb_no (32 + j) 47 (omega arith), leb_no 46 (32 + j) (omega arith), leb_yes 32 (32 + j) (omega arith), q)

data Bare2 (k : ℕ) : ℕ → Type 0 where
  q_key : k < 16 → Bare2 k (16 + k)
  q_none : 16 ≤ k → Bare2 k 0
  q_high : {c : ℕ} → 16 ≤ k → 46 ≤ c → (c ≡ 47 → ⊥) → Bare2 k c

q_pick : {k : ℕ} (x : Bool) → 16 ≤ k → Bare2 k (pick x 46 0)
q_pick true h = q_high h (omega arith) (λ e. omega arith)
q_pick false h = q_none h

q_set : {k : ℕ} (x : Bool) (o : Option Split) → 16 ≤ k → Bare2 k (assignment_code o (pick x 46 0))
q_set x none h = q_pick x h
q_set {k} x (some c) h = by_bool (λ y. Bare2 k (pick y (64 + length c.before) (pick x 46 0))) (valid_name c.before) (λ e. q_high h (omega arith) (λ e. omega arith)) (λ e. q_pick x h)

q_word : (k : ℕ) (b : List ℕ) → Bare2 k (word_code k b)
q_word k b = by_bool (λ x. leb 16 k ≡ x → Bare2 k (pick x (assignment_code (split_equals b []) (pick (valid_name b) 46 0)) (16 + k))) (leb 16 k) (λ e f. q_set (valid_name b) (split_equals b []) (leb→le 16 k (subst T (sym e) tt))) (λ e f. q_key (nleb→lt 16 k (subst (λ b. T (not b)) (sym e) tt))) refl

q_bare : (b : List ℕ) → Bare2 (keyword_index b) (bare_code b)
unfolding bare_code
q_bare b = q_word (keyword_index b) b

bare_tok : {k c : ℕ} (g : Bool) → Bare2 k c → pick g la_part (nth_lookahead k keyword_table la_part) ≡ lookahead_by c g
bare_tok {k} g (q_key h) = let q : 16 + k - 16 ≡ k = omega arith in rw (eqb_no (16 + k) 47 (omega arith), leb_no 46 (16 + k) (omega arith), leb_no 32 (16 + k) (omega arith), leb_yes 16 (16 + k) (omega arith), q)
bare_tok {k} true (q_none h) = refl
bare_tok {k} false (q_none h) = past_keys k h
bare_tok {k} {c} true (q_high h l e) = rw (eqb_no c 47 e, leb_yes 46 c l)
bare_tok {k} {c} false (q_high h l e) = rw (eqb_no c 47 e, leb_yes 46 c l) (past_keys k h)

tok_go_is : (g : Bool) (t : ℕ) (b : List ℕ) (s : Bool) → lookahead_of g t b s ≡ lookahead_by (token_code_of g t b) s
tok_go_is true zero b s = refl
tok_go_is true (suc zero) b s = refl
tok_go_is true (suc (suc zero)) b s = refl
tok_go_is true (suc (suc (suc zero))) b s = refl
tok_go_is true (suc (suc (suc (suc zero)))) b s = refl
tok_go_is true (suc (suc (suc (suc (suc zero))))) [] s = refl
tok_go_is true (suc (suc (suc (suc (suc zero))))) (c ∷ b) s = refl
tok_go_is true (suc (suc (suc (suc (suc (suc zero)))))) [] s = refl
tok_go_is true (suc (suc (suc (suc (suc (suc zero)))))) (c ∷ b) s = refl
tok_go_is true (suc (suc (suc (suc (suc (suc (suc t))))))) b s = refl
tok_go_is false zero b true = bare_tok true (q_bare b)
tok_go_is false zero b false = key_look b ∙ bare_tok false (q_bare b)
tok_go_is false (suc zero) b s = refl
tok_go_is false (suc (suc zero)) b s = refl
tok_go_is false (suc (suc (suc zero))) b s = refl
tok_go_is false (suc (suc (suc (suc zero)))) b s = sign_tok b s
tok_go_is false (suc (suc (suc (suc (suc zero))))) [] s = refl
tok_go_is false (suc (suc (suc (suc (suc zero))))) (c ∷ b) s = refl
tok_go_is false (suc (suc (suc (suc (suc (suc zero)))))) [] s = refl
tok_go_is false (suc (suc (suc (suc (suc (suc zero)))))) (c ∷ b) s = refl
tok_go_is false (suc (suc (suc (suc (suc (suc (suc t))))))) b s = refl

pub tok_is : (ps : List Token) → lookahead ps ≡ lookahead_by (code_at ps) (joins (code_at (after_first ps)))
tok_is [] = refl
tok_is (p ∷ r) = tok_go_is p.joined p.kind p.bytes (next_joined r) ∙ ap (lookahead_by (token_code p)) (glued_is r)

-- kept words
key_eq : (a b : Name) → keyword_index a ≡ keyword_index b → keyword_index b < 16 → a ≡ b
unfolding keyword_index
key_eq a b e l = same_eq a _ (index_at a reserved (index_of b reserved) e l) ∙ sym (same_eq b _ (index_at b reserved (index_of b reserved) refl l))

data Key (g : Bool) (t : ℕ) (b : List ℕ) (k : ℕ) : Type 0 where
  a_key : g ≡ false → t ≡ 0 → 16 + keyword_index b ≡ k → Key g t b k

from_q : {b : List ℕ} {c : ℕ} → Bare2 (keyword_index b) c → 16 ≤ c → c < 32 → Key false zero b c
from_q (q_key h) x y = a_key refl refl refl
from_q (q_none h) x y = absurd (omega arith)
from_q (q_high h l e) x y = absurd (omega arith)

key_go : (g : Bool) (t : ℕ) (b : List ℕ) → 16 ≤ token_code_of g t b → token_code_of g t b < 32 → Key g t b (token_code_of g t b)
key_go true zero b x y = absurd (omega arith)
key_go true (suc zero) b x y = absurd (omega arith)
key_go true (suc (suc zero)) b x y = absurd (omega arith)
key_go true (suc (suc (suc zero))) b x y = absurd (omega arith)
key_go true (suc (suc (suc (suc zero)))) b x y = absurd (omega arith)
key_go true (suc (suc (suc (suc (suc zero))))) [] x y = absurd (omega arith)
key_go true (suc (suc (suc (suc (suc zero))))) (c ∷ b) x y = absurd (omega arith)
key_go true (suc (suc (suc (suc (suc (suc zero)))))) [] x y = absurd (omega arith)
key_go true (suc (suc (suc (suc (suc (suc zero)))))) (c ∷ b) x y = absurd (omega arith)
key_go true (suc (suc (suc (suc (suc (suc (suc t))))))) b x y = absurd (omega arith)
key_go false zero b x y = from_q (q_bare b) x y
key_go false (suc zero) b x y = absurd (omega arith)
key_go false (suc (suc zero)) b x y = absurd (omega arith)
key_go false (suc (suc (suc zero))) b x y = absurd (omega arith)
key_go false (suc (suc (suc (suc zero)))) b x y = absurd (omega (arith, (sign_in b).0))
key_go false (suc (suc (suc (suc (suc zero))))) [] x y = absurd (omega arith)
key_go false (suc (suc (suc (suc (suc zero))))) (c ∷ b) x y = absurd (omega arith)
key_go false (suc (suc (suc (suc (suc (suc zero)))))) [] x y = absurd (omega arith)
key_go false (suc (suc (suc (suc (suc (suc zero)))))) (c ∷ b) x y = absurd (omega arith)
key_go false (suc (suc (suc (suc (suc (suc (suc t))))))) b x y = absurd (omega arith)

pub eat_key : (b : Name) (ps : List Token) → code_at ps ≡ 16 + keyword_index b → keyword_index b < 16 → expect (keyword b) ps ≡ some (after_first ps)
eat_key b [] e l = absurd (omega (arith, e))
eat_key b (p ∷ r) e l = go (key_go p.joined p.kind p.bytes (omega (arith, e)) (omega (arith, e)))
  where
    go : Key p.joined p.kind p.bytes (token_code p) → pick (same_token p (keyword b)) (some r) none ≡ some r
    go (a_key u v z) = rw (u, eqb_yes p.kind 0 v, key_eq p.bytes b (omega (arith, z, e)) l, same_re b)
