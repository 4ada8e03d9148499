-- Words that set names.
use Rattle.std.proofs.Common.{◌≡◌, ℕ, zero, suc, ◌+◌, ◌<◌, Bool, true, false, not, T, eqb, leb, List, [], ◌∷◌, ◌++◌, length, get_or, sym, refl, ap, ◌∙◌, subst, arith, eqb→eq}
use mathlib.Core.Option.{Option, some, none}
use lib.Dec.{nleb→lt}
use Rattle.std.proofs.lemmas.List.{append_assoc}
use Rattle.syntax.specs.Base.{pick, valid_name}
use Rattle.grammar.specs.Tokens.{Token}
use Rattle.grammar.specs.Grammar.{Split, split_equals, reserved}
use Rattle.grammar.specs.Parser.{split_ok, assignment_go, assignment_at}
use Rattle.lexer.specs.Stored.{index_of, keyword_index, bare_code, assignment_code, word_code, token_code_of, code_at}
use Rattle.grammar.proofs.Fit.{by_bool}
use Rattle.grammar.proofs.Find.{some_is}
use Rattle.reader.proofs.Basics.{not_none}
use Rattle.reader.proofs.Eats.{same_eq, index_at}
use Rattle.reader.proofs.Views.{sign_in}

pub cut_sound : (b acc : List ℕ) (c : Split) → split_equals b acc ≡ some c → acc ++ b ≡ c.before ++ (61 ∷ c.behind)
cut_sound [] acc c e = absurd (not_none e)
cut_sound (x ∷ b) acc c e = by_bool (λ y. eqb x 61 ≡ y → pick y (some (record { before = acc; behind = b })) (split_equals b (acc ++ (x ∷ []))) ≡ some c → acc ++ (x ∷ b) ≡ c.before ++ (61 ∷ c.behind)) (eqb x 61) (λ y z f. ap (λ k. acc ++ (k ∷ b)) (eqb→eq x 61 (subst T (sym y) tt)) ∙ ap (λ q. q.before ++ (61 ∷ q.behind)) (some_is f)) (λ y z f. sym (append_assoc acc (x ∷ []) b) ∙ cut_sound b (acc ++ (x ∷ [])) c f) refl e

kept_cut : (j : ℕ) → j < 16 → split_equals (get_or reserved j []) [] ≡ none
kept_cut zero h = refl
kept_cut (suc zero) h = refl
kept_cut (suc (suc zero)) h = refl
kept_cut (suc (suc (suc zero))) h = refl
kept_cut (suc (suc (suc (suc zero)))) h = refl
kept_cut (suc (suc (suc (suc (suc zero))))) h = refl
kept_cut (suc (suc (suc (suc (suc (suc zero)))))) h = refl
kept_cut (suc (suc (suc (suc (suc (suc (suc zero))))))) h = refl
kept_cut (suc (suc (suc (suc (suc (suc (suc (suc zero)))))))) h = refl
kept_cut (suc (suc (suc (suc (suc (suc (suc (suc (suc zero))))))))) h = refl
kept_cut (suc (suc (suc (suc (suc (suc (suc (suc (suc (suc zero)))))))))) h = refl
kept_cut (suc (suc (suc (suc (suc (suc (suc (suc (suc (suc (suc zero))))))))))) h = refl
kept_cut (suc (suc (suc (suc (suc (suc (suc (suc (suc (suc (suc (suc zero)))))))))))) h = refl
kept_cut (suc (suc (suc (suc (suc (suc (suc (suc (suc (suc (suc (suc (suc zero))))))))))))) h = refl
kept_cut (suc (suc (suc (suc (suc (suc (suc (suc (suc (suc (suc (suc (suc (suc zero)))))))))))))) h = refl
kept_cut (suc (suc (suc (suc (suc (suc (suc (suc (suc (suc (suc (suc (suc (suc (suc zero))))))))))))))) h = refl
kept_cut (suc (suc (suc (suc (suc (suc (suc (suc (suc (suc (suc (suc (suc (suc (suc (suc j)))))))))))))))) h = absurd (omega arith)

pub key_cut : (b : List ℕ) → keyword_index b < 16 → split_equals b [] ≡ none
unfolding keyword_index
key_cut b h = ap (λ z. split_equals z []) (same_eq b _ (index_at b reserved (index_of b reserved) refl h)) ∙ kept_cut (index_of b reserved) h

pub data Sets1 (b : List ℕ) : ℕ → Type 0 where
  no_set : {k : ℕ} → k < 64 → split_ok (split_equals b []) ≡ none → Sets1 b k
  a_set : {k : ℕ} (c : Split) → split_ok (split_equals b []) ≡ some c → k ≡ 64 + length c.before → b ≡ c.before ++ (61 ∷ c.behind) → Sets1 b k

low_pick : (x : Bool) → pick x 46 0 < 64
low_pick true = omega arith
low_pick false = omega arith

by_cut : (b : List ℕ) (d : ℕ) → d < 64 → (o : Option Split) → split_equals b [] ≡ o → Sets1 b (assignment_code o d)
by_cut b d h none e = no_set h (ap split_ok e)
by_cut b d h (some c) e = by_bool (λ x. valid_name c.before ≡ x → Sets1 b (pick x (64 + length c.before) d)) (valid_name c.before) (λ x y. a_set c (ap split_ok e ∙ ap (λ z. pick z (some c) none) x) refl (cut_sound b [] c e)) (λ x y. no_set h (ap split_ok e ∙ ap (λ z. pick z (some c) none) x)) refl

by_key : (b : List ℕ) → Sets1 b (word_code (keyword_index b) b)
by_key b = by_bool (λ x. leb 16 (keyword_index b) ≡ x → Sets1 b (pick x (assignment_code (split_equals b []) (pick (valid_name b) 46 0)) (16 + keyword_index b))) (leb 16 (keyword_index b)) (λ x y. by_cut b (pick (valid_name b) 46 0) (low_pick (valid_name b)) (split_equals b []) refl) (λ x y. let l = nleb→lt 16 (keyword_index b) (subst (λ b. T (not b)) (sym x) tt) in no_set (omega arith) (ap split_ok (key_cut b l))) refl

bare_sets : (b : List ℕ) → Sets1 b (bare_code b)
unfolding bare_code
bare_sets b = by_key b

abbrev pub bytes1 : List Token → List ℕ
bytes1 [] = []
bytes1 (p ∷ r) = p.bytes

abbrev pub tag1 : List Token → ℕ
tag1 [] = 9
tag1 (p ∷ r) = p.kind

pub data SetAt (ps : List Token) (k : ℕ) : Type 0 where
  none_at : k < 64 → assignment_at ps ≡ none → SetAt ps k
  some_at : (c : Split) → assignment_at ps ≡ some c → k ≡ 64 + length c.before → bytes1 ps ≡ c.before ++ (61 ∷ c.behind) → tag1 ps ≡ 0 → SetAt ps k

data SetGo (g : Bool) (t : ℕ) (b : List ℕ) : ℕ → Type 0 where
  g_none : {k : ℕ} → k < 64 → assignment_go g t b ≡ none → SetGo g t b k
  g_some : {k : ℕ} (c : Split) → assignment_go g t b ≡ some c → k ≡ 64 + length c.before → b ≡ c.before ++ (61 ∷ c.behind) → t ≡ 0 → SetGo g t b k

from_bare : {b : List ℕ} {k : ℕ} → Sets1 b k → SetGo false zero b k
from_bare (no_set l e) = g_none l e
from_bare (a_set c e f h) = g_some c e f h refl

set_go_is : (g : Bool) (t : ℕ) (b : List ℕ) → SetGo g t b (token_code_of g t b)
set_go_is true zero b = g_none (omega arith) refl
set_go_is true (suc zero) b = g_none (omega arith) refl
set_go_is true (suc (suc zero)) b = g_none (omega arith) refl
set_go_is true (suc (suc (suc zero))) b = g_none (omega arith) refl
set_go_is true (suc (suc (suc (suc zero)))) b = g_none (omega arith) refl
set_go_is true (suc (suc (suc (suc (suc zero))))) [] = g_none (omega arith) refl
set_go_is true (suc (suc (suc (suc (suc zero))))) (c ∷ b) = g_none (omega arith) refl
set_go_is true (suc (suc (suc (suc (suc (suc zero)))))) [] = g_none (omega arith) refl
set_go_is true (suc (suc (suc (suc (suc (suc zero)))))) (c ∷ b) = g_none (omega arith) refl
set_go_is true (suc (suc (suc (suc (suc (suc (suc t))))))) b = g_none (omega arith) refl
set_go_is false zero b = from_bare (bare_sets b)
set_go_is false (suc zero) b = g_none (omega arith) refl
set_go_is false (suc (suc zero)) b = g_none (omega arith) refl
set_go_is false (suc (suc (suc zero))) b = g_none (omega arith) refl
set_go_is false (suc (suc (suc (suc zero)))) b = g_none (omega (arith, (sign_in b).1)) refl
set_go_is false (suc (suc (suc (suc (suc zero))))) [] = g_none (omega arith) refl
set_go_is false (suc (suc (suc (suc (suc zero))))) (c ∷ b) = g_none (omega arith) refl
set_go_is false (suc (suc (suc (suc (suc (suc zero)))))) [] = g_none (omega arith) refl
set_go_is false (suc (suc (suc (suc (suc (suc zero)))))) (c ∷ b) = g_none (omega arith) refl
set_go_is false (suc (suc (suc (suc (suc (suc (suc t))))))) b = g_none (omega arith) refl

up : (p : Token) (r : List Token) {k : ℕ} → SetGo p.joined p.kind p.bytes k → SetAt (p ∷ r) k
up p r (g_none l e) = none_at l e
up p r (g_some c e f h z) = some_at c e f h z

pub set_is : (ps : List Token) → SetAt ps (code_at ps)
set_is [] = none_at (omega arith) refl
set_is (p ∷ r) = up p r (set_go_is p.joined p.kind p.bytes)
