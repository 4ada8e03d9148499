-- Whether a word may be a command's first, by its token and the next.
use Rattle.std.proofs.Common.{◌≡◌, ℕ, zero, suc, ◌+◌, ◌≤◌, Bool, true, false, not, ◌&&◌, ◌||◌, T, leb, List, [], ◌∷◌, length, sym, refl, ap, ◌∙◌, subst, arith, leb→le}
use mathlib.Core.Option.{Option, some, none}
use lib.Dec.{nleb→lt, leb-suc-suc}
use Rattle.syntax.specs.Base.{pick, opt, on_some, same, Name, valid_name}
use Rattle.syntax.specs.Tree.{WordPart, literal, Word, no_parts, and_part}
use Rattle.grammar.specs.Tokens.{Token}
use Rattle.grammar.specs.Grammar.{sign, Split, split_equals, is_assignment, reserved, listed}
use Rattle.grammar.specs.Parser.{Deeper, parse_part_go, parse_part, parse_more_go, parse_more, parse_word, next_joined, first_word_fits, parse_substitution, expect}
use Rattle.lexer.specs.Stored.{index_of, keyword_index, bare_code, assignment_code, word_code, token_code_of, token_code}
use Rattle.reader.specs.Reading.{may_be_first}
use Rattle.grammar.proofs.Fit.{by_bool}
use Rattle.grammar.proofs.Find.{some_is}
use Rattle.reader.proofs.Basics.{not_none}
use Rattle.lexer.proofs.Runs.{leb_no, leb_yes}
use Rattle.reader.proofs.Sets.{key_cut}

inv : {A C : Type 0} (o : Option A) (f : A → Option C) (z : C) → on_some o f ≡ some z → (x : A) × (o ≡ some x) × (f x ≡ some z)
inv none f z e = absurd (not_none e)
inv (some x) f z e = (x, refl, e)

listed_is : (b : Name) (ks : List Name) → listed b ks ≡ leb (suc (index_of b ks)) (length ks)
listed_is b [] = sym (leb_no 1 0 (omega arith))
listed_is b (k ∷ ks) = by_bool (λ x. x || listed b ks ≡ leb (suc (pick x 0 (suc (index_of b ks)))) (suc (length ks))) (same b k) (λ e. sym (leb_yes 1 (suc (length ks)) (omega arith))) (λ e. listed_is b ks ∙ sym (leb-suc-suc (suc (index_of b ks)) (length ks)))

pub key_listed : (b : List ℕ) → listed b reserved ≡ leb (suc (keyword_index b)) 16
unfolding keyword_index
key_listed b = listed_is b reserved

data First (b : List ℕ) : ℕ → Type 0 where
  f_key : {k : ℕ} → 16 ≤ k → k ≤ 31 → listed b reserved ≡ true → is_assignment b ≡ false → First b k
  f_set : {k : ℕ} → 64 ≤ k → is_assignment b ≡ true → First b k
  f_no : {k : ℕ} → (x : Bool) → k ≡ pick x 46 0 → listed b reserved ≡ false → is_assignment b ≡ false → First b k

by_sets : (b : List ℕ) (x : Bool) → listed b reserved ≡ false → (o : Option Split) → split_equals b [] ≡ o → First b (assignment_code o (pick x 46 0))
by_sets b x h none e = f_no x refl h (ap (λ o. opt o false (λ c. valid_name c.before)) e)
by_sets b x h (some c) e = by_bool (λ y. valid_name c.before ≡ y → First b (pick y (64 + length c.before) (pick x 46 0))) (valid_name c.before) (λ y z. f_set (omega arith) (ap (λ o. opt o false (λ c. valid_name c.before)) e ∙ y)) (λ y z. f_no x refl h (ap (λ o. opt o false (λ c. valid_name c.before)) e ∙ y)) refl

by_key1 : (b : List ℕ) → First b (word_code (keyword_index b) b)
by_key1 b = by_bool (λ x. leb 16 (keyword_index b) ≡ x → First b (pick x (assignment_code (split_equals b []) (pick (valid_name b) 46 0)) (16 + keyword_index b))) (leb 16 (keyword_index b)) (λ x y. by_sets b (valid_name b) (key_listed b ∙ leb_no (suc (keyword_index b)) 16 (omega (arith, leb→le 16 (keyword_index b) (subst T (sym x) tt)))) (split_equals b []) refl) (λ x y. let l = nleb→lt 16 (keyword_index b) (subst (λ b. T (not b)) (sym x) tt) in f_key (omega arith) (omega arith) (key_listed b ∙ leb_yes (suc (keyword_index b)) 16 l) (ap (λ o. opt o false (λ c. valid_name c.before)) (key_cut b l))) refl

bare_first : (b : List ℕ) → First b (bare_code b)
unfolding bare_code
bare_first b = by_key1 b

alone : {b : List ℕ} {k : ℕ} → First b k → not (listed b reserved) && not (is_assignment b) ≡ may_be_first k false
alone {b} {k} (f_key x y u v) = rw (u, leb_no 64 k (omega arith), leb_yes 16 k x, leb_yes k 31 y)
alone {b} {k} (f_set x v) = rw (v, leb_yes 64 k x) (and_f (not (listed b reserved)))
  where
    and_f : (b : Bool) → b && false ≡ false
    and_f true = refl
    and_f false = refl
alone (f_no true e u v) = rw (u, v, e)
alone (f_no false e u v) = rw (u, v, e)

longer : {b : List ℕ} {k : ℕ} → First b k → not (is_assignment b) ≡ may_be_first k true
longer {b} {k} (f_key x y u v) = rw (v, leb_no 64 k (omega arith), leb_yes 16 k x, leb_yes k 31 y)
longer {b} {k} (f_set x v) = rw (v, leb_yes 64 k x)
longer (f_no true e u v) = rw (v, e)
longer (f_no false e u v) = rw (v, e)

bare_word : (S : Deeper) (b : List ℕ) (r : List Token) (y : Word × List Token) → parse_more S r ≡ some y → first_word_fits (and_part (literal false b) y.0) ≡ may_be_first (bare_code b) (next_joined r)
bare_word S b r y e = by_bool (λ g. pick g (on_some (parse_part S r) (λ x. on_some (parse_more_go S (length r) x.1) (λ z. some (and_part x.0 z.0, z.1)))) (some (no_parts, r)) ≡ some y → first_word_fits (and_part (literal false b) y.0) ≡ may_be_first (bare_code b) g) (next_joined r) (λ g f. long f) (λ g f. ap (λ z. first_word_fits (and_part (literal false b) z.0)) (sym (some_is f)) ∙ alone (bare_first b)) e
  where
    long : on_some {A = WordPart × List Token} {C = Word × List Token} (parse_part S r) (λ x. on_some {A = Word × List Token} {C = Word × List Token} (parse_more_go S (length r) x.1) (λ z. some (and_part x.0 z.0, z.1))) ≡ some y → first_word_fits (and_part (literal false b) y.0) ≡ may_be_first (bare_code b) true
    long f =
        let i = inv (parse_part S r) _ y f in
        let j = inv (parse_more_go S (length r) i.0.1) _ y i.2 in
        ap (λ z. first_word_fits (and_part (literal false b) z.0)) (sym (some_is j.2)) ∙ longer (bare_first b)

-- the parts that are always first
abbrev Told : Deeper → ℕ → List ℕ → List Token → ℕ → Type 0
Told S t b r k = (x : WordPart × List Token) → parse_part_go S t b r ≡ some x → (y : Word × List Token) → parse_more S x.1 ≡ some y → first_word_fits (and_part x.0 y.0) ≡ may_be_first k (next_joined r)

runs_first : (S : Deeper) (q : Bool) (r : List Token) (x : WordPart × List Token) (w : Word) → parse_substitution S q [] r ≡ some x → first_word_fits (and_part x.0 w) ≡ true
runs_first S q r x w e =
    let i = inv (S.lists true r) _ x e in
    let j = inv (expect (sign (41 ∷ [])) i.0.1) _ x i.2 in
    ap (λ z. first_word_fits (and_part z.0 w)) (sym (some_is j.2))

told : (S : Deeper) (t : ℕ) (b : List ℕ) (r : List Token) → Told S t b r (token_code_of false t b)
told S zero b r x e y f = ap (λ z. first_word_fits (and_part z.0 y.0)) (sym (some_is e)) ∙ bare_word S b r y (ap (λ z. parse_more S z.1) (some_is e) ∙ f)
told S (suc zero) b r x e y f = ap (λ z. first_word_fits (and_part z.0 y.0)) (sym (some_is e))
told S (suc (suc zero)) b r x e y f = ap (λ z. first_word_fits (and_part z.0 y.0)) (sym (some_is e))
told S (suc (suc (suc zero))) b r x e y f = ap (λ z. first_word_fits (and_part z.0 y.0)) (sym (some_is e))
told S (suc (suc (suc (suc zero)))) b r x e y f = absurd (not_none e)
told S (suc (suc (suc (suc (suc zero))))) [] r x e y f = runs_first S false r x y.0 e
told S (suc (suc (suc (suc (suc zero))))) (c ∷ b) r x e y f = absurd (not_none e)
told S (suc (suc (suc (suc (suc (suc zero)))))) [] r x e y f = runs_first S true r x y.0 e
told S (suc (suc (suc (suc (suc (suc zero)))))) (c ∷ b) r x e y f = absurd (not_none e)
told S (suc (suc (suc (suc (suc (suc (suc t))))))) b r x e y f = absurd (not_none e)

pub first_is : (S : Deeper) (p : Token) (r : List Token) (w : Word) (q : List Token) → p.joined ≡ false → parse_word S (p ∷ r) ≡ some (w, q) → first_word_fits w ≡ may_be_first (token_code p) (next_joined r)
first_is S p r w q g e =
    let e1 : on_some {A = WordPart × List Token} {C = Word × List Token} (parse_part_go S p.kind p.bytes r) (λ x. on_some {A = Word × List Token} {C = Word × List Token} (parse_more S x.1) (λ y. some (and_part x.0 y.0, y.1))) ≡ some (w, q) = rw g at e in
    let i = inv (parse_part_go S p.kind p.bytes r) _ (w, q) e1 in
    let j = inv (parse_more S i.0.1) _ (w, q) i.2 in
    ap (λ z. first_word_fits z.0) (sym (some_is j.2)) ∙ (told S p.kind p.bytes r i.0 i.1 j.0 j.1 ∙ ap (λ s. may_be_first (token_code_of s p.kind p.bytes) (next_joined r)) (sym g))
