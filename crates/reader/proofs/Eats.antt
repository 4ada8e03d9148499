-- Known tokens, by their numbers.
use Rattle.std.proofs.Common.{◌≡◌, ℕ, zero, suc, ◌<◌, ◌≤◌, Bool, true, false, ◌&&◌, T, eqb, ◌≢◌, List, [], ◌∷◌, length, get_or, sym, refl, ap, ◌∙◌, subst, arith, eqb→eq, rules}
use mathlib.Core.Option.{some, none}
use Rattle.syntax.specs.Base.{pick, same, Name}
use Rattle.grammar.specs.Tokens.{Token}
use Rattle.grammar.specs.Grammar.{sign}
use Rattle.grammar.specs.Parser.{same_flag, same_token, expect, after_first}
use Rattle.lexer.specs.Stored.{index_of, sign_names, sign_code, token_code_of, token_code, code_at}
use Rattle.grammar.proofs.Fit.{by_bool}
use Rattle.lexer.proofs.Next.{eqb_yes}
use Rattle.reader.proofs.Views.{Bare, b_none, b_name, b_key, b_set, bare_in}
use Rattle.std.proofs.lemmas.Slice.Eq.{compares_Decides}

pub same_eq : (a b : Name) → same a b ≡ true → a ≡ b
same_eq a b e = (compares_Decides same (search rules) a b).0 e

pub same_re : (a : Name) → same a a ≡ true
same_re a = (compares_Decides same (search rules) a a).1 refl

and_2 : (a b : Bool) → a && b ≡ true → (a ≡ true) × (b ≡ true)
and_2 true b e = (refl, e)
and_2 false b e = absurd (subst T (sym e) tt)

same1_eq : (a b : Bool) → same_flag a b ≡ true → a ≡ b
same1_eq true b e = sym e
same1_eq false true e = e
same1_eq false false e = refl

code_same : (p q : Token) → same_token p q ≡ true → token_code p ≡ token_code q
code_same p q e =
    let a = and_2 (same_flag p.joined q.joined) _ e in
    let b = and_2 (eqb p.kind q.kind) _ a.1 in
    let x = same1_eq p.joined q.joined a.0 in
    let y = eqb→eq p.kind q.kind (subst T (sym b.0) tt) in
    let z = same_eq p.bytes q.bytes b.1 in
    ap (λ g. token_code_of g p.kind p.bytes) x ∙ (ap (λ k. token_code_of q.joined k p.bytes) y ∙ ap (λ b. token_code_of q.joined q.kind b) z)

pub eat_no : (q : Token) (ps : List Token) → code_at ps ≢ token_code q → expect q ps ≡ none
eat_no q [] h = refl
eat_no q (p ∷ r) h = by_bool (λ b. same_token p q ≡ b → pick b (some r) none ≡ none) (same_token p q) (λ e f. absurd (h (code_same p q e))) (λ e f. refl) refl

pub code_41 : sign_code (41 ∷ []) ≡ 41
unfolding sign_code
code_41 = refl

pub index_at : (b : Name) (ks : List Name) (j : ℕ) → index_of b ks ≡ j → j < length ks → same b (get_or ks j []) ≡ true
index_at b [] j e l = absurd (omega arith)
index_at b (k ∷ ks) zero e l = by_bool (λ x. pick x 0 (suc (index_of b ks)) ≡ 0 → x ≡ true) (same b k) (λ x y. refl) (λ x y. absurd (omega arith)) e
index_at b (k ∷ ks) (suc j) e l = index_at b ks j (by_bool (λ x. pick x 0 (suc (index_of b ks)) ≡ suc j → index_of b ks ≡ j) (same b k) (λ x y. absurd (omega arith)) (λ x y. omega arith) e) (omega arith)

sign_eq : (a b : Name) → sign_code a ≡ sign_code b → sign_code b ≤ 44 → a ≡ b
unfolding sign_code
sign_eq a b e l = same_eq a _ (index_at a sign_names (index_of b sign_names) (omega arith) (omega arith)) ∙ sym (same_eq b _ (index_at b sign_names (index_of b sign_names) refl (omega arith)))

-- a number of a sign is that of no other token
data Sign (g : Bool) (t : ℕ) (b : List ℕ) (k : ℕ) : Type 0 where
  a_sign : g ≡ false → t ≡ 4 → sign_code b ≡ k → Sign g t b k

bare_no : {A : Type 0} {k : ℕ} → Bare k → 32 ≤ k → k ≤ 44 → A
bare_no b_none x y = absurd (omega arith)
bare_no b_name x y = absurd (omega arith)
bare_no (b_key a b) x y = absurd (omega arith)
bare_no (b_set a) x y = absurd (omega arith)

sign_go : (g : Bool) (t : ℕ) (b : List ℕ) → 32 ≤ token_code_of g t b → token_code_of g t b ≤ 44 → Sign g t b (token_code_of g t b)
sign_go true zero b x y = absurd (omega arith)
sign_go true (suc zero) b x y = absurd (omega arith)
sign_go true (suc (suc zero)) b x y = absurd (omega arith)
sign_go true (suc (suc (suc zero))) b x y = absurd (omega arith)
sign_go true (suc (suc (suc (suc zero)))) b x y = absurd (omega arith)
sign_go true (suc (suc (suc (suc (suc zero))))) [] x y = absurd (omega arith)
sign_go true (suc (suc (suc (suc (suc zero))))) (c ∷ b) x y = absurd (omega arith)
sign_go true (suc (suc (suc (suc (suc (suc zero)))))) [] x y = absurd (omega arith)
sign_go true (suc (suc (suc (suc (suc (suc zero)))))) (c ∷ b) x y = absurd (omega arith)
sign_go true (suc (suc (suc (suc (suc (suc (suc t))))))) b x y = absurd (omega arith)
sign_go false zero b x y = bare_no (bare_in b) x y
sign_go false (suc zero) b x y = absurd (omega arith)
sign_go false (suc (suc zero)) b x y = absurd (omega arith)
sign_go false (suc (suc (suc zero))) b x y = absurd (omega arith)
sign_go false (suc (suc (suc (suc zero)))) b x y = a_sign refl refl refl
sign_go false (suc (suc (suc (suc (suc zero))))) [] x y = absurd (omega arith)
sign_go false (suc (suc (suc (suc (suc zero))))) (c ∷ b) x y = absurd (omega arith)
sign_go false (suc (suc (suc (suc (suc (suc zero)))))) [] x y = absurd (omega arith)
sign_go false (suc (suc (suc (suc (suc (suc zero)))))) (c ∷ b) x y = absurd (omega arith)
sign_go false (suc (suc (suc (suc (suc (suc (suc t))))))) b x y = absurd (omega arith)

pub eat_sign : (b : Name) (ps : List Token) → code_at ps ≡ sign_code b → 32 ≤ sign_code b → sign_code b ≤ 44 → expect (sign b) ps ≡ some (after_first ps)
eat_sign b [] e x y = absurd (omega (arith, no47 b e y))
  where
    no47 : (b : Name) → 47 ≡ sign_code b → sign_code b ≤ 44 → 1 ≤ 0
    no47 b e y = omega (arith, e)
eat_sign b (p ∷ r) e x y = go (sign_go p.joined p.kind p.bytes (omega (arith, e)) (omega (arith, e)))
  where
    go : Sign p.joined p.kind p.bytes (token_code p) → pick (same_token p (sign b)) (some r) none ≡ some r
    go (a_sign u v z) = rw (u, eqb_yes p.kind 4 v, sign_eq p.bytes b (z ∙ e) y, same_re b)
