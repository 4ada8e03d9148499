-- Which command it is, by what stands ahead.
use Rattle.std.proofs.Common.{◌≡◌, ℕ, zero, suc, ◌+◌, ◌-◌, ◌<◌, ◌≤◌, Bool, true, false, ◌&&◌, T, eqb, leb, ◌≢◌, ◌⊎◌, List, [], ◌∷◌, length, get_or, sym, refl, ap, ◌∙◌, subst, inl, inr, arith, eqb→eq, leb→le}
use Rattle.std.proofs.lemmas.List.{drop_all, drop_more}
use Rattle.grammar.specs.Tokens.{Token, token}
use Rattle.grammar.specs.Parser.{Lookahead, la_end, la_odd, la_part, keyword_table, sign_table, lookahead, is_paren, function_at, after_first}
use Rattle.lexer.specs.Stored.{token_code_of, tokens_of, tokens_from, code_at, Has, sign_code, token_code}
use Rattle.grammar.proofs.Fit.{by_bool}
use Rattle.lexer.proofs.Next.{eqb_no, eqb_yes}
use Rattle.lexer.proofs.Runs.{leb_no, leb_yes}
use Rattle.syntax.specs.Base.{pick}
use Rattle.reader.specs.Reading.{joins, bare, lookahead_by, nth_lookahead}
use Rattle.reader.proofs.Basics.{lt_or}
use Rattle.reader.proofs.Views.{here, sign_in, Bare, b_none, b_name, b_key, b_set, bare_in}
use Rattle.reader.proofs.Toks.{tok_is}

pub after_from : (t : List ℕ) (i : ℕ) → after_first (tokens_from t i) ≡ tokens_from t (i + 1)
after_from t i = go (lt_or i (length (tokens_of t)))
  where
    go : (i < length (tokens_of t)) ⊎ (length (tokens_of t) ≤ i) → after_first (tokens_from t i) ≡ tokens_from t (i + 1)
    go (inl l) = ap after_first (drop_more (tokens_of t) i (token false 0 []) l)
    go (inr l) = ap after_first (drop_all i (tokens_of t) l) ∙ sym (drop_all (i + 1) (tokens_of t) (omega arith))

pub look_is : (t : List ℕ) (i : ℕ) (l : Lookahead) (k : ℕ) (g : Bool) (k2 : ℕ) → l ≡ lookahead_by k g → k ≡ code_at (tokens_from t i) → g ≡ joins k2 → k2 ≡ code_at (tokens_from t (i + 1)) → l ≡ lookahead (tokens_from t i)
look_is t i l k g k2 e f h q = e ∙ (ap (λ z. lookahead_by z g) f ∙ (ap (lookahead_by (code_at (tokens_from t i))) (h ∙ (ap joins q ∙ ap (λ ps. joins (code_at ps)) (sym (after_from t i)))) ∙ sym (tok_is (tokens_from t i))))

sign_paren : (j : ℕ) → j ≢ 8 → is_paren (nth_lookahead j sign_table la_odd) ≡ false
sign_paren zero h = refl
sign_paren (suc zero) h = refl
sign_paren (suc (suc zero)) h = refl
sign_paren (suc (suc (suc zero))) h = refl
sign_paren (suc (suc (suc (suc zero)))) h = refl
sign_paren (suc (suc (suc (suc (suc zero))))) h = refl
sign_paren (suc (suc (suc (suc (suc (suc zero)))))) h = refl
sign_paren (suc (suc (suc (suc (suc (suc (suc zero))))))) h = refl
sign_paren (suc (suc (suc (suc (suc (suc (suc (suc zero)))))))) h = absurd (h refl)
sign_paren (suc (suc (suc (suc (suc (suc (suc (suc (suc zero))))))))) h = refl
sign_paren (suc (suc (suc (suc (suc (suc (suc (suc (suc (suc zero)))))))))) h = refl
sign_paren (suc (suc (suc (suc (suc (suc (suc (suc (suc (suc (suc zero))))))))))) h = refl
sign_paren (suc (suc (suc (suc (suc (suc (suc (suc (suc (suc (suc (suc zero)))))))))))) h = refl
sign_paren (suc (suc (suc (suc (suc (suc (suc (suc (suc (suc (suc (suc (suc j))))))))))))) h = refl

key_paren : (j : ℕ) → is_paren (nth_lookahead j keyword_table la_part) ≡ false
key_paren zero = refl
key_paren (suc zero) = refl
key_paren (suc (suc zero)) = refl
key_paren (suc (suc (suc zero))) = refl
key_paren (suc (suc (suc (suc zero)))) = refl
key_paren (suc (suc (suc (suc (suc zero))))) = refl
key_paren (suc (suc (suc (suc (suc (suc zero)))))) = refl
key_paren (suc (suc (suc (suc (suc (suc (suc zero))))))) = refl
key_paren (suc (suc (suc (suc (suc (suc (suc (suc zero)))))))) = refl
key_paren (suc (suc (suc (suc (suc (suc (suc (suc (suc zero))))))))) = refl
key_paren (suc (suc (suc (suc (suc (suc (suc (suc (suc (suc zero)))))))))) = refl
key_paren (suc (suc (suc (suc (suc (suc (suc (suc (suc (suc (suc zero))))))))))) = refl
key_paren (suc (suc (suc (suc (suc (suc (suc (suc (suc (suc (suc (suc zero)))))))))))) = refl
key_paren (suc (suc (suc (suc (suc (suc (suc (suc (suc (suc (suc (suc (suc zero))))))))))))) = refl
key_paren (suc (suc (suc (suc (suc (suc (suc (suc (suc (suc (suc (suc (suc (suc zero)))))))))))))) = refl
key_paren (suc (suc (suc (suc (suc (suc (suc (suc (suc (suc (suc (suc (suc (suc (suc zero))))))))))))))) = refl
key_paren (suc (suc (suc (suc (suc (suc (suc (suc (suc (suc (suc (suc (suc (suc (suc (suc j)))))))))))))))) = refl

pick_paren : (b : Bool) (x y : Lookahead) → is_paren x ≡ false → is_paren y ≡ false → is_paren (pick b x y) ≡ false
pick_paren true x y e f = e
pick_paren false x y e f = f

sign_range : (k : ℕ) → k ≢ 40 → (b : Bool) → leb 32 k ≡ b → (y : Lookahead) → is_paren y ≡ false → is_paren (pick b (nth_lookahead (k - 32) sign_table la_odd) y) ≡ false
sign_range k h true e y f = sign_paren (k - 32) (omega (arith, leb→le 32 k (subst T (sym e) tt)))
sign_range k h false e y f = f

not_paren : (k : ℕ) (g : Bool) → k ≢ 40 → is_paren (lookahead_by k g) ≡ false
not_paren k g h = pick_paren (eqb k 47) la_end _ refl (pick_paren (leb 46 k) la_part _ refl (sign_range k h (leb 32 k) refl _ (pick_paren (leb 16 k) _ _ (pick_paren g la_part _ refl (key_paren (k - 16))) (pick_paren (leb 7 k) la_odd la_part refl refl))))

-- a bracket stands ahead exactly if its code does
pub paren_is : (ps : List Token) → is_paren (lookahead ps) ≡ eqb (code_at ps) 40
paren_is ps = ap is_paren (tok_is ps) ∙ by_code (code_at ps) (joins (code_at (after_first ps)))
  where
    by_code : (k : ℕ) (g : Bool) → is_paren (lookahead_by k g) ≡ eqb k 40
    by_code k g = by_bool (λ x. eqb k 40 ≡ x → is_paren (lookahead_by k g) ≡ x) (eqb k 40) (λ e f. ap (λ z. is_paren (lookahead_by z g)) (eqb→eq k 40 (subst T (sym e) tt))) (λ e f. not_paren k g (λ z. absurd (subst T (sym (eqb_yes k 40 z) ∙ e) tt))) refl

bare_bare : {k : ℕ} → Bare k → bare k ≡ true
bare_bare b_none = refl
bare_bare b_name = refl
bare_bare (b_key {k} a b) = rw (eqb_no k 0 (omega arith), eqb_no k 8 (omega arith), leb_yes 16 k a, leb_yes k 31 (omega arith))
bare_bare (b_set {k} a) = rw (eqb_no k 0 (omega arith), eqb_no k 8 (omega arith), leb_no k 31 (omega arith), leb_yes 16 k (omega arith), eqb_no k 46 (omega arith), leb_yes 64 k a)

sign_bare : (k : ℕ) → 32 ≤ k → k ≤ 45 → bare k ≡ false
sign_bare k a b = rw (eqb_no k 0 (omega arith), eqb_no k 8 (omega arith), leb_no k 31 (omega arith), leb_yes 16 k (omega arith), eqb_no k 46 (omega arith), leb_no 64 k (omega arith))

kind_0 : (g : Bool) (t : ℕ) (b : List ℕ) → eqb t 0 ≡ bare (token_code_of g t b)
kind_0 true zero b = refl
kind_0 true (suc zero) b = refl
kind_0 true (suc (suc zero)) b = refl
kind_0 true (suc (suc (suc zero))) b = refl
kind_0 true (suc (suc (suc (suc zero)))) b = refl
kind_0 true (suc (suc (suc (suc (suc zero))))) [] = refl
kind_0 true (suc (suc (suc (suc (suc zero))))) (c ∷ b) = refl
kind_0 true (suc (suc (suc (suc (suc (suc zero)))))) [] = refl
kind_0 true (suc (suc (suc (suc (suc (suc zero)))))) (c ∷ b) = refl
kind_0 true (suc (suc (suc (suc (suc (suc (suc t))))))) b = eqb_no (suc (suc (suc (suc (suc (suc (suc t))))))) 0 (omega arith)
kind_0 false zero b = sym (bare_bare (bare_in b))
kind_0 false (suc zero) b = refl
kind_0 false (suc (suc zero)) b = refl
kind_0 false (suc (suc (suc zero))) b = refl
kind_0 false (suc (suc (suc (suc zero)))) b = sym (sign_bare (sign_code b) (sign_in b).0 (sign_in b).1)
kind_0 false (suc (suc (suc (suc (suc zero))))) [] = refl
kind_0 false (suc (suc (suc (suc (suc zero))))) (c ∷ b) = refl
kind_0 false (suc (suc (suc (suc (suc (suc zero)))))) [] = refl
kind_0 false (suc (suc (suc (suc (suc (suc zero)))))) (c ∷ b) = refl
kind_0 false (suc (suc (suc (suc (suc (suc (suc t))))))) b = eqb_no (suc (suc (suc (suc (suc (suc (suc t))))))) 0 (omega arith)

pub function_is : (t : List ℕ) (n i : ℕ) {m : List ℕ} → Has t n m → i < n → function_at (tokens_from t i) ≡ bare (code_at (tokens_from t i)) && eqb (code_at (tokens_from t (i + 1))) 40
function_is t n i h l =
    let p = get_or (tokens_of t) i (token false 0 []) in
    ap function_at (here i h l) ∙ (ap (λ x. x && is_paren (lookahead (tokens_from t (i + 1)))) (kind_0 p.joined p.kind p.bytes) ∙ (ap (λ x. bare (token_code p) && x) (paren_is (tokens_from t (i + 1))) ∙ ap (λ ps. bare (code_at ps) && eqb (code_at (tokens_from t (i + 1))) 40) (sym (here i h l))))
