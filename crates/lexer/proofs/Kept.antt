-- The words of a token.
use Rattle.std.proofs.Common.{◌≡◌, ◌≢◌, ℕ, ◌+◌, ◌*◌, ◌<◌, ◌≤◌, true, false, T, List, [], length, get_or, sym, refl, ap, ◌∙◌, subst, ⊎_elim, arith, rules, leb→le}
use Rattle.std.proofs.Math.ListN.{drop_of_length-le}
use Rattle.std.proofs.lemmas.Bool.{cases_lt}
use Rattle.std.specs.Result.{result_ok}
use Rattle.std.specs.declared.result.Result.{Result}
use Rattle.std.specs.declared.result.Result.TheVariants.{Ok, Err}
use Rattle.grammar.specs.Tokens.{Token, token}
use Rattle.lexer.specs.declared.token.Token.{Token as Value}
use Rattle.lexer.specs.declared.codes.UnknownCode.{UnknownCode}
use Rattle.lexer.specs.Codes.{code_of, next_code, has_bytes, Decodes}
use Rattle.lexer.specs.Stored.{token_code, code_at, tokens_of, tokens_from, Has}
use Rattle.lexer.proofs.Coding.{here_coded, decoded}
use Rattle.lexer.proofs.WithBytes.{bytes_kind, big_kind}
use Rattle.lexer.proofs.Lexing.{here}

no_code : (x : Value) → code_of x ≢ 47
no_code x = search rules

-- behind the last token there is none
none_behind : (r : Result Value UnknownCode) → Decodes 47 r → next_code (result_ok r) ≡ 47
none_behind (Ok x) d = absurd (no_code x d)
none_behind (Err e) d = refl

-- what stands at a place is read again by its code
pub read_back : {t : List ℕ} {n : ℕ} {m : List ℕ} (i : ℕ) → Has t n m → (r : Result Value UnknownCode) → Decodes (code_at (tokens_from t i)) r → next_code (result_ok r) ≡ code_at (tokens_from t i)
read_back {t} {n} i h r d = ⊎_elim
    (λ (l : i < n). decoded (code_at (tokens_from t i)) r d (here_coded t i (omega (arith, h.count))))
    (λ (l : n ≤ i). let e : code_at (tokens_from t i) ≡ 47 = ap code_at (drop_of_length-le (tokens_of t) (omega (arith, h.count))) in none_behind r (subst (λ k. Decodes k r) e d) ∙ sym e)
    (cases_lt i n)

-- the words of the token i of a text
module _ {t : List ℕ} {n : ℕ} {m : List ℕ} (h : Has t n m) (i : ℕ) (l : i < n) where
  abbrev p : Token
  p = get_or (tokens_of t) i (token false 0 [])

  code_is : code_at (tokens_from t i) ≡ token_code p
  unfolding tokens_of
  code_is = ap code_at (here i h l)

  pub starts : get_or m (3 * i + 4) 0 ≤ length t
  starts = let e : 3 * i + 3 + 1 ≡ 3 * i + 4 = omega arith in subst (λ k. get_or m k 0 ≤ length t) e (h.stored i (omega (arith, h.count))).2.0

  pub ends : (x : Value) → code_of x ≡ code_at (tokens_from t i) → true ≡ has_bytes x → get_or m (3 * i + 4) 0 + get_or m (3 * i + 5) 0 ≤ length t
  ends x e b =
      let q : 3 * i + 3 + 1 ≡ 3 * i + 4 = omega arith in
      let r : 3 * i + 3 + 2 ≡ 3 * i + 5 = omega arith in
      subst (λ k. get_or m (3 * i + 4) 0 + get_or m k 0 ≤ length t) r (subst (λ k. get_or m k 0 + get_or m (3 * i + 3 + 2) 0 ≤ length t) q ((h.stored i (omega (arith, h.count))).2.1 (leb→le p.kind 3 (subst T (b ∙ bytes_kind x p (e ∙ code_is)) tt))))

  pub unkept : {A : Type 0} (x : Value) → code_of x ≡ code_at (tokens_from t i) → false ≡ has_bytes x → p.kind ≤ 3 → A
  unkept x e b k = big_kind x p (e ∙ code_is) (sym b) k

  pub one_there : {A : Type 0} → 47 ≡ code_at (tokens_from t i) → A
  one_there e = let c = here_coded t i (omega (arith, h.count)) in absurd (no_code c.value (c.code ∙ sym e))
