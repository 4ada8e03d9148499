-- Which tokens have bytes of the text.
use Rattle.std.proofs.Common.{◌≡◌, ℕ, zero, suc, ◌+◌, ◌<◌, ◌≤◌, Bool, true, false, leb, List, [], ◌∷◌, length, Some, sym, refl, ap, ◌∙◌, arith, rules}
use mathlib.Core.Option.{Option, some, none}
use Rattle.syntax.specs.Base.{pick, Name, same, valid_name}
use Rattle.grammar.specs.Tokens.{Token}
use Rattle.grammar.specs.Grammar.{split_equals, Split, reserved}
use Rattle.grammar.proofs.Fit.{by_bool}
use Rattle.lexer.specs.declared.token.Bracket.{Bracket}
use Rattle.lexer.specs.declared.token.Bracket.TheVariants.{Opens}
use Rattle.lexer.specs.declared.token.Token.{Token as Value}
use Rattle.lexer.specs.Codes.{code_of, has_bytes, bracket_of, Fits}
use Rattle.lexer.specs.Stored.{index_of, sign_names, sign_code, keyword_index, bare_code, assignment_code, token_code, token_code_of}
use Rattle.std.proofs.lemmas.Bool.{le-leb, leb-false, lt-leb}

pub index_le : (b : Name) (ks : List Name) → index_of b ks ≤ length ks
index_le b [] = omega arith
index_le b (k ∷ ks) = by_bool (λ x. pick x 0 (suc (index_of b ks)) ≤ suc (length ks)) (same b k) (λ e. omega arith) (λ e. omega (arith, index_le b ks))

-- the codes of tokens whose bytes stand in the text
abbrev kept : ℕ → Bool
kept k = pick (leb 46 k) true (pick (leb 32 k) false (pick (leb 16 k) true (pick (leb 8 k) (leb k 11) (leb k 3))))

value_kept : (x : Value) → has_bytes x ≡ kept (code_of x)
value_kept x = search rules

kept_above : (k : ℕ) → 46 ≤ k → kept k ≡ true
kept_above k l = rw (le-leb 46 k l)

kept_between : (k : ℕ) → 16 ≤ k → k < 32 → kept k ≡ true
kept_between k l h = rw (lt-leb 46 k (omega arith), lt-leb 32 k h, le-leb 16 k l)

kept_sign : (k : ℕ) → 32 ≤ k → k < 46 → kept k ≡ false
kept_sign k l h = rw (lt-leb 46 k h, le-leb 32 k l)

assignment_kept : (o : Option Split) (d : ℕ) → kept d ≡ true → kept (assignment_code o d) ≡ true
assignment_kept none d h = h
assignment_kept (some c) d h = by_bool (λ x. kept (pick x (64 + length c.before) d) ≡ true) (valid_name c.before) (λ e. kept_above (64 + length c.before) (omega arith)) (λ e. h)

literal_kept : (b : Bool) → kept (pick b 46 0) ≡ true
literal_kept true = refl
literal_kept false = refl

bare_kept : (b : Name) → kept (bare_code b) ≡ true
unfolding bare_code keyword_index
bare_kept b = by_bool (λ x. leb 16 (index_of b reserved) ≡ x → kept (pick x (assignment_code (split_equals b []) (pick (valid_name b) 46 0)) (16 + index_of b reserved)) ≡ true) (leb 16 (index_of b reserved)) (λ x e. assignment_kept (split_equals b []) _ (literal_kept (valid_name b))) (λ x e. kept_between (16 + index_of b reserved) (omega arith) (omega (arith, leb-false 16 (index_of b reserved) e))) refl

sign_kept : (b : Name) → kept (sign_code b) ≡ false
unfolding sign_code
sign_kept b = kept_sign (32 + index_of b sign_names) (omega arith) (omega (arith, index_le b sign_names))

run_kept : (g d : Bool) (b : Name) → kept (token_code_of g (pick d 6 5) b) ≡ false
run_kept true true [] = refl
run_kept true true (c ∷ cs) = refl
run_kept true false [] = refl
run_kept true false (c ∷ cs) = refl
run_kept false true [] = refl
run_kept false true (c ∷ cs) = refl
run_kept false false [] = refl
run_kept false false (c ∷ cs) = refl

code_kept : (g : Bool) (k : ℕ) (b : Name) → kept (token_code_of g k b) ≡ leb k 3
code_kept true zero b = refl
code_kept false zero b = bare_kept b
code_kept true (suc zero) b = refl
code_kept false (suc zero) b = refl
code_kept true (suc (suc zero)) b = refl
code_kept false (suc (suc zero)) b = refl
code_kept true (suc (suc (suc zero))) b = refl
code_kept false (suc (suc (suc zero))) b = refl
code_kept true (suc (suc (suc (suc zero)))) b = refl
code_kept false (suc (suc (suc (suc zero)))) b = sign_kept b
code_kept g (suc (suc (suc (suc (suc zero))))) b = run_kept g false b
code_kept g (suc (suc (suc (suc (suc (suc zero)))))) b = run_kept g true b
code_kept true (suc (suc (suc (suc (suc (suc (suc k))))))) b = sym (lt-leb (suc (suc (suc (suc (suc (suc (suc k))))))) 3 (omega arith))
code_kept false (suc (suc (suc (suc (suc (suc (suc k))))))) b = sym (lt-leb (suc (suc (suc (suc (suc (suc (suc k))))))) 3 (omega arith))

-- a value with a token's code says whether the token has bytes
pub bytes_kind : (x : Value) (p : Token) → code_of x ≡ token_code p → has_bytes x ≡ leb p.kind 3
bytes_kind x p e = value_kept x ∙ (ap kept e ∙ code_kept p.joined p.kind p.bytes)

pub big_kind : {A : Type 0} (x : Value) (p : Token) → code_of x ≡ token_code p → has_bytes x ≡ false → p.kind ≤ 3 → A
big_kind x p e b k = absurd (omega (arith, k, leb-false p.kind 3 (sym (bytes_kind x p e) ∙ b)))

-- a bracket has none
pub bracket_bytes : (x : Value) (b : Bracket) → bracket_of x ≡ Some b → has_bytes x ≡ false
bracket_bytes x b e = search rules

pub bracket_fits : (x : Value) → bracket_of x ≡ Some Opens → Fits x
bracket_fits x e = search rules
