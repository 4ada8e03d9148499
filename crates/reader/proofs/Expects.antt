-- One known token, by its code.
use Rattle.std.proofs.Common.{◌≡◌, ℕ, ◌+◌, ◌<◌, ◌≤◌, List, [], ◌∷◌, codes, sym, refl, ap, ◌∙◌, arith}
use mathlib.Core.Option.{some, none}
use Rattle.syntax.specs.Base.{Name}
use Rattle.grammar.specs.Grammar.{sign, keyword, kw_when, kw_if, kw_then, kw_elif, kw_else, kw_fi, kw_while, kw_do, kw_done, kw_for, kw_in, kw_case, kw_esac, kw_open, kw_close, kw_not}
use Rattle.grammar.specs.Parser.{expect, after_first}
use Rattle.lexer.specs.Stored.{keyword_index, sign_code, tokens_from, code_at, Has}
use Rattle.lexer.proofs.Runs.{key_code}
use Rattle.reader.proofs.Views.{here}
use Rattle.reader.proofs.Eats.{eat_no, eat_sign}
use Rattle.reader.proofs.Toks.{eat_key}

is_when : keyword_index kw_when ≡ 0
unfolding keyword_index
is_when = refl

is_if : keyword_index kw_if ≡ 1
unfolding keyword_index
is_if = refl

is_then : keyword_index kw_then ≡ 2
unfolding keyword_index
is_then = refl

is_elif : keyword_index kw_elif ≡ 3
unfolding keyword_index
is_elif = refl

is_else : keyword_index kw_else ≡ 4
unfolding keyword_index
is_else = refl

is_fi : keyword_index kw_fi ≡ 5
unfolding keyword_index
is_fi = refl

is_while : keyword_index kw_while ≡ 6
unfolding keyword_index
is_while = refl

is_do : keyword_index kw_do ≡ 7
unfolding keyword_index
is_do = refl

is_done : keyword_index kw_done ≡ 8
unfolding keyword_index
is_done = refl

is_for : keyword_index kw_for ≡ 9
unfolding keyword_index
is_for = refl

is_in : keyword_index kw_in ≡ 10
unfolding keyword_index
is_in = refl

is_case : keyword_index kw_case ≡ 11
unfolding keyword_index
is_case = refl

is_esac : keyword_index kw_esac ≡ 12
unfolding keyword_index
is_esac = refl

is_open : keyword_index kw_open ≡ 13
unfolding keyword_index
is_open = refl

is_close : keyword_index kw_close ≡ 14
unfolding keyword_index
is_close = refl

is_not : keyword_index kw_not ≡ 15
unfolding keyword_index
is_not = refl

is_semicolon_sign : sign_code (codes ";") ≡ 32
unfolding sign_code
is_semicolon_sign = refl

is_newline_sign : sign_code (10 ∷ []) ≡ 33
unfolding sign_code
is_newline_sign = refl

is_ampersand_sign : sign_code (codes "&") ≡ 34
unfolding sign_code
is_ampersand_sign = refl

is_pipe_sign : sign_code (codes "|") ≡ 35
unfolding sign_code
is_pipe_sign = refl

is_open_paren_sign : sign_code (codes "(") ≡ 40
unfolding sign_code
is_open_paren_sign = refl

is_close_paren_sign : sign_code (codes ")") ≡ 41
unfolding sign_code
is_close_paren_sign = refl

is_and_sign : sign_code (codes "&&") ≡ 42
unfolding sign_code
is_and_sign = refl

is_or_sign : sign_code (codes "||") ≡ 43
unfolding sign_code
is_or_sign = refl

is_double_semicolon_sign : sign_code (codes ";;") ≡ 44
unfolding sign_code
is_double_semicolon_sign = refl

module _ {t : List ℕ} {n : ℕ} {m : List ℕ} (h : Has t n m) (i : ℕ) where
  key_got : (b : Name) (j k : ℕ) → keyword_index b ≡ j → j < 16 → k ≡ 16 + j → i < n → code_at (tokens_from t i) ≡ k → expect (keyword b) (tokens_from t i) ≡ some (tokens_from t (i + 1))
  key_got b j k e l f z c = eat_key b (tokens_from t i) (omega (arith, c, e)) (omega (arith, e)) ∙ ap (λ ps. some (after_first ps)) (here i h z)

  key_none : (b : Name) (j k : ℕ) → keyword_index b ≡ j → j < 16 → k ≡ 16 + j → (code_at (tokens_from t i) ≡ k → ⊥) → expect (keyword b) (tokens_from t i) ≡ none
  key_none b j k e l f c = eat_no (keyword b) (tokens_from t i) (λ x. c (x ∙ (sym (key_code b (omega (arith, e))) ∙ omega (arith, e))))

  sign_got : (b : Name) (k : ℕ) → sign_code b ≡ k → 32 ≤ k → k ≤ 44 → i < n → code_at (tokens_from t i) ≡ k → expect (sign b) (tokens_from t i) ≡ some (tokens_from t (i + 1))
  sign_got b k e x y z c = eat_sign b (tokens_from t i) (c ∙ sym e) (omega (arith, e)) (omega (arith, e)) ∙ ap (λ ps. some (after_first ps)) (here i h z)

  sign_none : (b : Name) (k : ℕ) → sign_code b ≡ k → (code_at (tokens_from t i) ≡ k → ⊥) → expect (sign b) (tokens_from t i) ≡ none
  sign_none b k e c = eat_no (sign b) (tokens_from t i) (λ x. c (x ∙ e))

  pub got_when : i < n → code_at (tokens_from t i) ≡ 16 → expect (keyword kw_when) (tokens_from t i) ≡ some (tokens_from t (i + 1))
  got_when = key_got kw_when 0 16 is_when (omega arith) refl

  pub no_when : (code_at (tokens_from t i) ≡ 16 → ⊥) → expect (keyword kw_when) (tokens_from t i) ≡ none
  no_when = key_none kw_when 0 16 is_when (omega arith) refl

  pub got_if : i < n → code_at (tokens_from t i) ≡ 17 → expect (keyword kw_if) (tokens_from t i) ≡ some (tokens_from t (i + 1))
  got_if = key_got kw_if 1 17 is_if (omega arith) refl

  pub no_if : (code_at (tokens_from t i) ≡ 17 → ⊥) → expect (keyword kw_if) (tokens_from t i) ≡ none
  no_if = key_none kw_if 1 17 is_if (omega arith) refl

  pub got_then : i < n → code_at (tokens_from t i) ≡ 18 → expect (keyword kw_then) (tokens_from t i) ≡ some (tokens_from t (i + 1))
  got_then = key_got kw_then 2 18 is_then (omega arith) refl

  pub no_then : (code_at (tokens_from t i) ≡ 18 → ⊥) → expect (keyword kw_then) (tokens_from t i) ≡ none
  no_then = key_none kw_then 2 18 is_then (omega arith) refl

  pub got_elif : i < n → code_at (tokens_from t i) ≡ 19 → expect (keyword kw_elif) (tokens_from t i) ≡ some (tokens_from t (i + 1))
  got_elif = key_got kw_elif 3 19 is_elif (omega arith) refl

  pub no_elif : (code_at (tokens_from t i) ≡ 19 → ⊥) → expect (keyword kw_elif) (tokens_from t i) ≡ none
  no_elif = key_none kw_elif 3 19 is_elif (omega arith) refl

  pub got_else : i < n → code_at (tokens_from t i) ≡ 20 → expect (keyword kw_else) (tokens_from t i) ≡ some (tokens_from t (i + 1))
  got_else = key_got kw_else 4 20 is_else (omega arith) refl

  pub no_else_key : (code_at (tokens_from t i) ≡ 20 → ⊥) → expect (keyword kw_else) (tokens_from t i) ≡ none
  no_else_key = key_none kw_else 4 20 is_else (omega arith) refl

  pub got_fi : i < n → code_at (tokens_from t i) ≡ 21 → expect (keyword kw_fi) (tokens_from t i) ≡ some (tokens_from t (i + 1))
  got_fi = key_got kw_fi 5 21 is_fi (omega arith) refl

  pub no_fi : (code_at (tokens_from t i) ≡ 21 → ⊥) → expect (keyword kw_fi) (tokens_from t i) ≡ none
  no_fi = key_none kw_fi 5 21 is_fi (omega arith) refl

  pub got_while : i < n → code_at (tokens_from t i) ≡ 22 → expect (keyword kw_while) (tokens_from t i) ≡ some (tokens_from t (i + 1))
  got_while = key_got kw_while 6 22 is_while (omega arith) refl

  pub no_while : (code_at (tokens_from t i) ≡ 22 → ⊥) → expect (keyword kw_while) (tokens_from t i) ≡ none
  no_while = key_none kw_while 6 22 is_while (omega arith) refl

  pub got_do : i < n → code_at (tokens_from t i) ≡ 23 → expect (keyword kw_do) (tokens_from t i) ≡ some (tokens_from t (i + 1))
  got_do = key_got kw_do 7 23 is_do (omega arith) refl

  pub no_do : (code_at (tokens_from t i) ≡ 23 → ⊥) → expect (keyword kw_do) (tokens_from t i) ≡ none
  no_do = key_none kw_do 7 23 is_do (omega arith) refl

  pub got_done : i < n → code_at (tokens_from t i) ≡ 24 → expect (keyword kw_done) (tokens_from t i) ≡ some (tokens_from t (i + 1))
  got_done = key_got kw_done 8 24 is_done (omega arith) refl

  pub no_done : (code_at (tokens_from t i) ≡ 24 → ⊥) → expect (keyword kw_done) (tokens_from t i) ≡ none
  no_done = key_none kw_done 8 24 is_done (omega arith) refl

  pub got_for : i < n → code_at (tokens_from t i) ≡ 25 → expect (keyword kw_for) (tokens_from t i) ≡ some (tokens_from t (i + 1))
  got_for = key_got kw_for 9 25 is_for (omega arith) refl

  pub no_for : (code_at (tokens_from t i) ≡ 25 → ⊥) → expect (keyword kw_for) (tokens_from t i) ≡ none
  no_for = key_none kw_for 9 25 is_for (omega arith) refl

  pub got_in : i < n → code_at (tokens_from t i) ≡ 26 → expect (keyword kw_in) (tokens_from t i) ≡ some (tokens_from t (i + 1))
  got_in = key_got kw_in 10 26 is_in (omega arith) refl

  pub no_in : (code_at (tokens_from t i) ≡ 26 → ⊥) → expect (keyword kw_in) (tokens_from t i) ≡ none
  no_in = key_none kw_in 10 26 is_in (omega arith) refl

  pub got_case : i < n → code_at (tokens_from t i) ≡ 27 → expect (keyword kw_case) (tokens_from t i) ≡ some (tokens_from t (i + 1))
  got_case = key_got kw_case 11 27 is_case (omega arith) refl

  pub no_case : (code_at (tokens_from t i) ≡ 27 → ⊥) → expect (keyword kw_case) (tokens_from t i) ≡ none
  no_case = key_none kw_case 11 27 is_case (omega arith) refl

  pub got_esac : i < n → code_at (tokens_from t i) ≡ 28 → expect (keyword kw_esac) (tokens_from t i) ≡ some (tokens_from t (i + 1))
  got_esac = key_got kw_esac 12 28 is_esac (omega arith) refl

  pub no_esac : (code_at (tokens_from t i) ≡ 28 → ⊥) → expect (keyword kw_esac) (tokens_from t i) ≡ none
  no_esac = key_none kw_esac 12 28 is_esac (omega arith) refl

  pub got_open : i < n → code_at (tokens_from t i) ≡ 29 → expect (keyword kw_open) (tokens_from t i) ≡ some (tokens_from t (i + 1))
  got_open = key_got kw_open 13 29 is_open (omega arith) refl

  pub no_open : (code_at (tokens_from t i) ≡ 29 → ⊥) → expect (keyword kw_open) (tokens_from t i) ≡ none
  no_open = key_none kw_open 13 29 is_open (omega arith) refl

  pub got_close : i < n → code_at (tokens_from t i) ≡ 30 → expect (keyword kw_close) (tokens_from t i) ≡ some (tokens_from t (i + 1))
  got_close = key_got kw_close 14 30 is_close (omega arith) refl

  pub no_close : (code_at (tokens_from t i) ≡ 30 → ⊥) → expect (keyword kw_close) (tokens_from t i) ≡ none
  no_close = key_none kw_close 14 30 is_close (omega arith) refl

  pub got_not : i < n → code_at (tokens_from t i) ≡ 31 → expect (keyword kw_not) (tokens_from t i) ≡ some (tokens_from t (i + 1))
  got_not = key_got kw_not 15 31 is_not (omega arith) refl

  pub no_not : (code_at (tokens_from t i) ≡ 31 → ⊥) → expect (keyword kw_not) (tokens_from t i) ≡ none
  no_not = key_none kw_not 15 31 is_not (omega arith) refl

  pub got_semicolon_sign : i < n → code_at (tokens_from t i) ≡ 32 → expect (sign (codes ";")) (tokens_from t i) ≡ some (tokens_from t (i + 1))
  got_semicolon_sign = sign_got (codes ";") 32 is_semicolon_sign (omega arith) (omega arith)

  pub no_semicolon_sign : (code_at (tokens_from t i) ≡ 32 → ⊥) → expect (sign (codes ";")) (tokens_from t i) ≡ none
  no_semicolon_sign = sign_none (codes ";") 32 is_semicolon_sign

  pub got_newline_sign : i < n → code_at (tokens_from t i) ≡ 33 → expect (sign (10 ∷ [])) (tokens_from t i) ≡ some (tokens_from t (i + 1))
  got_newline_sign = sign_got (10 ∷ []) 33 is_newline_sign (omega arith) (omega arith)

  pub no_newline_sign : (code_at (tokens_from t i) ≡ 33 → ⊥) → expect (sign (10 ∷ [])) (tokens_from t i) ≡ none
  no_newline_sign = sign_none (10 ∷ []) 33 is_newline_sign

  pub got_ampersand_sign : i < n → code_at (tokens_from t i) ≡ 34 → expect (sign (codes "&")) (tokens_from t i) ≡ some (tokens_from t (i + 1))
  got_ampersand_sign = sign_got (codes "&") 34 is_ampersand_sign (omega arith) (omega arith)

  pub no_ampersand_sign : (code_at (tokens_from t i) ≡ 34 → ⊥) → expect (sign (codes "&")) (tokens_from t i) ≡ none
  no_ampersand_sign = sign_none (codes "&") 34 is_ampersand_sign

  pub got_pipe_sign : i < n → code_at (tokens_from t i) ≡ 35 → expect (sign (codes "|")) (tokens_from t i) ≡ some (tokens_from t (i + 1))
  got_pipe_sign = sign_got (codes "|") 35 is_pipe_sign (omega arith) (omega arith)

  pub no_pipe_sign : (code_at (tokens_from t i) ≡ 35 → ⊥) → expect (sign (codes "|")) (tokens_from t i) ≡ none
  no_pipe_sign = sign_none (codes "|") 35 is_pipe_sign

  pub got_open_paren_sign : i < n → code_at (tokens_from t i) ≡ 40 → expect (sign (codes "(")) (tokens_from t i) ≡ some (tokens_from t (i + 1))
  got_open_paren_sign = sign_got (codes "(") 40 is_open_paren_sign (omega arith) (omega arith)

  pub no_open_paren_sign : (code_at (tokens_from t i) ≡ 40 → ⊥) → expect (sign (codes "(")) (tokens_from t i) ≡ none
  no_open_paren_sign = sign_none (codes "(") 40 is_open_paren_sign

  pub got_close_paren_sign : i < n → code_at (tokens_from t i) ≡ 41 → expect (sign (codes ")")) (tokens_from t i) ≡ some (tokens_from t (i + 1))
  got_close_paren_sign = sign_got (codes ")") 41 is_close_paren_sign (omega arith) (omega arith)

  pub no_close_paren_sign : (code_at (tokens_from t i) ≡ 41 → ⊥) → expect (sign (codes ")")) (tokens_from t i) ≡ none
  no_close_paren_sign = sign_none (codes ")") 41 is_close_paren_sign

  pub got_and_sign : i < n → code_at (tokens_from t i) ≡ 42 → expect (sign (codes "&&")) (tokens_from t i) ≡ some (tokens_from t (i + 1))
  got_and_sign = sign_got (codes "&&") 42 is_and_sign (omega arith) (omega arith)

  pub no_and_sign : (code_at (tokens_from t i) ≡ 42 → ⊥) → expect (sign (codes "&&")) (tokens_from t i) ≡ none
  no_and_sign = sign_none (codes "&&") 42 is_and_sign

  pub got_or_sign : i < n → code_at (tokens_from t i) ≡ 43 → expect (sign (codes "||")) (tokens_from t i) ≡ some (tokens_from t (i + 1))
  got_or_sign = sign_got (codes "||") 43 is_or_sign (omega arith) (omega arith)

  pub no_or_sign : (code_at (tokens_from t i) ≡ 43 → ⊥) → expect (sign (codes "||")) (tokens_from t i) ≡ none
  no_or_sign = sign_none (codes "||") 43 is_or_sign

  pub got_double_semicolon_sign : i < n → code_at (tokens_from t i) ≡ 44 → expect (sign (codes ";;")) (tokens_from t i) ≡ some (tokens_from t (i + 1))
  got_double_semicolon_sign = sign_got (codes ";;") 44 is_double_semicolon_sign (omega arith) (omega arith)

  pub no_double_semicolon_sign : (code_at (tokens_from t i) ≡ 44 → ⊥) → expect (sign (codes ";;")) (tokens_from t i) ≡ none
  no_double_semicolon_sign = sign_none (codes ";;") 44 is_double_semicolon_sign
