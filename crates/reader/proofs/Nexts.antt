-- What the next token says by its code.
use Rattle.std.proofs.Common.{◌≡◌, ℕ, ◌+◌, ◌<◌, ◌≤◌, Bool, true, false, ◌≢◌, ◌⊎◌, ◌||◌, nat_eq, [], ◌∷◌, ◌↔◌, IsTrue, List, sym, refl, ap, ◌∙◌, eqb, inl, inr, arith, rules}
use Rattle.syntax.specs.Base.{pick}
use Rattle.lexer.specs.declared.token.Sign.{Sign}
use Rattle.code.specs.declared.tags.RedirectTag.{RedirectTag}
use Rattle.code.specs.declared.tags.PartTag.{PartTag}
use Rattle.lexer.specs.Codes.{sign_code_of, redirect_code, part_code, is_substitution}
use Rattle.lexer.specs.Stored.{Has, tokens_from, code_at}
use Rattle.lexer.proofs.Lexing.{code_out}
use Rattle.lexer.specs.declared.token.Sign.TheVariants.{Semicolon, Newline, Ampersand, Pipe, Redirect, OpenParen, CloseParen, And, Or, DoubleSemicolon}
use Rattle.code.specs.declared.tags.RedirectTag.TheVariants.{Input, Output, Append, Here}
use Rattle.std.specs.List.{list_any}
use Rattle.syntax.specs.Stage.{has_wildcard}
use Rattle.lexer.proofs.Next.{eqb_no, eqb_yes}
use Rattle.lexer.specs.declared.token.Keyword.TheVariants.{When, If, Then, Elif, Else, Fi, While, Do, Done, For, In, Case, Esac, OpenBrace, CloseBrace, Not}
use Rattle.grammar.specs.Parser.{is_newline, is_not}
use Rattle.reader.specs.declared.ahead.Ahead.{Ahead}
use Rattle.reader.specs.declared.ahead.Ahead.TheVariants.{End, Odd, Part, Keyword as Kept, Sign as Signed}
use Rattle.reader.specs.Aheads.{HasCode, la_of, la_sign_of}
use Rattle.code.specs.Layout.{flag}
use mir.Val.{bool_byte as from_bool}
use Rattle.reader.specs.Reading.{lookahead_by, part_tag}
use Rattle.reader.proofs.Basics.{lt_or, not_true, true_false}

-- a token whose code is not that of the end stands among the n
pub before : {t : List ℕ} {n : ℕ} {m : List ℕ} (i : ℕ) → Has t n m → code_at (tokens_from t i) ≢ 47 → i < n
before {n = n} i h e = go (lt_or i n)
  where
    go : (i < n) ⊎ (n ≤ i) → i < n
    go (inl l) = l
    go (inr l) = absurd (e (sym (code_out i h l)))

pub redirect_range : (r : RedirectTag) → redirect_code r ≤ 3
redirect_range r = search rules

pub sign_ahead : (s : Sign) (g : Bool) → la_sign_of s ≡ lookahead_by (sign_code_of s) g
sign_ahead Semicolon g = refl
sign_ahead Newline g = refl
sign_ahead Ampersand g = refl
sign_ahead Pipe g = refl
sign_ahead (Redirect Input) g = refl
sign_ahead (Redirect Output) g = refl
sign_ahead (Redirect Append) g = refl
sign_ahead (Redirect Here) g = refl
sign_ahead OpenParen g = refl
sign_ahead CloseParen g = refl
sign_ahead And g = refl
sign_ahead Or g = refl
sign_ahead DoubleSemicolon g = refl

pub answer_is : (b : Bool) (k j : ℕ) → IsTrue b ↔ (k ≡ j) → b ≡ eqb k j
answer_is true k j e = sym (eqb_yes k j (e.0 refl))
answer_is false k j e = sym (eqb_no k j (not_true e.1))

-- a part's number in its code, and in the code of the text
pub substitution_code : (p : PartTag) → true ≡ is_substitution p.kind → (part_code p ≢ 4) × (4 ≤ part_code p)
substitution_code p e = search rules

pub substitution_number : (p : PartTag) (y : ℕ) → true ≡ is_substitution p.kind → y + pick (is_substitution p.kind) 1 0 ≡ part_code p → y + 1 ≡ part_code p
substitution_number p y e f = search rules

pub low_number : (p : PartTag) (y : ℕ) → false ≡ is_substitution p.kind → y + pick (is_substitution p.kind) 1 0 ≡ part_code p → (y ≡ part_code p) × (y < 4)
low_number p y e f = search rules

low_code : (p : PartTag) → false ≡ is_substitution p.kind → part_code p < 4
low_code p e = search rules

pub low_before : (p : PartTag) → false ≡ is_substitution p.kind → {k : ℕ} → part_code p ≡ part_tag k → k ≢ 47
low_before p e f g = absurd (omega (arith, low_code p e, f ∙ ap part_tag g))

-- a flag as it is written
pub flagged : (b : Bool) (y : ℕ) → y ≡ from_bool b → y ≡ flag b
flagged true y e = e
flagged false y e = e

swap_or : (a b c d : Bool) → (a || b) || (c || d) ≡ (a || c) || (b || d)
swap_or true b c d = refl
swap_or false true true d = refl
swap_or false true false d = refl
swap_or false false true d = refl
swap_or false false false d = refl

pub wildcard_is : (b : List ℕ) → has_wildcard b ≡ list_any (λ y. nat_eq y 42) b || list_any (λ y. nat_eq y 63) b
wildcard_is [] = refl
wildcard_is (c ∷ b) = ap (λ x. (nat_eq c 42 || nat_eq c 63) || x) (wildcard_is b) ∙ swap_or (nat_eq c 42) (nat_eq c 63) (list_any (λ y. nat_eq y 42) b) (list_any (λ y. nat_eq y 63) b)

-- the codes of what stands ahead
pub newline_code : (a : Ahead) (k : ℕ) → HasCode a k → true ≡ is_newline (la_of a) → k ≡ 33
newline_code End k h e = true_false e
newline_code Odd k h e = true_false e
newline_code Part k h e = true_false e
newline_code (Kept When) k h e = true_false e
newline_code (Kept If) k h e = true_false e
newline_code (Kept Then) k h e = true_false e
newline_code (Kept Elif) k h e = true_false e
newline_code (Kept Else) k h e = true_false e
newline_code (Kept Fi) k h e = true_false e
newline_code (Kept While) k h e = true_false e
newline_code (Kept Do) k h e = true_false e
newline_code (Kept Done) k h e = true_false e
newline_code (Kept For) k h e = true_false e
newline_code (Kept In) k h e = true_false e
newline_code (Kept Case) k h e = true_false e
newline_code (Kept Esac) k h e = true_false e
newline_code (Kept OpenBrace) k h e = true_false e
newline_code (Kept CloseBrace) k h e = true_false e
newline_code (Kept Not) k h e = true_false e
newline_code (Signed Semicolon) k h e = true_false e
newline_code (Signed Newline) k h e = h
newline_code (Signed Ampersand) k h e = true_false e
newline_code (Signed Pipe) k h e = true_false e
newline_code (Signed OpenParen) k h e = true_false e
newline_code (Signed CloseParen) k h e = true_false e
newline_code (Signed And) k h e = true_false e
newline_code (Signed Or) k h e = true_false e
newline_code (Signed DoubleSemicolon) k h e = true_false e
newline_code (Signed (Redirect r)) k h e = true_false e

pub not_code : (a : Ahead) (k : ℕ) → HasCode a k → true ≡ is_not (la_of a) → k ≡ 31
not_code End k h e = true_false e
not_code Odd k h e = true_false e
not_code Part k h e = true_false e
not_code (Kept When) k h e = true_false e
not_code (Kept If) k h e = true_false e
not_code (Kept Then) k h e = true_false e
not_code (Kept Elif) k h e = true_false e
not_code (Kept Else) k h e = true_false e
not_code (Kept Fi) k h e = true_false e
not_code (Kept While) k h e = true_false e
not_code (Kept Do) k h e = true_false e
not_code (Kept Done) k h e = true_false e
not_code (Kept For) k h e = true_false e
not_code (Kept In) k h e = true_false e
not_code (Kept Case) k h e = true_false e
not_code (Kept Esac) k h e = true_false e
not_code (Kept OpenBrace) k h e = true_false e
not_code (Kept CloseBrace) k h e = true_false e
not_code (Kept Not) k h e = h
not_code (Signed Semicolon) k h e = true_false e
not_code (Signed Newline) k h e = true_false e
not_code (Signed Ampersand) k h e = true_false e
not_code (Signed Pipe) k h e = true_false e
not_code (Signed OpenParen) k h e = true_false e
not_code (Signed CloseParen) k h e = true_false e
not_code (Signed And) k h e = true_false e
not_code (Signed Or) k h e = true_false e
not_code (Signed DoubleSemicolon) k h e = true_false e
not_code (Signed (Redirect r)) k h e = true_false e
