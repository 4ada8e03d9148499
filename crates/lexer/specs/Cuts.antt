-- One step of the lexer: what it cuts from a text.
use Rattle.std.specs.Prelude.{◌≡◌, ℕ, ◌+◌, ◌<◌, ◌≤◌, Bool, true, false, List, ◌∷◌, length, drop}
use Rattle.std.specs.declared.option.Option.{Option}
use Rattle.std.specs.declared.option.Option.TheVariants.{Some, None}
use Rattle.grammar.specs.Tokens.{Token, nothing, Lexer, lexer, top_of, rest_of, tokens}
use Rattle.lexer.specs.declared.token.Bracket.{Bracket}
use Rattle.lexer.specs.declared.token.Bracket.TheVariants.{Opens, Closes}
use Rattle.lexer.specs.declared.token.Token.{Token as Value}
use Rattle.lexer.specs.declared.token.Token.TheVariants.{Part as part, Keyword as keyword, Name as name, Assignment as assignment, Sign as sign, Unclosed as unclosed}
use Rattle.lexer.specs.declared.cut.State.{State}
use Rattle.lexer.specs.declared.tokens.Span.{Span}
use Rattle.lexer.specs.declared.cut.Cut.{Cut}
use Rattle.lexer.specs.Codes.{code_of, bracket_of}
use Rattle.lexer.specs.Stored.{token_code, Spelled}

abbrev pub fresh : State
fresh = record { quoted = false; joined = false }

-- the lexer where no token has begun, in the brackets o
abbrev pub resting : State → List Bool → Lexer
resting s o = lexer s.quoted o s.joined nothing

-- how the lexer stands behind the bracket that closes a token's bracket
abbrev pub behind_closed : Value → State
behind_closed (part p joined) = record { quoted = p.quoted; joined = true }
behind_closed (keyword k) = fresh
behind_closed name = fresh
behind_closed (assignment n) = fresh
behind_closed (sign s) = fresh
behind_closed unclosed = fresh

-- how it stands behind the innermost bracket of o
abbrev pub around : List Bool → State
around o = record { quoted = top_of (rest_of o); joined = top_of o }

-- the lexer behind a token
abbrev pub behind_by : Option Bracket → Value → State → List Bool → Lexer
behind_by None x s o = resting s o
behind_by (Some Opens) x s o = resting s ((behind_closed x).joined ∷ (behind_closed x).quoted ∷ o)
behind_by (Some Closes) x s o = resting (around o) (rest_of (rest_of o))

abbrev pub behind : Value → State → List Bool → Lexer
behind x s o = behind_by (bracket_of x) x s o

-- the tokens xs are the value's, whose bytes are the span's, and ys
pub record Begins (t : List ℕ) (x : Value) (s : Span) (xs ys : List Token) : Type 0 where
  pub token : Token
  pub code : code_of x ≡ token_code token
  pub spelled : Spelled t s.start s.len token
  pub inside : s.start + s.len ≤ length t
  pub is : xs ≡ token ∷ ys

-- what the tokens xs are if a cut is made of them: those behind it, with its token before them if it has one
abbrev pub Leaves : List ℕ → List Token → Cut → List Bool → Option (Value × Span) → Type 0
Leaves t xs c o None = xs ≡ tokens (resting c.state o) (drop c.at t)
Leaves t xs c o (Some f) = Begins t f.0 f.1 xs (tokens (behind f.0 c.state o) (drop c.at t))

-- what is cut from the text t at a place, whatever brackets are open there
pub record Cuts (t : List ℕ) (at : ℕ) (s : State) (c : Cut) : Type 0 where
  pub goes : at < c.at
  pub within : c.at ≤ length t
  pub leaves : (o : List Bool) → Leaves t (tokens (resting s o) (drop at t)) c o c.token
