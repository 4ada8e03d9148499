-- The numbers that stand for tokens.
use Rattle.std.specs.Prelude.{◌≡◌, ℕ, ◌+◌, Bool, true, false, not, ◌&&◌, nat_le, [], ◌∷◌, codes, Result, MatchResult, ◌≢◌, ◌<◌, ⊤}
use Rattle.std.specs.declared.option.Option.{Option}
use Rattle.std.specs.declared.option.Option.TheVariants.{Some, None}
use Rattle.syntax.specs.Base.{pick, Name}
use Rattle.grammar.specs.Tokens.{doubles}
use Rattle.grammar.specs.Grammar.{kw_when, kw_if, kw_then, kw_elif, kw_else, kw_fi, kw_while, kw_do, kw_done, kw_for, kw_in, kw_case, kw_esac, kw_open, kw_close, kw_not}
use Rattle.lexer.specs.declared.token.Keyword.{Keyword}
use Rattle.lexer.specs.declared.token.Keyword.TheVariants.{When, If, Then, Elif, Else, Fi, While, Do, Done, For, In, Case, Esac, OpenBrace, CloseBrace, Not}
use Rattle.lexer.specs.declared.token.Sign.{Sign}
use Rattle.lexer.specs.declared.token.Sign.TheVariants.{Semicolon, Newline, Ampersand, Pipe, Redirect, OpenParen, CloseParen, And, Or, DoubleSemicolon}
use Rattle.code.specs.declared.tags.RedirectTag.{RedirectTag}
use Rattle.code.specs.declared.tags.RedirectTag.TheVariants.{Input, Output, Append, Here}
use Rattle.code.specs.declared.tags.PartKind.{PartKind}
use Rattle.code.specs.declared.tags.PartKind.TheVariants.{Literal, Parameter, Substitution}
use Rattle.code.specs.declared.tags.PartTag.{PartTag}
use Rattle.lexer.specs.declared.token.Token.{Token}
use Rattle.lexer.specs.declared.token.Token.TheVariants.{Part as part, Keyword as keyword, Name as name, Assignment as assignment, Sign as sign, Unclosed as unclosed}
use Rattle.lexer.specs.declared.token.Bracket.{Bracket}
use Rattle.lexer.specs.declared.token.Bracket.TheVariants.{Opens, Closes}
use Rattle.lexer.specs.declared.codes.UnknownCode.{UnknownCode}

abbrev pub keyword_code : Keyword → ℕ
keyword_code When = 16
keyword_code If = 17
keyword_code Then = 18
keyword_code Elif = 19
keyword_code Else = 20
keyword_code Fi = 21
keyword_code While = 22
keyword_code Do = 23
keyword_code Done = 24
keyword_code For = 25
keyword_code In = 26
keyword_code Case = 27
keyword_code Esac = 28
keyword_code OpenBrace = 29
keyword_code CloseBrace = 30
keyword_code Not = 31

abbrev pub keyword_name : Keyword → Name
keyword_name When = kw_when
keyword_name If = kw_if
keyword_name Then = kw_then
keyword_name Elif = kw_elif
keyword_name Else = kw_else
keyword_name Fi = kw_fi
keyword_name While = kw_while
keyword_name Do = kw_do
keyword_name Done = kw_done
keyword_name For = kw_for
keyword_name In = kw_in
keyword_name Case = kw_case
keyword_name Esac = kw_esac
keyword_name OpenBrace = kw_open
keyword_name CloseBrace = kw_close
keyword_name Not = kw_not

abbrev pub redirect_code : RedirectTag → ℕ
redirect_code Input = 0
redirect_code Output = 1
redirect_code Append = 2
redirect_code Here = 3

abbrev pub sign_code_of : Sign → ℕ
sign_code_of Semicolon = 32
sign_code_of Newline = 33
sign_code_of Ampersand = 34
sign_code_of Pipe = 35
sign_code_of (Redirect r) = 36 + redirect_code r
sign_code_of OpenParen = 40
sign_code_of CloseParen = 41
sign_code_of And = 42
sign_code_of Or = 43
sign_code_of DoubleSemicolon = 44

abbrev pub sign_name : Sign → Name
sign_name Semicolon = codes ";"
sign_name Newline = 10 ∷ []
sign_name Ampersand = codes "&"
sign_name Pipe = codes "|"
sign_name (Redirect Input) = codes "<"
sign_name (Redirect Output) = codes ">"
sign_name (Redirect Append) = codes ">>"
sign_name (Redirect Here) = codes "<<"
sign_name OpenParen = codes "("
sign_name CloseParen = codes ")"
sign_name And = codes "&&"
sign_name Or = codes "||"
sign_name DoubleSemicolon = codes ";;"

abbrev pub kind_code : PartKind → ℕ
kind_code Literal = 0
kind_code Parameter = 2
kind_code Substitution = 5

abbrev pub part_code : PartTag → ℕ
part_code p = kind_code p.kind + pick p.quoted 1 0

abbrev pub code_of : Token → ℕ
code_of (part p joined) = part_code p + pick joined 8 0
code_of (keyword k) = keyword_code k
code_of name = 46
code_of (assignment n) = 64 + n
code_of (sign s) = sign_code_of s
code_of unclosed = 45

-- the code of the next token, or 47 where there is none
abbrev pub next_code : Option Token → ℕ
next_code None = 47
next_code (Some x) = code_of x

-- the part of a word that a token begins
abbrev pub part_of : Token → Option PartTag
part_of (part p joined) = Some p
part_of (keyword k) = Some (record { kind = Literal; quoted = false })
part_of name = Some (record { kind = Literal; quoted = false })
part_of (assignment n) = Some (record { kind = Literal; quoted = false })
part_of (sign s) = None
part_of unclosed = None

-- the length of a name is a byte
abbrev pub Fits : Token → Type 0
Fits (part p joined) = ⊤
Fits (keyword k) = ⊤
Fits name = ⊤
Fits (assignment n) = n < 256
Fits (sign s) = ⊤
Fits unclosed = ⊤

-- the result is the token with this code, or an error where no token has it
abbrev pub Decodes : ℕ → Result Token UnknownCode → Type 0
Decodes c r = MatchResult r (λ x. code_of x ≡ c) (λ e. (e.0 ≡ c) × ((x : Token) → Fits x → code_of x ≢ c))

-- whether a token with the code k is joined to the one before
abbrev pub joins : ℕ → Bool
joins k = nat_le 8 k && nat_le k 15

abbrev pub is_joined : Token → Bool
is_joined (part p joined) = joined
is_joined (keyword k) = false
is_joined name = false
is_joined (assignment n) = false
is_joined (sign s) = false
is_joined unclosed = false

abbrev pub is_substitution : PartKind → Bool
is_substitution Literal = false
is_substitution Parameter = false
is_substitution Substitution = true

-- whether a token's bytes stand in the text as they are
abbrev pub has_bytes : Token → Bool
has_bytes (part p joined) = not (is_substitution p.kind)
has_bytes (keyword k) = true
has_bytes name = true
has_bytes (assignment n) = true
has_bytes (sign s) = false
has_bytes unclosed = false

-- whether a sign, and a token, opens a bracket or closes one
abbrev pub bracket_of_sign : Sign → Option Bracket
bracket_of_sign Semicolon = None
bracket_of_sign Newline = None
bracket_of_sign Ampersand = None
bracket_of_sign Pipe = None
bracket_of_sign (Redirect r) = None
bracket_of_sign OpenParen = Some Opens
bracket_of_sign CloseParen = Some Closes
bracket_of_sign And = None
bracket_of_sign Or = None
bracket_of_sign DoubleSemicolon = None

abbrev pub bracket_of : Token → Option Bracket
bracket_of (part p joined) = pick (is_substitution p.kind) (Some Opens) None
bracket_of (keyword k) = None
bracket_of name = None
bracket_of (assignment n) = None
bracket_of (sign s) = bracket_of_sign s
bracket_of unclosed = None

-- a byte makes these signs alone and twice
pub record Signs (c : ℕ) (s : Sign × Sign) : Type 0 where
  pub doubles : doubles c ≡ true
  pub once : sign_name s.0 ≡ c ∷ []
  pub twice : sign_name s.1 ≡ c ∷ c ∷ []
  pub no_bracket : bracket_of_sign s.0 ≡ None
  pub no_brackets : bracket_of_sign s.1 ≡ None
