-- What stands ahead, in the parser's terms.
use Rattle.std.specs.Prelude.{◌≡◌, ℕ, true, false, ⊤}
use Rattle.syntax.specs.Tree.{RedirectKind, input, output, append, here}
use Rattle.grammar.specs.Parser.{Lookahead, la_end, la_odd, la_part, la_not, la_keyword, la_paren, la_pipe, la_and, la_or, la_newline, la_close_paren, la_double_semicolon, la_opener, la_redirect, la_terminator, open_if, open_while, open_for, open_case, open_brace}
use Rattle.lexer.specs.declared.token.Keyword.{Keyword as Kept}
use Rattle.lexer.specs.declared.token.Keyword.TheVariants.{When, If, Then, Elif, Else, Fi, While, Do, Done, For, In, Case, Esac, OpenBrace, CloseBrace, Not}
use Rattle.lexer.specs.declared.token.Sign.{Sign as Signed}
use Rattle.lexer.specs.declared.token.Sign.TheVariants.{Semicolon, Newline, Ampersand, Pipe, Redirect, OpenParen, CloseParen, And, Or, DoubleSemicolon}
use Rattle.code.specs.declared.tags.RedirectTag.{RedirectTag}
use Rattle.code.specs.declared.tags.RedirectTag.TheVariants.{Input, Output, Append, Here}
use Rattle.lexer.specs.Codes.{keyword_code, sign_code_of}
use Rattle.reader.specs.declared.ahead.Ahead.{Ahead}
use Rattle.reader.specs.declared.ahead.Ahead.TheVariants.{End, Odd, Part, Keyword, Sign}

abbrev pub la_keyword_of : Kept → Lookahead
la_keyword_of When = la_keyword
la_keyword_of If = la_opener open_if
la_keyword_of Then = la_keyword
la_keyword_of Elif = la_keyword
la_keyword_of Else = la_keyword
la_keyword_of Fi = la_keyword
la_keyword_of While = la_opener open_while
la_keyword_of Do = la_keyword
la_keyword_of Done = la_keyword
la_keyword_of For = la_opener open_for
la_keyword_of In = la_keyword
la_keyword_of Case = la_opener open_case
la_keyword_of Esac = la_keyword
la_keyword_of OpenBrace = la_opener open_brace
la_keyword_of CloseBrace = la_keyword
la_keyword_of Not = la_not

abbrev pub kind_of : RedirectTag → RedirectKind
kind_of Input = input
kind_of Output = output
kind_of Append = append
kind_of Here = here

abbrev pub la_sign_of : Signed → Lookahead
la_sign_of Semicolon = la_terminator false
la_sign_of Newline = la_newline
la_sign_of Ampersand = la_terminator true
la_sign_of Pipe = la_pipe
la_sign_of (Redirect tag) = la_redirect (kind_of tag)
la_sign_of OpenParen = la_paren
la_sign_of CloseParen = la_close_paren
la_sign_of And = la_and
la_sign_of Or = la_or
la_sign_of DoubleSemicolon = la_double_semicolon

abbrev pub la_of : Ahead → Lookahead
la_of End = la_end
la_of Odd = la_odd
la_of Part = la_part
la_of (Keyword keyword) = la_keyword_of keyword
la_of (Sign sign) = la_sign_of sign

-- a keyword or a sign that stands ahead has its code
abbrev pub HasCode : Ahead → ℕ → Type 0
HasCode End k = ⊤
HasCode Odd k = ⊤
HasCode Part k = ⊤
HasCode (Keyword keyword) k = k ≡ keyword_code keyword
HasCode (Sign sign) k = k ≡ sign_code_of sign
