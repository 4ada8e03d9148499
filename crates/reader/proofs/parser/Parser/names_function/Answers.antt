use Rattle.std.proofs.Common.{◌+◌, ◌&&◌, eqb, sym, ap, ◌∙◌}
use Rattle.lexer.specs.Stored.{tokens_from, code_at}
use Rattle.reader.proofs.Commands.{function_is}
use Rattle.reader.proofs.Nexts.{answer_is}
use Rattle.reader.specs.Reading.{bare}
use Rattle.reader.proofs.parser.Parser.names_function.Goals as goal

pub returns-then-is_bare : goal.returns-then-is_bare
returns-then-is_bare c = answer_is c.token_is.result (code_at (tokens_from c.args.self.now.tokens.text.now (c.args.cursor.now.at + 1))) 40 c.token_is.ensures ∙ sym (function_is c.args.self.now.tokens.text.now c.args.self.now.tokens.count c.args.cursor.now.at c.args.self.now.tokens.has c.requires ∙ ap (λ x. x && eqb (code_at (tokens_from c.args.self.now.tokens.text.now (c.args.cursor.now.at + 1))) 40) (ap bare (sym c.peek.ensures) ∙ sym c.if-is_bare.ensures))

pub returns-else-is_bare : goal.returns-else-is_bare
returns-else-is_bare c = c.if-is_bare.false ∙ sym (function_is c.args.self.now.tokens.text.now c.args.self.now.tokens.count c.args.cursor.now.at c.args.self.now.tokens.has c.requires ∙ ap (λ x. x && eqb (code_at (tokens_from c.args.self.now.tokens.text.now (c.args.cursor.now.at + 1))) 40) (ap bare (sym c.peek.ensures) ∙ sym c.if-is_bare.ensures))
