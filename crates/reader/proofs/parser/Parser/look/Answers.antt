use Rattle.std.proofs.Common.{◌+◌, refl, subst, sym}
use Rattle.lexer.specs.Codes.{next_code}
use Rattle.lexer.specs.Stored.{tokens_from, code_at}
use Rattle.reader.specs.Aheads.{HasCode}
use Rattle.reader.specs.Reading.{joins}
use Rattle.reader.proofs.Commands.{look_is}
use Rattle.reader.proofs.parser.Parser.look.Goals as goal

pub returns : goal.returns
returns c = record { means = look_is c.args.self.now.tokens.text.now c.args.cursor.now.at _ (next_code c.peek.result) c.is_joined.result (code_at (tokens_from c.args.self.now.tokens.text.now (c.args.cursor.now.at + 1))) c.new.ensures.means c.peek.ensures c.is_joined.ensures refl; code = subst (HasCode c.new.result) c.peek.ensures c.new.ensures.code }

pub returns-then-next_is : goal.returns-then-next_is
returns-then-next_is c = let e = c.if-next_is.ensures.0 refl in record { means = look_is c.args.self.now.tokens.text.now c.args.cursor.now.at _ 33 (joins (code_at (tokens_from c.args.self.now.tokens.text.now (c.args.cursor.now.at + 1)))) (code_at (tokens_from c.args.self.now.tokens.text.now (c.args.cursor.now.at + 1))) refl (sym e) refl refl; code = e }
