use Rattle.std.proofs.Common.{sym, arith}
use Rattle.lexer.proofs.Next.{n_dollar_end, n_run, n_name, n_arg, n_dollar}
use Rattle.lexer.proofs.cut.Lexer.dollar.Goals as goal

pub returns-then-start-self : goal.returns-then-start-self
returns-then-start-self c = rw (c.part-literal.ensures, c.tag.ensures) (n_dollar_end c.args.self.now.text.now c.args.self.now.at c.args.self.now.state c.args.self.now.inside c.requires (omega arith))

pub returns-in-40 : goal.returns-in-40
returns-in-40 c = rw (c.mark.ensures, c.tag-part.ensures) (n_run c.args.self.now.text.now c.args.self.now.at c.args.self.now.state c.args.self.now.inside c.requires (omega arith) (omega arith))

pub returns-in_default : goal.returns-in_default
returns-in_default c = rw (c.part.ensures, c.tag-in_default.ensures) (n_name c.args.self.now.text.now c.args.self.now.at c.args.self.now.state c.args.self.now.inside c.name_len-len.result c.requires (omega arith) (omega arith) (sym c.if-is_letter.ensures) c.tail.result.now c.tail.ensures c.name_len-len.ensures)

pub returns-in_default-2 : goal.returns-in_default-2
returns-in_default-2 c = rw (c.part-in_default-2.ensures, c.tag-in_default-2.ensures) (n_arg c.args.self.now.text.now c.args.self.now.at c.args.self.now.state c.args.self.now.inside c.requires (omega arith) (omega arith) (sym c.if-is_letter.ensures) (sym c.if-is_special.ensures))

pub returns-in_default-3 : goal.returns-in_default-3
returns-in_default-3 c = rw (c.part-literal.ensures, c.tag.ensures) (n_dollar c.args.self.now.text.now c.args.self.now.at c.args.self.now.state c.args.self.now.inside c.requires (omega arith) (omega arith) (sym c.if-is_letter.ensures) (sym c.if-is_special.ensures))
