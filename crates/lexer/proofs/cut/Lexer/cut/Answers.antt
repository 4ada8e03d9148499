use Rattle.std.proofs.Common.{arith}
use Rattle.lexer.proofs.Next.{n_open, n_shut, n_line}
use Rattle.lexer.proofs.cut.Lexer.cut.Goals as goal

pub returns-in-40 : goal.returns-in-40
returns-in-40 c = rw c.mark.ensures (n_open c.args.self.now.text.now c.args.self.now.at c.args.self.now.state c.args.self.now.inside c.if-self-2.false (omega arith))

pub returns-in-41 : goal.returns-in-41
returns-in-41 c = rw c.mark-in-41.ensures (n_shut c.args.self.now.text.now c.args.self.now.at c.args.self.now.state c.args.self.now.inside c.if-self-2.false (omega arith))

pub returns-in-10 : goal.returns-in-10
returns-in-10 c = rw c.mark-in-10.ensures (n_line c.args.self.now.text.now c.args.self.now.at c.args.self.now.state c.args.self.now.inside c.if-self-2.false (omega arith))
