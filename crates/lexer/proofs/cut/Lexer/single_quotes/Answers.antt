use Rattle.lexer.proofs.Next.{n_quote, n_unclosed}
use Rattle.lexer.proofs.cut.Lexer.single_quotes.Goals as goal

pub returns-in-Some : goal.returns-in-Some
returns-in-Some c = rw c.part.ensures (n_quote c.args.self.now.text.now c.args.self.now.at c.args.self.now.state c.args.self.now.inside c.in-Some.len c.requires.unquoted c.requires.quote c.tail.result.now c.tail.ensures c.in-Some.ensures)

pub returns-in-None : goal.returns-in-None
returns-in-None c = rw c.mark.ensures (n_unclosed c.args.self.now.text.now c.args.self.now.at c.args.self.now.state c.args.self.now.inside c.requires.unquoted c.requires.quote c.tail.result.now c.tail.ensures c.in-None.ensures)
