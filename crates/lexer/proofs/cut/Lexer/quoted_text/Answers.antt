use Rattle.lexer.proofs.Next.{n_text}
use Rattle.lexer.proofs.cut.Lexer.quoted_text.Goals as goal

pub returns : goal.returns
returns c = rw c.part.ensures (n_text c.args.self.now.text.now c.args.self.now.at c.args.self.now.state c.args.self.now.inside c.quoted_len-len.result c.requires.quoted c.requires.quote c.requires.dollar c.tail.result.now c.tail.ensures c.quoted_len-len.ensures)
