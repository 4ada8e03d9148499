use Rattle.std.proofs.Common.{◌+◌, arith}
use Rattle.lexer.proofs.Next.{n_sign, n_twice, not_first}
use Rattle.lexer.proofs.cut.Lexer.sign.Goals.{else-next-self-via-then-next-self+else-self-next, else-next-self-via-else-next-self}
use Rattle.lexer.proofs.cut.Lexer.sign.Goals as goal

pub returns-then-self-next : goal.returns-then-self-next
returns-then-self-next c = rw c.mark.ensures (n_twice c.args.self.now.text.now c.args.self.now.at c.args.self.now.state c.args.self.now.inside c.args.twice c.requires.signs.no_brackets c.requires.unquoted c.requires.signs.doubles c.requires.signs.twice (omega arith) (omega arith))

pub returns : goal.returns
returns c = rw c.mark-2.ensures (n_sign c.args.self.now.text.now c.args.self.now.at c.args.self.now.state c.args.self.now.inside c.args.once c.requires.signs.no_bracket c.requires.unquoted c.requires.signs.doubles c.requires.signs.once (not_first _ c.args.self.now.text.now (c.args.self.now.at + 1) (λ l. elim c.else-next-self.branch [ else-next-self-via-then-next-self+else-self-next w ↦ w.if-self-next.false | else-next-self-via-else-next-self w ↦ absurd (omega arith) ])))
