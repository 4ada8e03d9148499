use Rattle.std.proofs.Common.{◌∙◌, arith, rules}
use Rattle.lexer.proofs.Next.{n_note, word_joined, word_bare}
use Rattle.lexer.proofs.cut.Lexer.word.Goals.{else-self-start-eq35-via-then-self-start-eq35+else-not-joined, else-self-start-eq35-via-else-self-start-eq35}
use Rattle.lexer.proofs.cut.Lexer.word.Goals as goal

pub returns-then-not-joined : goal.returns-then-not-joined
returns-then-not-joined c = rw c.nothing.ensures (n_note c.args.self.now.text.now c.args.self.now.at c.args.self.now.state c.args.self.now.inside c.unwrap_or-len.result c.requires.unquoted (search rules) (omega arith) c.tail-rest.result.now c.tail-rest.ensures (c.unwrap_or-len.ensures ∙ rw c.find.ensures))

pub returns-then-joined : goal.returns-then-joined
returns-then-joined c = rw c.part-literal.ensures (word_joined c.args.self.now.text.now c.args.self.now.at c.args.self.now.state c.args.self.now.inside c.bare_len-len.result c.requires.unquoted c.if-joined.true c.requires.bare c.tail-rest.result.now c.tail-rest.ensures c.bare_len-len.ensures)

pub returns : goal.returns
returns c = rw c.part-literal.ensures (word_bare c.args.self.now.text.now c.args.self.now.at c.args.self.now.state c.args.self.now.inside c.bare_token.result c.bare_len-len.result c.requires.unquoted c.if-joined.false (elim c.else-self-start-eq35.branch [ else-self-start-eq35-via-then-self-start-eq35+else-not-joined w ↦ search rules | else-self-start-eq35-via-else-self-start-eq35 w ↦ w.if-self-start-eq35.false ]) c.requires.bare c.tail-rest.result.now c.tail-rest.ensures c.bare_len-len.ensures c.bare_token.ensures.code c.bare_token.ensures.no_bracket)
