use Rattle.std.proofs.Common.{subst}
use Rattle.lexer.specs.Codes.{Decodes}
use Rattle.lexer.proofs.Kept.{read_back}
use Rattle.lexer.proofs.tokens.Tokens.get.Goals as goal

pub returns : goal.returns
returns c = rw c.ok.ensures.value (read_back c.args.at c.args.self.now.has c.try_from.result (subst (λ k. Decodes k c.try_from.result) c.code.ensures c.try_from.ensures))
