use Rattle.std.proofs.Common.{arith}
use Rattle.lexer.proofs.Kept.{starts}
use Rattle.lexer.proofs.tokens.Tokens.place.Goals as goal

pub returns-then-at-self-clause-within : goal.returns-then-at-self-clause-within
returns-then-at-self-clause-within c = starts c.args.self.now.has c.args.at (omega arith)
