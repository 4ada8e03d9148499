use Rattle.std.proofs.Common.{arith}
use Rattle.lexer.proofs.Lexing.{code_in}
use Rattle.lexer.proofs.tokens.Tokens.code.Goals as goal

pub returns : goal.returns
returns c = code_in c.args.at c.args.self.now.has (omega arith)
