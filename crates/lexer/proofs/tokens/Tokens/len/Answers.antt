use Rattle.lexer.proofs.Lexing.{few_held}
use Rattle.lexer.proofs.tokens.Tokens.len.Goals as goal

pub returns-clause-few : goal.returns-clause-few
returns-clause-few c = few_held c.args.self.now.has
