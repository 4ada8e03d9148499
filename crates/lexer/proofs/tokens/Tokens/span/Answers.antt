use Rattle.std.proofs.Common.{arith}
use Rattle.lexer.proofs.Kept.{starts, ends, unkept, one_there}
use Rattle.lexer.proofs.tokens.Tokens.span.Goals as goal

pub returns-in-Some-clause-within : goal.returns-in-Some-clause-within
returns-in-Some-clause-within c = ends c.args.self.now.has c.args.at (omega (arith, c.args.self.now.has.count)) c.in-Some.token c.in-Some.ensures c.if-has_bytes.ensures

pub returns-in_default-clause-within : goal.returns-in_default-clause-within
returns-in_default-clause-within c = omega (arith, starts c.args.self.now.has c.args.at (omega (arith, c.args.self.now.has.count)))

pub returns-in_default-clause-spelled : goal.returns-in_default-clause-spelled
returns-in_default-clause-spelled c = λ k. unkept c.args.self.now.has c.args.at (omega (arith, c.args.self.now.has.count)) c.in-Some.token c.in-Some.ensures c.if-has_bytes.ensures k

pub returns-in_default-2-clause-within : goal.returns-in_default-2-clause-within
returns-in_default-2-clause-within c = omega (arith, starts c.args.self.now.has c.args.at (omega (arith, c.args.self.now.has.count)))

pub returns-in_default-2-clause-spelled : goal.returns-in_default-2-clause-spelled
returns-in_default-2-clause-spelled c = λ k. one_there c.args.self.now.has c.args.at (omega (arith, c.args.self.now.has.count)) c.in_default.ensures
