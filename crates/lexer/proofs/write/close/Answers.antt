use Rattle.std.proofs.Common.{arith}
use Rattle.lexer.proofs.Lexing.{close_none, close_ok}
use Rattle.lexer.proofs.write.close.Goals as goal

pub returns-then-innermost-eq0 : goal.returns-then-innermost-eq0
returns-then-innermost-eq0 c = λ hi o b. close_none (omega arith) b

pub returns-in-Ok : goal.returns-in-Ok
returns-in-Ok c = λ hi o b. rw c.behind_closed.ensures (close_ok c.in-Ok.token c.in-Ok.ensures (omega arith) b)
