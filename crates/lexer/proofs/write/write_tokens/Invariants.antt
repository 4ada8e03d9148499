use Rattle.std.proofs.Common.{◌-◌, length}
use Rattle.lexer.proofs.Lexing.{Lexing}
use Rattle.lexer.proofs.write.write_tokens.Given as goal

abbrev pub invariant-loop-at : goal.invariant-loop-at
invariant-loop-at l = Lexing l.text l.words l.at l.state l.innermost l.count

abbrev pub decreases-loop-at : goal.decreases-loop-at
decreases-loop-at l = length l.text - l.at
