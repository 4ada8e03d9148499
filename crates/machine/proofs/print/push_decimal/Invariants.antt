use Rattle.machine.proofs.Decimals.{Digits}
use Rattle.machine.proofs.print.push_decimal.Given as goal

abbrev pub invariant-loop-rest : goal.invariant-loop-rest
invariant-loop-rest l = Digits l.initial.st l.st l.i l.initial.rest l.rest

abbrev pub decreases-loop-rest : goal.decreases-loop-rest
decreases-loop-rest l = l.rest
