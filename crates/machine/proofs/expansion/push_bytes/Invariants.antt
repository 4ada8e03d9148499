use Rattle.std.proofs.Common.{take, Ok}
use Rattle.code.specs.Layout.{flag}
use Rattle.words.specs.Encoding.{coded}
use Rattle.words.specs.Pushed.{Pushed}
use Rattle.machine.proofs.expansion.push_bytes.Given as goal

abbrev pub invariant-loop-b : goal.invariant-loop-b
invariant-loop-b l = Pushed l.initial.st l.st l.i (coded (flag l.quoted) (take l.b-index l.bytes)) (Ok tt)
