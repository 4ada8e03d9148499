use Rattle.std.proofs.Common.{arith, rules}
use Rattle.machine.proofs.Begin.{none_on}
use Rattle.machine.proofs.builtins.step_invoke.Goals as goal

pub returns-then-len-eq0 : goal.returns-then-len-eq0
returns-then-len-eq0 t = let n = rw t.words-list.ensures at t.len.ensures.is in rw t.goes_to.ensures (λ text code. record { same = search rules; says = λ number r c k h. none_on t.requires.control (omega (arith, n)) h })
