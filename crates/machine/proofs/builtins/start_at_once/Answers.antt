use Rattle.std.proofs.Common.{rules}
use Rattle.machine.proofs.Begin.{once_on, once_beyond}
use Rattle.machine.proofs.builtins.start_at_once.Goals as goal

pub returns-in_default : goal.returns-in_default
returns-in_default t = λ text code. record { same = search rules; says = λ number r c k h. once_beyond t.args.name t.requires.invoked t.in_default.ensures t.requires.plain h }

pub returns : goal.returns
returns t = rw t.goes_to.ensures (λ text code. record { same = search rules; says = λ number r c k h. once_on t.args.name t.in-Some.control t.requires.invoked t.in-Some.ensures (rw t.words.ensures at t.clear.ensures.after) h })
