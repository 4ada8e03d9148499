use Rattle.std.proofs.Common.{refl, rules}
use Rattle.machine.proofs.Steps.{unwind_on, unwind_ends}
use Rattle.machine.proofs.step.step_unwind.Goals as goal

pub returns-in_default : goal.returns-in_default
returns-in_default t = λ o place. record { same = search rules; steps = record { says = λ number r c k h. (unwind_ends t.args.unwind t.args.n t.requires.control t.in_default.ensures h, refl, refl) } }

pub returns : goal.returns
returns t = λ o place. record { same = search rules; steps = record { says = λ number r c k h. (unwind_on t.args.unwind t.args.n t.in-Some.frame t.next_unwind-resumed.result t.requires.control t.in-Some.ensures t.next_unwind-resumed.ensures t.settle.ensures.says h, refl) } }
