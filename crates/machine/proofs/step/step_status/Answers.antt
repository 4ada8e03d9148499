use Rattle.std.proofs.Common.{refl, rules}
use Rattle.machine.proofs.Steps.{status_on, status_ends}
use Rattle.machine.proofs.step.step_status.Goals as goal

pub returns-in_default : goal.returns-in_default
returns-in_default t = λ o place. record { same = search rules; steps = record { says = λ number r c k h. (status_ends t.args.n t.requires.control t.in_default.ensures h, refl, refl) } }

pub returns : goal.returns
returns t = λ o place. record { same = search rules; steps = record { says = λ number r c k h. (status_on t.args.n t.in-Some.frame t.next_status-resumed.result t.requires.control t.in-Some.ensures t.next_status-resumed.ensures t.settle.ensures.says h, refl) } }
