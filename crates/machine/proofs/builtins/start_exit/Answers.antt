use Rattle.std.proofs.Common.{rules}
use Rattle.machine.proofs.Begin.{exit_on, exit_bad}
use Rattle.machine.proofs.builtins.start_exit.Goals as goal

pub returns-in_default : goal.returns-in_default
returns-in_default t = let w = t.words-list.ensures in rw t.goes_to.ensures (λ text code. record { same = search rules; says = λ number r c k h. exit_bad t.args.first t.requires.invoked (rw (t.words_from.ensures, w) at t.in_default.ensures) (rw w at t.clear.ensures.after) h })

pub returns : goal.returns
returns t = let w = t.words-list.ensures in rw t.goes_to-2.ensures (λ text code. record { same = search rules; says = λ number r c k h. exit_on t.args.first t.in-Some.n t.requires.invoked (rw (t.words_from.ensures, w) at t.in-Some.ensures) (rw w at t.clear.ensures.after) h })
