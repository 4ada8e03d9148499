use Rattle.std.proofs.Common.{refl, arith, rules}
use Rattle.machine.proofs.Printing.{print_none, print_byte, print_full}
use Rattle.machine.proofs.print.step_print.Goals as goal

pub returns-then-len-eq0 : goal.returns-then-len-eq0
returns-then-len-eq0 t = let n = rw t.text-list.ensures at t.len-len.ensures.is in rw t.goes_to.ensures (λ text code. record { same = search rules; steps = record { says = λ number r c k h. (print_none t.args.builtin t.requires.control (omega (arith, n)) h, refl) } })

pub returns-then-place-paper : goal.returns-then-place-paper
returns-then-place-paper t = let n = rw t.text-list.ensures at t.len-len.ensures.is in λ text code. record { same = search rules; steps = record { says = λ number r c k h. (print_full t.args.builtin t.requires.control (λ e. omega (arith, n)) (omega arith) (omega arith) h, refl, refl) } }

pub returns : goal.returns
returns t = let n = rw t.text-list.ensures at t.len-len.ensures.is in λ text code. record { same = search rules; steps = record { says = λ number r c k h. (print_byte t.args.builtin t.len-len.result t.get-byte.result t.requires.control n (λ e. omega arith) (rw t.text-list.ensures at t.get-byte.ensures) (rw t.text-list.ensures at t.truncate.ensures.after) (omega arith) (omega arith) refl h, refl) } }
