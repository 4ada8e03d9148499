use Rattle.std.proofs.Common.{arith}
use Rattle.words.proofs.Pushes.{push_more}
use Rattle.words.proofs.Texts.{all_bytes}
use Rattle.machine.proofs.expansion.push_literal.Goals as goal

pub returns-clause-pushed : goal.returns-clause-pushed
returns-clause-pushed c = rw c.if-opened.false (push_more c.in_ok-extend.ensures c.push_bytes-2.ensures.pushed)

pub returns-in_err-extend-clause-bytes : goal.returns-in_err-extend-clause-bytes
returns-in_err-extend-clause-bytes c = all_bytes c.args.bytes.now (λ i. omega (arith, c.type_inv.bytes i))
