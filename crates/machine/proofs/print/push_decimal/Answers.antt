use Rattle.std.proofs.Common.{arith}
use Rattle.std.proofs.lemmas.Result.{err_from_is_err_and}
use Rattle.machine.proofs.Decimals.{digits_none, digits_next, digits_fails, digits_last}
use Rattle.machine.proofs.print.push_decimal.Goals as goal

pub loop-rest-init : goal.loop-rest-init
loop-rest-init c = digits_none c.args.n

pub returns-in_err-extend : goal.returns-in_err-extend
returns-in_err-extend c =
    let p = err_from_is_err_and c.from_residual.result c.from_residual.ensures.1 in
    rw p.1 (digits_fails c.loop-rest.invariant (omega arith) c.in_err-extend.ensures)

pub loop-rest-preserved : goal.loop-rest-preserved
loop-rest-preserved c = digits_next c.loop-rest.invariant (omega arith) c.in_ok-extend.ensures

pub returns : goal.returns
returns c = digits_last c.loop-rest.invariant (omega arith) c.extend-2.ensures
