use Rattle.std.proofs.lemmas.Result.{err_from_is_err_and}
use Rattle.words.proofs.Pushes.{push_fails}
use Rattle.machine.proofs.Decimals.{decimal_line, line_longer}
use Rattle.machine.proofs.print.push_number.Goals as goal

pub returns-in_err-extend : goal.returns-in_err-extend
returns-in_err-extend c =
    let p = err_from_is_err_and c.from_residual.result c.from_residual.ensures.1 in
    rw p.1 (push_fails _ c.in_err-extend.ensures (line_longer c.args.n))

pub returns : goal.returns
returns c = decimal_line c.args.n c.in_ok-extend.ensures c.push_decimal.ensures
