use Rattle.std.proofs.Common.{[], get_or}
use Rattle.std.proofs.lemmas.Result.{err_from_is_err_and}
use Rattle.store.specs.Held.{model}
use Rattle.words.proofs.Pushes.{push_fails}
use Rattle.words.proofs.Texts.{line_on, line_length}
use Rattle.machine.proofs.builtins.push_line.Goals as goal

pub returns-in_err-extend : goal.returns-in_err-extend
returns-in_err-extend c =
    let p = err_from_is_err_and c.from_residual.result c.from_residual.ensures.1 in
    rw p.1 (push_fails _ c.in_err-extend.ensures (line_length (get_or (model c.args.st.now) c.args.from []) c.args.low c.args.high))

pub returns : goal.returns
returns c = line_on c.args.low c.args.high c.requires.lists c.in_ok-extend.ensures c.push_reversed.ensures
