use Rattle.std.proofs.Common.{◌≡◌, ◌-◌, [], get_or, arith}
use Rattle.std.proofs.lemmas.Result.{err_from_is_err_and}
use Rattle.store.specs.Held.{model}
use Rattle.words.proofs.Pushes.{push_nil, push_fails}
use Rattle.words.proofs.Texts.{span_none, span_length, back_on}
use Rattle.machine.proofs.builtins.push_reversed.Goals as goal

pub loop-j-init : goal.loop-j-init
loop-j-init c = record { above = omega arith; pushed = rw (span_none (get_or (model c.args.st.now) c.args.from []) c.args.high) push_nil }

pub returns-in_err-extend : goal.returns-in_err-extend
returns-in_err-extend c =
    let p = err_from_is_err_and c.from_residual.result c.from_residual.ensures.1 in
    rw p.1 (push_fails _ (back_on c.loop-j.j c.args.high c.get-w.result c.shown_byte.result c.requires.lists (omega arith) (omega arith) c.requires.in_bounds c.get-w.ensures c.shown_byte.ensures c.loop-j.invariant.pushed c.in_err-extend.ensures) (span_length (get_or (model c.args.st.now) c.args.from []) c.args.low (c.loop-j.j - 1) c.args.high (omega arith)))

pub loop-j-preserved : goal.loop-j-preserved
loop-j-preserved c = record { above = omega arith; pushed = back_on c.loop-j.j c.args.high c.get-w.result c.shown_byte.result c.requires.lists (omega arith) (omega arith) c.requires.in_bounds c.get-w.ensures c.shown_byte.ensures c.loop-j.invariant.pushed c.in_ok-extend.ensures }

pub returns : goal.returns
returns c = let e : c.loop-j.j ≡ c.args.low = omega (arith, c.loop-j.invariant.above) in rw e at c.loop-j.invariant.pushed
