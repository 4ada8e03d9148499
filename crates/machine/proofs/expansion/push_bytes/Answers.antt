use Rattle.std.proofs.Common.{◌≡◌, ◌+◌, Bool, true, false, refl, arith}
use Rattle.std.proofs.lemmas.Result.{err_from_is_err_and}
use Rattle.code.specs.Layout.{flag}
use Rattle.words.proofs.Pushes.{push_nil, push_fails}
use Rattle.words.proofs.Texts.{all_bytes, coded_next, coded_short}
use mir.Val.{bool_byte}
use Rattle.machine.proofs.expansion.push_bytes.Goals as goal

byte_flag : (q : Bool) → bool_byte q ≡ flag q
byte_flag true = refl
byte_flag false = refl

pub loop-b-init : goal.loop-b-init
loop-b-init c = push_nil

pub returns-in_err-extend-clause-pushed : goal.returns-in_err-extend-clause-pushed
returns-in_err-extend-clause-pushed c =
    let p = err_from_is_err_and c.from_residual.result c.from_residual.ensures.1 in
    rw p.1 (push_fails _ (coded_next (flag c.args.quoted) c.args.bytes.now c.loop-b.b-index (omega arith) c.loop-b.invariant (rw (c.from.ensures, c.from-in-loop-b.ensures, byte_flag c.args.quoted) at c.in_err-extend.ensures)) (coded_short (flag c.args.quoted) c.args.bytes.now (c.loop-b.b-index + 1)))

pub loop-b-preserved : goal.loop-b-preserved
loop-b-preserved c = coded_next (flag c.args.quoted) c.args.bytes.now c.loop-b.b-index (omega arith) c.loop-b.invariant (rw (c.from.ensures, c.from-in-loop-b.ensures, byte_flag c.args.quoted) at c.in_ok-extend.ensures)

pub returns-in_err-extend-clause-bytes : goal.returns-in_err-extend-clause-bytes
returns-in_err-extend-clause-bytes c = all_bytes c.args.bytes.now (λ i. omega (arith, c.type_inv.bytes i))

pub returns-clause-bytes : goal.returns-clause-bytes
returns-clause-bytes c = all_bytes c.args.bytes.now (λ i. omega (arith, c.type_inv.bytes i))
