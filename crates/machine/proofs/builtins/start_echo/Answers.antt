use Rattle.std.proofs.Common.{arith, rules}
use Rattle.std.proofs.lemmas.Result.{err_from_is_err_and}
use Rattle.machine.specs.declared.names.BuiltinName.TheVariants.{Echo}
use Rattle.machine.proofs.Begin.{echo_on, line_tight}
use Rattle.machine.proofs.builtins.start_echo.Goals as goal

pub returns-in_err-push_line : goal.returns-in_err-push_line
returns-in_err-push_line t =
    let p = err_from_is_err_and t.from_residual.result t.from_residual.ensures.1 in
    rw (p.1, p.2) (λ text code. record { same = search rules; says = λ number r c k h. line_tight Echo t.min-low.result t.len-len.result t.requires.invoked (rw (t.words-list.ensures, t.text.ensures) at t.in_err-push_line.ensures.err) h })

pub returns : goal.returns
returns t = rw t.goes_to.ensures (λ text code. record { same = search rules; says = λ number r c k h. echo_on t.args.first t.min-low.result t.len-len.result t.requires.invoked (rw t.words-list.ensures at t.len-len.ensures.is) (omega (arith, t.min-low.ensures, t.saturating_add.ensures, t.len-len.type_inv)) (rw (t.words-list.ensures, t.text.ensures) at t.in_ok-push_line.ensures.ok) (rw t.words-list.ensures at t.clear.ensures.after) h })
