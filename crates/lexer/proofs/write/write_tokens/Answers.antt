use Rattle.std.proofs.Common.{Some, ◌∙◌, sym, ap, arith}
use Rattle.lexer.proofs.Lexing.{begin, step_silent, step_plain, step_open, step_close, span_inside, finish, finish_quoted}
use Rattle.lexer.proofs.write.write_tokens.Goals as goal

pub loop-at-init : goal.loop-at-init
loop-at-init c = begin c.args.text.now c.args.words.now

pub loop-at-preserved-in_default : goal.loop-at-preserved-in_default
loop-at-preserved-in_default c = step_silent c.loop-at.invariant c.cut-cut.ensures c.in_default.is

pub put-requires-clause-small : goal.put-requires-clause-small
put-requires-clause-small c = let s = span_inside c.loop-at.invariant c.cut-cut.ensures c.in-Some.token c.in-Some.span c.in-Some.is in (omega (arith, s), omega (arith, s))

pub loop-at-preserved-in-None : goal.loop-at-preserved-in-None
loop-at-preserved-in-None c = rw c.put.ensures (step_plain c.loop-at.invariant c.cut-cut.ensures c.in-Some.token c.in-Some.span c.in-Some.is (sym c.bracket.ensures ∙ c.in-None.is) (omega arith))

pub put-requires-in-Some-Opens-clause-small : goal.put-requires-in-Some-Opens-clause-small
put-requires-in-Some-Opens-clause-small c = (omega (arith, span_inside c.loop-at.invariant c.cut-cut.ensures c.in-Some.token c.in-Some.span c.in-Some.is), omega arith)

pub loop-at-preserved-in-Some-Opens : goal.loop-at-preserved-in-Some-Opens
loop-at-preserved-in-Some-Opens c = rw c.put-in-Some-Opens.ensures (step_open c.loop-at.invariant c.cut-cut.ensures c.in-Some.token c.in-Some.span c.in-Some.is (sym c.bracket.ensures ∙ (c.in-Some-Opens.is ∙ ap Some c.in-Some-Opens.field-0-is)) (omega arith))

pub put-requires-in-Some-Closes-clause-small : goal.put-requires-in-Some-Closes-clause-small
put-requires-in-Some-Closes-clause-small c = (omega (arith, span_inside c.loop-at.invariant c.cut-cut.ensures c.in-Some.token c.in-Some.span c.in-Some.is), omega arith)

pub loop-at-preserved : goal.loop-at-preserved
loop-at-preserved c = rw c.put-in-Some-Closes.ensures (step_close c.loop-at.invariant c.cut-cut.ensures c.in-Some.token c.in-Some.span c.close.result.0 c.close.result.1 c.in-Some.is (sym c.bracket.ensures ∙ (c.in-Some-Closes.is ∙ ap Some c.in-Some-Closes.field-0-is)) (omega arith) (rw c.put-in-Some-Closes.ensures at c.close.ensures))

pub returns-then-state-clause-has : goal.returns-then-state-clause-has
returns-then-state-clause-has c = rw c.put-then-state.ensures (finish_quoted c.loop-at.invariant (omega arith) c.if-state.true (omega arith))

pub returns-else-state-clause-has : goal.returns-else-state-clause-has
returns-else-state-clause-has c = finish c.loop-at.invariant (omega arith) c.if-state.false
