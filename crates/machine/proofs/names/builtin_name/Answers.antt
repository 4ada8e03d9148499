use Rattle.std.proofs.Common.{sym, refl, ◌∙◌, arith}
use Rattle.machine.proofs.NameTable.{found_here, found_later, found_none}
use Rattle.machine.proofs.names.builtin_name.Goals as goal

pub loop-name-init : goal.loop-name-init
loop-name-init c = refl

pub returns-then-is_named : goal.returns-then-is_named
returns-then-is_named c = sym (found_here _ c.args.words.now c.loop-name.name-index _ (omega arith) (sym c.is_named.ensures ∙ c.if-is_named.true)) ∙ c.loop-name.invariant

pub loop-name-preserved : goal.loop-name-preserved
loop-name-preserved c = sym (found_later _ c.args.words.now c.loop-name.name-index _ (omega arith) (sym c.is_named.ensures ∙ c.if-is_named.false)) ∙ c.loop-name.invariant

pub returns : goal.returns
returns c = sym (found_none _ c.args.words.now c.loop-name.name-index (omega arith)) ∙ c.loop-name.invariant
