use Rattle.std.proofs.Common.{◌≡◌, ℕ, Bool, true, not, Option, None, Ok, ap, ◌∙◌, arith}
use Rattle.std.specs.Option.{is_some}
use Rattle.scheduler.proofs.Going.{goes_on, spent, ended, halted, never_still}
use Rattle.scheduler.proofs.slices.run_slices.Goals as goal

none_is : (o : Option ℕ) (b : Bool) → is_some o ≡ not b → b ≡ true → None ≡ o
none_is o b e h = grind arith

pub returns-then-is_none : goal.returns-then-is_none
returns-then-is_none c = never_still c.args.most c.args.words (none_is _ _ c.is_none.ensures c.if-is_none.true ∙ c.first_ready.ensures) c.loop-made.invariant.goes

pub returns-in-Exited : goal.returns-in-Exited
returns-in-Exited c = let i = c.loop-made.invariant in rw c.ended-in-Exited.ensures (ended c.args.most c.args.words c.in-Exited.status (c.in-Ok.is ∙ ap Ok c.in-Exited.is) (rw i.numbers at c.run_stretch-stretch.ensures.says.stretches) (rw i.numbers at c.run_stretch-stretch.ensures.onward) i.goes)

pub returns-in-Err : goal.returns-in-Err
returns-in-Err c = let i = c.loop-made.invariant in rw c.ended-in-Err.ensures (halted c.in-Err.halt c.args.most c.args.words c.in-Err.is (rw i.numbers at c.run_stretch-stretch.ensures.says.stretches) (rw i.numbers at c.run_stretch-stretch.ensures.onward) i.goes)

pub loop-made-preserved : goal.loop-made-preserved
loop-made-preserved c = let i = c.loop-made.invariant in record { numbers = c.rotate.ensures.same ∙ c.run_stretch-stretch.ensures.says.same ∙ i.numbers; within = omega arith; goes = goes_on (c.in-Ok.is ∙ ap Ok c.in-Spent.is) c.rotate.ensures.after (rw i.numbers at c.run_stretch-stretch.ensures.says.stretches) (rw i.numbers at c.run_stretch-stretch.ensures.onward) i.goes }

pub returns : goal.returns
returns c = let i = c.loop-made.invariant in rw c.ended-2.ensures (spent c.args.words c.args.most (omega (arith, i.within)) i.goes)
