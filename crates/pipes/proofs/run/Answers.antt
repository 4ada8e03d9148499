use Rattle.std.proofs.Common.{arith}
use Rattle.reader.proofs.Wholes.{too_long}
use Rattle.pipes.proofs.Answers.{few_said, no_text, not_yet}
use Rattle.pipes.proofs.run.Goals as goal

pub returns-then-too_few-clause-says : goal.returns-then-too_few-clause-says
returns-then-too_few-clause-says c = few_said c.args.text.now c.args.input.now c.args.most _ c.args.paper.now c.too_few.result c.too_few.ensures c.if-too_few.true

pub returns-then-text-gt-MAX_TEXT-clause-says : goal.returns-then-text-gt-MAX_TEXT-clause-says
returns-then-text-gt-MAX_TEXT-clause-says c = no_text c.args.text.now c.args.input.now c.args.most _ c.args.paper.now c.too_few.result c.too_few.ensures c.if-too_few.false (too_long c.args.text.now 0 (omega arith) (omega arith)).none

pub returns-in_default-clause-says : goal.returns-in_default-clause-says
returns-in_default-clause-says c = no_text c.args.text.now c.args.input.now c.args.most _ c.args.paper.now c.too_few.result c.too_few.ensures c.if-too_few.false c.in_default.ensures.none

pub returns-clause-says : goal.returns-clause-says
returns-clause-says c = not_yet c.args.text.now c.args.input.now c.args.most _ c.args.paper.now c.too_few.result c.too_few.ensures _ _ _ _ c.if-too_few.false c.in-Ok.ensures
