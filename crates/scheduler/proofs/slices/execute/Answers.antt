use Rattle.std.proofs.Common.{length}
use Rattle.store.specs.Held.{model}
use Rattle.scheduler.proofs.Going.{begins, short}
use Rattle.scheduler.proofs.slices.execute.Goals as goal

pub run_slices-requires-clause-goes : goal.run_slices-requires-clause-goes
run_slices-requires-clause-goes c = let b = c.in-Ok.ensures in begins c.args.code.text.now c.args.code.words.now c.args.root _ (model c.in-Ok.st) c.args.paper.now b.fits b.lists

pub returns-in-Err : goal.returns-in-Err
returns-in-Err c = rw (c.ended.ensures, c.into.ensures) (short _ _ _ _ (length c.args.words.now) _ c.in-Err.ensures)
