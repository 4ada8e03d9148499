use Rattle.std.proofs.Common.{inl}
use Rattle.front.proofs.program.answer.Goals as goal

pub returns-in-Ok : goal.returns-in-Ok
returns-in-Ok g c = inl (c.in-Ok.options, c.act.ensures)
