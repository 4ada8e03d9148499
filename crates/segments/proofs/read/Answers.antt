use Rattle.segments.specs.Layout.{field}
use Rattle.segments.proofs.read.Goals as goal

pub returns : goal.returns
unfolding field
returns c = rw (← c.place.ensures.is) c.wide.ensures
