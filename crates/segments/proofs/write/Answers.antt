use Rattle.segments.specs.Layout.{filed}
use Rattle.segments.proofs.write.Goals as goal

pub returns : goal.returns
unfolding filed
returns c = rw (← c.place.ensures.is) c.put_wide.ensures
