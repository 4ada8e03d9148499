use Rattle.std.proofs.Common.{refl}
use Rattle.segments.specs.Words.{at64}
use Rattle.segments.proofs.words.wide.Goals as goal

pub returns : goal.returns
unfolding at64
returns c = refl
