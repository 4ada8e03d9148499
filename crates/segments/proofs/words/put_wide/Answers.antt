use Rattle.std.proofs.Common.{refl}
use Rattle.segments.specs.Words.{put64}
use Rattle.segments.proofs.words.put_wide.Goals as goal

pub returns : goal.returns
unfolding put64
returns c = refl
