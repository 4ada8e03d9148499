use Rattle.std.proofs.Common.{refl}
use Rattle.segments.specs.Layout.{table}
use Rattle.segments.proofs.Segments.new.Goals as goal

pub returns : goal.returns
unfolding table
returns c = refl
