use Rattle.syntax.proofs.Stages.{six_stages}
use Rattle.syntax.proofs.six_stages.Goals as goal

pub returns : goal.returns
returns c = six_stages
