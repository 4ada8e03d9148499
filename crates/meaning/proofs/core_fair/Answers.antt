use Rattle.meaning.proofs.Core.{core_fair}
use Rattle.meaning.proofs.core_fair.Goals as goal

pub returns : goal.returns
returns c = core_fair
