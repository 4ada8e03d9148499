use Rattle.meaning.proofs.Own.{isolated}
use Rattle.meaning.proofs.isolated.Goals as goal

pub returns : goal.returns
returns c = isolated
