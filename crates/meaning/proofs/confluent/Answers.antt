use Rattle.meaning.proofs.Core.{confluent_core}
use Rattle.meaning.proofs.confluent.Goals as goal

pub returns : goal.returns
returns c = confluent_core
