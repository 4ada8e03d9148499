use Rattle.confluence.proofs.Confluence.{confluent}
use Rattle.confluence.proofs.confluent.Goals as goal

pub returns : goal.returns
returns c = confluent
