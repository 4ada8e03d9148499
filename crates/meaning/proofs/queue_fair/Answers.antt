use Rattle.meaning.proofs.Queue.{queue_fair}
use Rattle.meaning.proofs.queue_fair.Goals as goal

pub returns : goal.returns
returns c = queue_fair
