use Rattle.within.proofs.Forms.{never_beyond}
use Rattle.within.proofs.never_beyond.Goals as goal

pub returns : goal.returns
returns c = never_beyond
