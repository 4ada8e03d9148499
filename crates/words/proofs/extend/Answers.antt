use Rattle.words.proofs.Pushes.{pushed}
use Rattle.words.proofs.extend.Goals as goal

pub returns : goal.returns
returns c = pushed c.extend.result c.extend.ensures.same c.extend.ensures.after c.extend.ensures.says
