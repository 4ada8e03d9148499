use Rattle.words.proofs.Pushes.{pushed}
use Rattle.words.proofs.append.Goals as goal

pub returns : goal.returns
returns c = pushed c.append.result c.append.ensures.same c.append.ensures.after c.append.ensures.says
