use Rattle.grammar.proofs.Both.{unambiguous}
use Rattle.grammar.proofs.unambiguous.Goals as goal

pub returns : goal.returns
returns c = unambiguous
