use Rattle.grammar.proofs.Both.{parser_agrees}
use Rattle.grammar.proofs.parser_agrees.Goals as goal

pub returns : goal.returns
returns c = parser_agrees
