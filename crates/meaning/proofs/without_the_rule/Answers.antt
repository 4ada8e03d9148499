use Rattle.meaning.proofs.Refuted.{without_the_rule}
use Rattle.meaning.proofs.without_the_rule.Goals as goal

pub returns : goal.returns
returns c = without_the_rule
