use Rattle.std.proofs.Common.{rules, tests}
use Rattle.std.proofs.lemmas.Iterator.{YieldsList-from_slice}
use Rattle.std.proofs.lemmas.Iterator.Search.{any_from_yields_List}
use Rattle.dice_tree.specs.Wildcards.{is_wildcard}
use Rattle.dice_tree.proofs.calm.has_wildcard.Goals as goal

pub returns : goal.returns
returns c = any_from_yields_List is_wildcard _ _ _ c.any.ensures.ran (YieldsList-from_slice c.args.bytes.now cc) (λ x b q k. search (rules, tests))
