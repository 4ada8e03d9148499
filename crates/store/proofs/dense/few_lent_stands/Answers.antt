use Rattle.store.proofs.Bounds.{few_for_words, few_for_fresh, few_for_block}
use Rattle.store.proofs.dense.few_lent_stands.Goals as goal

pub returns : goal.returns
returns c = record { words = few_for_words; fresh = few_for_fresh; block = few_for_block }
