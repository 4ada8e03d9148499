use Rattle.std.proofs.Common.{rules}
use Rattle.std.proofs.lemmas.Slice.{overwrites}
use Rattle.segments.proofs.words.put_words.Goals as goal

pub returns : goal.returns
returns c = record { len = search (rules, overwrites); front = search (rules, overwrites); mid = search (rules, overwrites); back = search (rules, overwrites) }
