use Rattle.std.proofs.Common.{drop, sym, ap, ◌∙◌}
use Rattle.std.proofs.lemmas.List.{drop_all, take_rest}
use Rattle.store.proofs.Store.words_from.Goals as goal

pub returns-then-from-words : goal.returns-then-from-words
returns-then-from-words c = sym (ap (drop c.args.from) (sym c.words-words.ensures) ∙ drop_all c.args.from c.words-words.result.now c.if-from-words.true)

pub returns : goal.returns
returns c = take_rest c.words-words.result.now c.args.from ∙ ap (drop c.args.from) c.words-words.ensures
