use Rattle.std.proofs.Common.{[], get_or, arith}
use Rattle.store.specs.Held.{model}
use Rattle.machine.proofs.Numbers.{choice_some, choice_none}
use Rattle.machine.proofs.builtins.push_choice.Goals as goal

pub returns-then-first-len : goal.returns-then-first-len
returns-then-first-len c = choice_none (get_or (model c.args.st.now) c.args.from []) c.args.first (omega arith) c.extend.ensures

pub returns : goal.returns
returns c = choice_some (get_or (model c.args.st.now) c.args.from []) c.args.first c.word_len-len.result (omega arith) (rw c.words_from.ensures at c.word_len-len.ensures.is) c.push_line.ensures
