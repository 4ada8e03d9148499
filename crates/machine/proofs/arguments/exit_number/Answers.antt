use Rattle.std.proofs.Common.{sym, refl, ◌∙◌}
use Rattle.words.proofs.Texts.{tail_is}
use Rattle.machine.proofs.Numbers.{exit_is, some_words}
use Rattle.machine.proofs.arguments.exit_number.Goals as goal

pub returns : goal.returns
returns c =
    let t = tail_is c.args.arguments.now c.args.arguments.now refl in
    rw t at c.number.ensures.is ∙ exit_is c.args.arguments.now c.args.status c.word_len.result (some_words (sym c.is_empty.ensures ∙ c.if-is_empty.false)) (rw t at c.word_len.ensures.is)
