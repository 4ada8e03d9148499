use Rattle.std.proofs.Common.{◌+◌, ◌-◌, length, sym, refl, ap, ◌∙◌, arith}
use Rattle.words.specs.Encoding.{word_length}
use Rattle.machine.specs.Arguments.{number_of}
use Rattle.words.proofs.Texts.{rest_is}
use Rattle.machine.proofs.Numbers.{some_words}
use Rattle.machine.proofs.Ranges.{range_bad, range_one, range_many, range_two, range_wrong}
use Rattle.machine.proofs.arguments.seq_range.Goals as goal

pub returns-in_err-a-clause-is : goal.returns-in_err-a-clause-is
returns-in_err-a-clause-is c = let z = some_words (sym c.is_empty.ensures ∙ c.if-is_empty.false) in rw c.from_residual.ensures (λ es s e. range_bad c.args.arguments.now es c.word_len-end.result (1 + c.word_len-end.result - 1) z s e c.word_len-end.ensures.is (omega arith) c.in_err-a.ensures.is)

pub returns-then-end-arguments-clause-is : goal.returns-then-end-arguments-clause-is
returns-then-end-arguments-clause-is c = let z = some_words (sym c.is_empty.ensures ∙ c.if-is_empty.false) in λ es s e. range_one c.args.arguments.now es c.word_len-end.result (1 + c.word_len-end.result - 1) c.in_ok-a.a z s e c.word_len-end.ensures.is (omega arith) c.in_ok-a.ensures.is (omega arith)

pub returns-then-word_len-rest-clause-is : goal.returns-then-word_len-rest-clause-is
returns-then-word_len-rest-clause-is c = let A = c.args.arguments.now in let n = c.word_len-end.result in let q = rest_is A A (1 + n + 1) refl in λ es s e. range_many A es n c.word_len.result s e c.word_len-end.ensures.is (omega arith) (c.word_len.ensures.is ∙ ap word_length q) (omega (arith, ap length q))

pub returns-in_err-b-clause-is : goal.returns-in_err-b-clause-is
returns-in_err-b-clause-is c = let A = c.args.arguments.now in let n = c.word_len-end.result in let q = rest_is A A (1 + n + 1) refl in rw c.from_residual-in_err-b.ensures (λ es s e. range_wrong A es n (1 + n - 1) c.in_ok-a.a c.word_len.result s e c.word_len-end.ensures.is (omega arith) (omega arith) c.in_ok-a.ensures.is (c.in_err-b.ensures.is ∙ ap number_of q))

pub returns-clause-is : goal.returns-clause-is
returns-clause-is c = let A = c.args.arguments.now in let n = c.word_len-end.result in let q = rest_is A A (1 + n + 1) refl in λ es s e. range_two A es n (1 + n - 1) c.in_ok-a.a c.in_ok-b.b c.word_len.result s e c.word_len-end.ensures.is (omega arith) (omega arith) c.in_ok-a.ensures.is (c.word_len.ensures.is ∙ ap word_length q) (omega (arith, ap length q)) (c.in_ok-b.ensures.is ∙ ap number_of q)
