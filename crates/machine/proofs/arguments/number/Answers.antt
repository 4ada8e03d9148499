use mathlib.Core.Option.{none}
use Rattle.meaning.specs.Words.{digits_value}
use Rattle.std.proofs.Common.{◌≡◌, ℕ, List, length, get_or, drop, ◌%◌, ◌+◌, ◌*◌, ◌<◌, sym, ap, ◌∙◌, inl, inr, arith}
use Rattle.std.specs.Char.{IsNotAsciiDigit}
use Rattle.machine.specs.Arguments.{lows, maybe}
use Rattle.machine.proofs.Numbers.{no_words, some_words, number_short, number_long, number_right, digit_low, digit_high, digit_end, pow_next, pow_small}
use Rattle.machine.proofs.arguments.number.Goals as goal
use Rattle.machine.proofs.arguments.number.Goals.{then-is_empty-via-then-is_empty, then-is_empty-via-else-is_empty+then-word-gt-MOST_DIGITS}

pub returns-then-is_empty-clause-is : goal.returns-then-is_empty-clause-is
returns-then-is_empty-clause-is c = elim c.then-is_empty.branch [ then-is_empty-via-then-is_empty w ↦ number_short c.args.word.now (no_words (sym c.is_empty.ensures ∙ w.if-is_empty.true)) | then-is_empty-via-else-is_empty+then-word-gt-MOST_DIGITS w ↦ number_long c.args.word.now (omega (arith, w.if-word-gt-MOST_DIGITS.true)) ]

pub overflow_mul-n : goal.overflow_mul-n
overflow_mul-n c = omega (arith, pow_small (c.loop-w.w-index + 1) (c.loop-w.n * 10 + 0) (pow_next c.loop-w.w-index c.loop-w.n 0 c.loop-w.invariant.small (omega arith)) (omega arith))

pub overflow_add-n : goal.overflow_add-n
overflow_add-n c = let d = c.if-not-is_ascii_digit.ensures.cases in omega (arith, d, c.from.ensures, pow_small (c.loop-w.w-index + 1) (c.loop-w.n * 10 + 9) (pow_next c.loop-w.w-index c.loop-w.n 9 c.loop-w.invariant.small (omega arith)) (omega arith))

no_digit : (ws : List ℕ) (n i : ℕ) → i < length ws → IsNotAsciiDigit (get_or ws i 0 % 256) → digits_value n (lows (drop i ws)) ≡ none
no_digit ws n i l h = elim h [ inl a ↦ digit_low ws n i l a | inr b ↦ digit_high ws n i l b ]

pub returns-then-not-is_ascii_digit-clause-is : goal.returns-then-not-is_ascii_digit-clause-is
returns-then-not-is_ascii_digit-clause-is c =
    let s = some_words (sym c.is_empty.ensures ∙ c.if-is_empty.false) in
    sym (number_right c.args.word.now (omega (arith, s)) (omega arith) ∙ ap maybe (sym c.loop-w.invariant.value ∙ no_digit c.args.word.now c.loop-w.n c.loop-w.w-index (omega arith) c.if-not-is_ascii_digit.ensures.cases))

pub returns-clause-is : goal.returns-clause-is
returns-clause-is c = let s = some_words (sym c.is_empty.ensures ∙ c.if-is_empty.false) in sym (number_right c.args.word.now (omega (arith, s)) (omega arith) ∙ ap maybe (sym c.loop-w.invariant.value ∙ digit_end c.args.word.now c.loop-w.n c.loop-w.w-index (omega arith)))
