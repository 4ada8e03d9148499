use Rattle.std.proofs.Common.{◌≡◌, ◌^◌, ◌<◌, drop}
use Rattle.meaning.specs.Words.{digits_value}
use Rattle.machine.specs.Arguments.{lows}
use Rattle.machine.proofs.arguments.number.Given as goal

abbrev pub invariant-loop-w : goal.invariant-loop-w
invariant-loop-w l = record {
  value : digits_value l.n (lows (drop l.w-index l.word)) ≡ digits_value 0 (lows l.word);
  small : l.n < 10 ^ l.w-index;
}
