use Rattle.std.proofs.Common.{length}
use Rattle.front.proofs.options.Options.parse.Given as goal

abbrev pub invariant-loop-word : goal.invariant-loop-word
invariant-loop-word l = Unit {0}

abbrev pub decreases-loop-word : goal.decreases-loop-word
decreases-loop-word l = length l.words.rest.items
