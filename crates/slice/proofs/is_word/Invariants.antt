use Rattle.std.proofs.Common.{◌≡◌}
use Rattle.syntax.specs.Base.{same}
use Rattle.code.specs.Chains.{chain_of, links_of}
use Rattle.slice.specs.Says.{spelled}
use Rattle.slice.proofs.is_word.Given as goal

abbrev pub invariant-loop-at : goal.invariant-loop-at
invariant-loop-at l = record {
  can_next : (goal.iterator-loop-at).can_next l.at-iterator;
  is_finite : (goal.iterator-loop-at).is_finite l.at-iterator;
  still : same (spelled l.code.text.now l.code.words.now (chain_of l.code.words.now l.parts)) l.fn.name ≡ same (spelled l.code.text.now l.code.words.now (links_of l.at-iterator)) l.rest;
}
