use Rattle.std.proofs.Common.{◌≡◌, slice_index, ◌+◌, ◌*◌, ◌<◌}
use Rattle.syntax.specs.Tree.{CommandList, AndOr}
use Rattle.syntax.specs.Depth.{list_depth, and_or_depth}
use Rattle.code.specs.Chains.{ends, ends_at, links_of}
use Rattle.code.specs.Code.{ListCode, AndOrCode}
use Rattle.slice.proofs.Walks.{ListWalk, AndOrWalk}
use Rattle.slice.proofs.+parsing.Given as goal

abbrev pub decreases-covers_commands : goal.decreases-covers_commands
decreases-covers_commands l = 5 * l.left + 3

abbrev pub decreases-covers_else : goal.decreases-covers_else
decreases-covers_else l = 5 * l.left + 4

abbrev pub decreases-covers_and_or : goal.decreases-covers_and_or
decreases-covers_and_or l = 5 * l.left + 2

abbrev pub decreases-covers_pipeline : goal.decreases-covers_pipeline
decreases-covers_pipeline l = 5 * l.left + 1

abbrev pub decreases-covers_command : goal.decreases-covers_command
decreases-covers_command l = 5 * l.left

abbrev pub invariant-covers_and_or-loop-at : goal.invariant-covers_and_or-loop-at
invariant-covers_and_or-loop-at l = record {
  can_next : (goal.iterator-covers_and_or-loop-at).can_next l.earlier;
  is_finite : (goal.iterator-covers_and_or-loop-at).is_finite l.earlier;
  end : ends l.earlier ≡ ends_at l.code.words.now (slice_index l.code.words.now l.last);
  walk : (x : AndOr) → AndOrCode l.code.text.now l.code.words.now l.last x → and_or_depth x < l.left → AndOrWalk l.code.text.now l.code.words.now (links_of l.earlier) l.left x;
}

abbrev pub invariant-covers_commands-loop-at : goal.invariant-covers_commands-loop-at
invariant-covers_commands-loop-at l = record {
  can_next : (goal.iterator-covers_commands-loop-at).can_next l.items;
  is_finite : (goal.iterator-covers_commands-loop-at).is_finite l.items;
  end : ends l.items ≡ ends_at l.code.words.now l.root;
  walk : (x : CommandList) → ListCode l.code.text.now l.code.words.now l.root x → list_depth x < l.left → ListWalk l.code.text.now l.code.words.now (links_of l.items) l.left x;
}
