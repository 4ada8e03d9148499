use Rattle.std.proofs.Common.{◌+◌, ◌*◌}
use Rattle.view.proofs.tree.Level.+showing.Given as goal

abbrev pub decreases-list : goal.decreases-list
decreases-list l = 16 * l.self.left

abbrev pub decreases-and_or : goal.decreases-and_or
decreases-and_or l = 16 * l.self.left + 15

abbrev pub decreases-pipeline : goal.decreases-pipeline
decreases-pipeline l = 16 * l.self.left + 14

abbrev pub decreases-command : goal.decreases-command
decreases-command l = 16 * l.self.left + 13

abbrev pub decreases-simple : goal.decreases-simple
decreases-simple l = 16 * l.self.left + 12

abbrev pub decreases-branches : goal.decreases-branches
decreases-branches l = 16 * l.self.left + 12

abbrev pub decreases-rounds : goal.decreases-rounds
decreases-rounds l = 16 * l.self.left + 12

abbrev pub decreases-choice : goal.decreases-choice
decreases-choice l = 16 * l.self.left + 12

abbrev pub decreases-enclosed : goal.decreases-enclosed
decreases-enclosed l = 16 * l.self.left + 12

abbrev pub decreases-section : goal.decreases-section
decreases-section l = 16 * l.self.left + 11

abbrev pub decreases-closed : goal.decreases-closed
decreases-closed l = 16 * l.self.left + 10

abbrev pub decreases-arms : goal.decreases-arms
decreases-arms l = 16 * l.self.left + 10

abbrev pub decreases-assignments : goal.decreases-assignments
decreases-assignments l = 16 * l.self.left + 9

abbrev pub decreases-redirects : goal.decreases-redirects
decreases-redirects l = 16 * l.self.left + 9

abbrev pub decreases-words : goal.decreases-words
decreases-words l = 16 * l.self.left + 9

abbrev pub decreases-word : goal.decreases-word
decreases-word l = 16 * l.self.left + 8

abbrev pub decreases-part : goal.decreases-part
decreases-part l = 16 * l.self.left + 7

abbrev pub invariant-and_or-loop-at : goal.invariant-and_or-loop-at
invariant-and_or-loop-at l =
    (goal.iterator-and_or-loop-at).can_next l.at-iterator
    × (goal.iterator-and_or-loop-at).is_finite l.at-iterator

abbrev pub invariant-arms-loop-at : goal.invariant-arms-loop-at
invariant-arms-loop-at l =
    (goal.iterator-arms-loop-at).can_next l.at-iterator
    × (goal.iterator-arms-loop-at).is_finite l.at-iterator

abbrev pub invariant-assignments-loop-at : goal.invariant-assignments-loop-at
invariant-assignments-loop-at l =
    (goal.iterator-assignments-loop-at).can_next l.at-iterator
    × (goal.iterator-assignments-loop-at).is_finite l.at-iterator

abbrev pub invariant-list-loop-at : goal.invariant-list-loop-at
invariant-list-loop-at l =
    (goal.iterator-list-loop-at).can_next l.at-iterator
    × (goal.iterator-list-loop-at).is_finite l.at-iterator

abbrev pub invariant-pipeline-loop-at : goal.invariant-pipeline-loop-at
invariant-pipeline-loop-at l =
    (goal.iterator-pipeline-loop-at).can_next l.at-iterator
    × (goal.iterator-pipeline-loop-at).is_finite l.at-iterator

abbrev pub invariant-redirects-loop-at : goal.invariant-redirects-loop-at
invariant-redirects-loop-at l =
    (goal.iterator-redirects-loop-at).can_next l.at-iterator
    × (goal.iterator-redirects-loop-at).is_finite l.at-iterator

abbrev pub invariant-words-loop-at : goal.invariant-words-loop-at
invariant-words-loop-at l =
    (goal.iterator-words-loop-at).can_next l.at-iterator
    × (goal.iterator-words-loop-at).is_finite l.at-iterator

abbrev pub invariant-word-loop-at : goal.invariant-word-loop-at
invariant-word-loop-at l =
    (goal.iterator-word-loop-at).can_next l.at-iterator
    × (goal.iterator-word-loop-at).is_finite l.at-iterator
