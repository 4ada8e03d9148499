-- Lists in lists: each level of them is one less that may come. Within a level the functions call downward; each loop goes
-- on by a token in each turn.
use Rattle.std.proofs.Common.{◌≤◌, ◌+◌, ◌*◌}
use Rattle.dice_tree.proofs.parser.Parser.+parsing.Given as goal

abbrev pub decreases-and_or : goal.decreases-and_or
decreases-and_or l = 16 * l.left + 10

abbrev pub decreases-arms : goal.decreases-arms
decreases-arms l = 16 * l.left + 5

abbrev pub decreases-assignments : goal.decreases-assignments
decreases-assignments l = 16 * l.left + 4

abbrev pub decreases-case_command : goal.decreases-case_command
decreases-case_command l = 16 * l.left + 6

abbrev pub decreases-command : goal.decreases-command
decreases-command l = 16 * l.left + 8

abbrev pub decreases-compound : goal.decreases-compound
decreases-compound l = 16 * l.left + 7

abbrev pub decreases-do_part : goal.decreases-do_part
decreases-do_part l = 16 * l.left + 1

abbrev pub decreases-else_part : goal.decreases-else_part
decreases-else_part l = 16 * l.left + 1

abbrev pub decreases-for_command : goal.decreases-for_command
decreases-for_command l = 16 * l.left + 6

abbrev pub decreases-function : goal.decreases-function
decreases-function l = 16 * l.left + 6

abbrev pub decreases-group : goal.decreases-group
decreases-group l = 16 * l.left + 6

abbrev pub decreases-if_command : goal.decreases-if_command
decreases-if_command l = 16 * l.left + 6

abbrev pub decreases-joined_parts : goal.decreases-joined_parts
decreases-joined_parts l = 16 * l.left + 2

abbrev pub decreases-list : goal.decreases-list
decreases-list l = 16 * l.left + 0

abbrev pub decreases-more_words : goal.decreases-more_words
decreases-more_words l = 16 * l.left + 4

abbrev pub decreases-part : goal.decreases-part
decreases-part l = 16 * l.left + 1

abbrev pub decreases-pipeline : goal.decreases-pipeline
decreases-pipeline l = 16 * l.left + 9

abbrev pub decreases-redirects : goal.decreases-redirects
decreases-redirects l = 16 * l.left + 4

abbrev pub decreases-simple : goal.decreases-simple
decreases-simple l = 16 * l.left + 6

abbrev pub decreases-subshell : goal.decreases-subshell
decreases-subshell l = 16 * l.left + 6

abbrev pub decreases-while_command : goal.decreases-while_command
decreases-while_command l = 16 * l.left + 6

abbrev pub decreases-word : goal.decreases-word
decreases-word l = 16 * l.left + 3

abbrev pub invariant-and_or-loop-joiner : goal.invariant-and_or-loop-joiner
invariant-and_or-loop-joiner l = l.self ≤ l.initial.self

abbrev pub decreases-and_or-loop-joiner : goal.decreases-and_or-loop-joiner
decreases-and_or-loop-joiner l = l.self

abbrev pub invariant-arms-loop-self : goal.invariant-arms-loop-self
invariant-arms-loop-self l = l.self ≤ l.initial.self

abbrev pub decreases-arms-loop-self : goal.decreases-arms-loop-self
decreases-arms-loop-self l = l.self

abbrev pub invariant-assignments-loop-name : goal.invariant-assignments-loop-name
invariant-assignments-loop-name l = l.self ≤ l.initial.self

abbrev pub decreases-assignments-loop-name : goal.decreases-assignments-loop-name
decreases-assignments-loop-name l = l.self

abbrev pub invariant-joined_parts-loop-parts : goal.invariant-joined_parts-loop-parts
invariant-joined_parts-loop-parts l = l.self ≤ l.initial.self

abbrev pub decreases-joined_parts-loop-parts : goal.decreases-joined_parts-loop-parts
decreases-joined_parts-loop-parts l = l.self

abbrev pub invariant-list-loop-last : goal.invariant-list-loop-last
invariant-list-loop-last l = l.self ≤ l.initial.self

abbrev pub decreases-list-loop-last : goal.decreases-list-loop-last
decreases-list-loop-last l = l.self

abbrev pub invariant-more_words-loop-words : goal.invariant-more_words-loop-words
invariant-more_words-loop-words l = l.self ≤ l.initial.self

abbrev pub decreases-more_words-loop-words : goal.decreases-more_words-loop-words
decreases-more_words-loop-words l = l.self

abbrev pub invariant-pipeline-loop-commands : goal.invariant-pipeline-loop-commands
invariant-pipeline-loop-commands l = l.self ≤ l.initial.self

abbrev pub decreases-pipeline-loop-commands : goal.decreases-pipeline-loop-commands
decreases-pipeline-loop-commands l = l.self

abbrev pub invariant-redirects-loop-kind : goal.invariant-redirects-loop-kind
invariant-redirects-loop-kind l = l.self ≤ l.initial.self

abbrev pub decreases-redirects-loop-kind : goal.decreases-redirects-loop-kind
decreases-redirects-loop-kind l = l.self
