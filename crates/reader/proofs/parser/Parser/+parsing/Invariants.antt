use Rattle.std.proofs.Common.{◌+◌, ◌-◌, ◌*◌}
use Rattle.reader.proofs.AndOrs.{Joining}
use Rattle.syntax.specs.Tree.{Arms, Assignments, CommandList, Word, Pipeline, Redirects, Words}
use Rattle.syntax.specs.Stage.{arms_stage, assignments_stage, list_stage, word_stage, pipeline_stage, redirects_stage, words_stage}
use Rattle.grammar.specs.Parser.{level, parse_arms_go, parse_assignments_go, parse_list_go, parse_more_go, parse_pipeline_go, parse_redirects_go, parse_words_go}
use Rattle.code.specs.Layout.{ArmsAt, AssignmentsAt, ListAt, PartsAt, PipelineAt, RedirectsAt, WordsAt}
use Rattle.reader.specs.Stages.{stage_number}
use Rattle.reader.specs.Parsing.{SameWords}
use Rattle.reader.proofs.Chains.{Chain}
use Rattle.reader.proofs.parser.Parser.+parsing.Given as goal

abbrev pub decreases-and_or : goal.decreases-and_or
decreases-and_or l = 16 * l.self.now.left + 10

abbrev pub decreases-arms : goal.decreases-arms
decreases-arms l = 16 * l.self.now.left + 5

abbrev pub decreases-assignments : goal.decreases-assignments
decreases-assignments l = 16 * l.self.now.left + 5

abbrev pub decreases-case_command : goal.decreases-case_command
decreases-case_command l = 16 * l.self.now.left + 6

abbrev pub decreases-command : goal.decreases-command
decreases-command l = 16 * l.self.now.left + 7

abbrev pub decreases-else_part : goal.decreases-else_part
decreases-else_part l = 16 * l.self.now.left + 1

abbrev pub decreases-for_loop : goal.decreases-for_loop
decreases-for_loop l = 16 * l.self.now.left + 6

abbrev pub decreases-function : goal.decreases-function
decreases-function l = 16 * l.self.now.left + 6

abbrev pub decreases-group : goal.decreases-group
decreases-group l = 16 * l.self.now.left + 6

abbrev pub decreases-if_command : goal.decreases-if_command
decreases-if_command l = 16 * l.self.now.left + 6

abbrev pub decreases-list : goal.decreases-list
decreases-list l = 16 * l.self.now.left

abbrev pub decreases-more : goal.decreases-more
decreases-more l = 16 * l.self.now.left + 3

abbrev pub decreases-negatable : goal.decreases-negatable
decreases-negatable l = 16 * l.self.now.left + 9

abbrev pub decreases-part : goal.decreases-part
decreases-part l = 16 * l.self.now.left + 2

abbrev pub decreases-pipeline : goal.decreases-pipeline
decreases-pipeline l = 16 * l.self.now.left + 8

abbrev pub decreases-redirects : goal.decreases-redirects
decreases-redirects l = 16 * l.self.now.left + 5

abbrev pub decreases-simple : goal.decreases-simple
decreases-simple l = 16 * l.self.now.left + 6

abbrev pub decreases-subshell : goal.decreases-subshell
decreases-subshell l = 16 * l.self.now.left + 6

abbrev pub decreases-value : goal.decreases-value
decreases-value l = 16 * l.self.now.left + 4

abbrev pub decreases-while_loop : goal.decreases-while_loop
decreases-while_loop l = 16 * l.self.now.left + 6

abbrev pub decreases-word : goal.decreases-word
decreases-word l = 16 * l.self.now.left + 4

abbrev pub decreases-words : goal.decreases-words
decreases-words l = 16 * l.self.now.left + 5

abbrev pub invariant-and_or-pipelines : goal.invariant-and_or-pipelines
invariant-and_or-pipelines l = SameWords l.fn.cursor l.cursor × Joining l.self.tokens.text.now l.self.tokens.count l.fn.cursor.at l.self.left l.initial.cursor.code.now l.cursor.code.now l.fn.cursor.free l.cursor.at l.cursor.free l.node (stage_number l.fn.cursor.stage) (stage_number l.cursor.stage)

abbrev pub decreases-and_or-pipelines : goal.decreases-and_or-pipelines
decreases-and_or-pipelines l = l.self.tokens.count - l.cursor.at

abbrev pub invariant-arms-arms : goal.invariant-arms-arms
invariant-arms-arms l = SameWords l.initial.cursor l.cursor × Chain Arms arms_stage (parse_arms_go (level l.self.left)) (ArmsAt l.self.tokens.text.now) l.self.tokens.text.now l.self.tokens.count l.initial.cursor.at l.initial.cursor.code.now l.cursor.code.now l.initial.cursor.free l.initial.open l.cursor.at l.cursor.free l.open (stage_number l.initial.cursor.stage) (stage_number l.cursor.stage)

abbrev pub decreases-arms-arms : goal.decreases-arms-arms
decreases-arms-arms l = l.self.tokens.count - l.cursor.at

abbrev pub invariant-assignments-assignments : goal.invariant-assignments-assignments
invariant-assignments-assignments l = SameWords l.initial.cursor l.cursor × Chain Assignments assignments_stage (parse_assignments_go (level l.self.left)) (AssignmentsAt l.self.tokens.text.now) l.self.tokens.text.now l.self.tokens.count l.initial.cursor.at l.initial.cursor.code.now l.cursor.code.now l.initial.cursor.free l.initial.open l.cursor.at l.cursor.free l.open (stage_number l.initial.cursor.stage) (stage_number l.cursor.stage)

abbrev pub decreases-assignments-assignments : goal.decreases-assignments-assignments
decreases-assignments-assignments l = l.self.tokens.count - l.cursor.at

abbrev pub invariant-list-commands : goal.invariant-list-commands
invariant-list-commands l = SameWords l.initial.cursor l.cursor × Chain CommandList list_stage (parse_list_go (level (l.self.left - 1)) l.last) (ListAt l.self.tokens.text.now) l.self.tokens.text.now l.self.tokens.count l.initial.cursor.at l.initial.cursor.code.now l.cursor.code.now l.initial.cursor.free l.initial.open l.cursor.at l.cursor.free l.open (stage_number l.initial.cursor.stage) (stage_number l.cursor.stage)

abbrev pub decreases-list-commands : goal.decreases-list-commands
decreases-list-commands l = l.self.tokens.count - l.cursor.at

abbrev pub invariant-more-parts : goal.invariant-more-parts
invariant-more-parts l = SameWords l.initial.cursor l.cursor × Chain Word word_stage (parse_more_go (level l.self.left)) (PartsAt l.self.tokens.text.now) l.self.tokens.text.now l.self.tokens.count l.initial.cursor.at l.initial.cursor.code.now l.cursor.code.now l.initial.cursor.free l.initial.open l.cursor.at l.cursor.free l.open (stage_number l.initial.cursor.stage) (stage_number l.cursor.stage)

abbrev pub decreases-more-parts : goal.decreases-more-parts
decreases-more-parts l = l.self.tokens.count - l.cursor.at

abbrev pub invariant-pipeline-commands : goal.invariant-pipeline-commands
invariant-pipeline-commands l = SameWords l.initial.cursor l.cursor × Chain Pipeline pipeline_stage (parse_pipeline_go (level l.self.left)) (PipelineAt l.self.tokens.text.now) l.self.tokens.text.now l.self.tokens.count l.initial.cursor.at l.initial.cursor.code.now l.cursor.code.now l.initial.cursor.free l.initial.open l.cursor.at l.cursor.free l.open (stage_number l.initial.cursor.stage) (stage_number l.cursor.stage)

abbrev pub decreases-pipeline-commands : goal.decreases-pipeline-commands
decreases-pipeline-commands l = l.self.tokens.count - l.cursor.at

abbrev pub invariant-redirects-redirects : goal.invariant-redirects-redirects
invariant-redirects-redirects l = SameWords l.initial.cursor l.cursor × Chain Redirects redirects_stage (parse_redirects_go (level l.self.left)) (RedirectsAt l.self.tokens.text.now) l.self.tokens.text.now l.self.tokens.count l.initial.cursor.at l.initial.cursor.code.now l.cursor.code.now l.initial.cursor.free l.initial.open l.cursor.at l.cursor.free l.open (stage_number l.initial.cursor.stage) (stage_number l.cursor.stage)

abbrev pub decreases-redirects-redirects : goal.decreases-redirects-redirects
decreases-redirects-redirects l = l.self.tokens.count - l.cursor.at

abbrev pub invariant-words-words : goal.invariant-words-words
invariant-words-words l = SameWords l.initial.cursor l.cursor × Chain Words words_stage (parse_words_go (level l.self.left)) (WordsAt l.self.tokens.text.now) l.self.tokens.text.now l.self.tokens.count l.initial.cursor.at l.initial.cursor.code.now l.cursor.code.now l.initial.cursor.free l.initial.open l.cursor.at l.cursor.free l.open (stage_number l.initial.cursor.stage) (stage_number l.cursor.stage)

abbrev pub decreases-words-words : goal.decreases-words-words
decreases-words-words l = l.self.tokens.count - l.cursor.at
