use Rattle.std.proofs.Common.{rules, ℕ, ◌+◌, ◌-◌, max, take, drop, length-set, sym, refl, ap, ◌∙◌, arith}
use Rattle.std.proofs.lemmas.Result.{on_ok_weaker, on_err_weaker}
use Rattle.grammar.specs.Parser.{level, ends_list, is_newline, is_not}
use Rattle.syntax.specs.Base.{pick}
use Rattle.syntax.specs.Stage.{has_wildcard}
use Rattle.code.specs.Layout.{flag}
use Rattle.lexer.specs.Codes.{next_code, part_code}
use Rattle.lexer.specs.Stored.{tokens_from, code_at}
use Rattle.reader.specs.Reading.{names, ends_words, part_tag, may_be_first, joins, tag_stage}
use Rattle.reader.specs.Stages.{stage_number}
use Rattle.reader.proofs.Basics.{on_err, not_true, true_false}
use Rattle.reader.proofs.Nexts.{before, flagged, redirect_range, substitution_code, substitution_number, low_number, low_before, newline_code, not_code}
use Rattle.reader.proofs.AndOrs.{and_or_end, and_or_fail, and_or_step, rebased, negated_kept, joining_at}
use Rattle.reader.proofs.ArmChains.{arms_hold, arms_blank, arms_end, arms_1, arms_2, arms_3, arms_4, arms_step}
use Rattle.reader.proofs.Setting.{assignments_hold, assignments_end, assignments_fail, assignments_step, set_bounds, value_part}
use Rattle.reader.proofs.Compounds.{case_1, case_2, case_3, case_4, case_5, case_6, case_got, for_1, for_2, for_3, for_4, for_5, for_6, for_7, for_8, for_9, for_got, function_1, function_2, function_3, function_4, function_5, function_6, function_got, group_1, group_2, group_3, group_4, group_got, if_1, if_2, if_3, if_4, if_5, if_6, if_got, subshell_1, subshell_2, subshell_3, subshell_4, subshell_got, while_1, while_2, while_3, while_4, while_5, while_6, while_got}
use Rattle.reader.proofs.Elses.{fi_got, else_none, else_open, else_got, elif_no, elif_1, elif_2, elif_3, elif_4, elif_got}
use Rattle.reader.proofs.Levels.{no_elses, no_lists}
use Rattle.reader.proofs.Lists.{list_hold, list_close, list_blank, list_1, list_next, list_open, list_last, inside}
use Rattle.reader.proofs.Parts.{more_holds, more_ends, more_fails, more_steps, part_none, part_low, run_none, run_open, run_got, word_sticky, word_got}
use Rattle.reader.proofs.Pipelines.{plain_none, plain_got, negated_none, negated_got, pipeline_hold, pipeline_fail, pipeline_end, pipeline_step}
use Rattle.reader.proofs.Lines.{redirects_hold, redirects_end, redirects_fail, redirects_step, words_hold, words_end, words_fail, words_step}
use Rattle.reader.proofs.SimpleCommands.{empty_none, alone_got, sticky_none, not_first, word_out, words_out, redirects_out, simple_got}
use Rattle.reader.proofs.parser.Parser.+parsing.Goals as goal

pub and_or-pipelines-init : goal.and_or-pipelines-init
and_or-pipelines-init t c = ((search rules, omega (arith, length-set {A = ℕ})), joining_at c.args.self.now.tokens.text.now c.args.self.now.tokens.count c.args.cursor.now.at c.args.self.now.left c.args.cursor.now.code.now c.args.cursor.now.free (stage_number c.args.cursor.now.stage) (omega (arith, c.requires.link)) c.in_ok-negatable.ensures.read)

pub and_or-pipelines-preserved : goal.and_or-pipelines-preserved
and_or-pipelines-preserved t c = ((search rules, omega (arith, length-set {A = ℕ})), and_or_step c.args.self.now.left c.args.self.now.tokens.has c.pipelines.invariant.1 (next_code c.peek.result) c.peek.ensures c.in-Some.ensures.0 c.in-Some.ensures.1 (before c.pipelines.cursor.at c.args.self.now.tokens.has (omega (arith, c.peek.ensures, c.in-Some.ensures.1))) c.from.result (flagged c.in-Some.both _ c.from.ensures ∙ c.in-Some.ensures.2) c.in_ok-negatable-2.ensures.read)

pub and_or-returns-clause-read : goal.and_or-returns-clause-read
and_or-returns-clause-read t c = and_or_end c.args.self.now.left c.args.self.now.tokens.has (rebased c.args.cursor.now.code.now (negated_kept c.args.self.now.tokens.text.now c.args.self.now.tokens.count c.args.cursor.now.at c.args.self.now.left c.args.cursor.now.code.now c.args.cursor.now.free (stage_number c.args.cursor.now.stage) c.in_ok-negatable.ensures.read) c.pipelines.invariant.1) (next_code c.peek.result) c.peek.ensures c.args.link c.requires.link c.in_default.ensures

pub and_or-returns-in_err-negatable-2-clause-no_pipelines : goal.and_or-returns-in_err-negatable-2-clause-no_pipelines
and_or-returns-in_err-negatable-2-clause-no_pipelines t c = on_err _ (and_or_fail c.args.self.now.left c.args.self.now.tokens.has (rebased c.args.cursor.now.code.now (negated_kept c.args.self.now.tokens.text.now c.args.self.now.tokens.count c.args.cursor.now.at c.args.self.now.left c.args.cursor.now.code.now c.args.cursor.now.free (stage_number c.args.cursor.now.stage) c.in_ok-negatable.ensures.read) c.pipelines.invariant.1) (next_code c.peek.result) c.peek.ensures c.in-Some.ensures.0 c.in-Some.ensures.1 (before c.pipelines.cursor.at c.args.self.now.tokens.has (omega (arith, c.peek.ensures, c.in-Some.ensures.1))) c.in_err-negatable-2.ensures.no_pipeline)

pub arms-arms-init : goal.arms-arms-init
arms-arms-init t c = ((search rules, omega (arith, length-set {A = ℕ})), arms_hold c.args.self.now.tokens.text.now c.args.self.now.tokens.count c.args.cursor.now.at c.args.self.now.left c.args.self.now.tokens.words.now c.args.cursor.now.code.now c.args.cursor.now.free c.args.link (stage_number c.args.cursor.now.stage) c.args.self.now.tokens.has (omega arith) (omega arith) (omega arith))

pub arms-arms-preserved : goal.arms-arms-preserved
arms-arms-preserved t c = ((search rules, omega (arith, length-set {A = ℕ})), arms_step c.args.self.now.left c.args.self.now.tokens.has c.arms.invariant.1 (not_true c.if-next_is.ensures.1) (before c.arms.cursor.at c.args.self.now.tokens.has (omega (arith, c.if-not-next_is.ensures.0 refl))) (c.if-not-next_is.ensures.0 refl) c.in_ok-word.ensures.read c.in_ok-separator.ensures.found c.in_ok-list.ensures.read c.in_ok-sign.ensures.found)

pub arms-arms-preserved-then-next_is : goal.arms-arms-preserved-then-next_is
arms-arms-preserved-then-next_is t c = ((search rules, omega (arith, length-set {A = ℕ})), arms_blank c.args.self.now.left c.args.self.now.tokens.has c.arms.invariant.1 (before c.arms.cursor.at c.args.self.now.tokens.has (omega (arith, c.if-next_is.ensures.0 refl))) (c.if-next_is.ensures.0 refl))

pub arms-returns-clause-read : goal.arms-returns-clause-read
arms-returns-clause-read t c = arms_end c.args.self.now.left c.args.self.now.tokens.has c.arms.invariant.1 (not_true c.if-next_is.ensures.1) (not_true c.if-not-next_is.ensures.1)

pub arms-returns-in_err-list-clause-no_arms : goal.arms-returns-in_err-list-clause-no_arms
arms-returns-in_err-list-clause-no_arms t c = on_err _ (arms_3 c.args.self.now.left c.args.self.now.tokens.has c.arms.invariant.1 (not_true c.if-next_is.ensures.1) (before c.arms.cursor.at c.args.self.now.tokens.has (omega (arith, c.if-not-next_is.ensures.0 refl))) (c.if-not-next_is.ensures.0 refl) c.in_ok-word.ensures.read c.in_ok-separator.ensures.found c.in_err-list.ensures.no_list)

pub arms-returns-in_err-separator-clause-no_arms : goal.arms-returns-in_err-separator-clause-no_arms
arms-returns-in_err-separator-clause-no_arms t c = on_err _ (arms_2 c.args.self.now.left c.args.self.now.tokens.has c.arms.invariant.1 (not_true c.if-next_is.ensures.1) (before c.arms.cursor.at c.args.self.now.tokens.has (omega (arith, c.if-not-next_is.ensures.0 refl))) (c.if-not-next_is.ensures.0 refl) c.in_ok-word.ensures.read c.in_err-separator.ensures.another.0 c.in_err-separator.ensures.another.1)

pub arms-returns-in_err-sign-clause-no_arms : goal.arms-returns-in_err-sign-clause-no_arms
arms-returns-in_err-sign-clause-no_arms t c = on_err _ (arms_4 c.args.self.now.left c.args.self.now.tokens.has c.arms.invariant.1 (not_true c.if-next_is.ensures.1) (before c.arms.cursor.at c.args.self.now.tokens.has (omega (arith, c.if-not-next_is.ensures.0 refl))) (c.if-not-next_is.ensures.0 refl) c.in_ok-word.ensures.read c.in_ok-separator.ensures.found c.in_ok-list.ensures.read c.in_err-sign.ensures.another)

pub arms-returns-in_err-word-clause-no_arms : goal.arms-returns-in_err-word-clause-no_arms
arms-returns-in_err-word-clause-no_arms t c = on_err _ (arms_1 c.args.self.now.left c.args.self.now.tokens.has c.arms.invariant.1 (not_true c.if-next_is.ensures.1) (before c.arms.cursor.at c.args.self.now.tokens.has (omega (arith, c.if-not-next_is.ensures.0 refl))) (c.if-not-next_is.ensures.0 refl) c.in_err-word.ensures.no_word)

pub assignments-assignments-init : goal.assignments-assignments-init
assignments-assignments-init t c = ((search rules, omega (arith, length-set {A = ℕ})), assignments_hold c.args.self.now.tokens.text.now c.args.self.now.tokens.count c.args.cursor.now.at c.args.self.now.left c.args.self.now.tokens.words.now c.args.cursor.now.code.now c.args.cursor.now.free c.args.link (stage_number c.args.cursor.now.stage) c.args.self.now.tokens.has (omega arith) (omega arith) (omega arith))

pub assignments-assignments-preserved : goal.assignments-assignments-preserved
assignments-assignments-preserved t c = ((search rules, omega (arith, length-set {A = ℕ})), assignments_step c.args.self.now.left c.args.self.now.tokens.has c.assignments.invariant.1 c.in-Some.name (sym c.in-Some.ensures ∙ c.peek.ensures) (before c.assignments.cursor.at c.args.self.now.tokens.has (omega (arith, c.peek.ensures, c.in-Some.ensures))) c.span-span.result.start c.span-span.result.len c.span-span.ensures.spelled (omega (arith, (before c.assignments.cursor.at c.args.self.now.tokens.has (omega (arith, c.peek.ensures, c.in-Some.ensures))))) c.in_ok-value.ensures.read)

pub assignments-overflow_sub-value : goal.assignments-overflow_sub-value
assignments-overflow_sub-value t c = omega (arith, set_bounds c.assignments.cursor.at c.args.self.now.tokens.has c.in-Some.name (sym c.in-Some.ensures ∙ c.peek.ensures) (before c.assignments.cursor.at c.args.self.now.tokens.has (omega (arith, c.peek.ensures, c.in-Some.ensures))) c.span-span.result.start c.span-span.result.len c.span-span.ensures.spelled)

pub assignments-returns-clause-read : goal.assignments-returns-clause-read
assignments-returns-clause-read t c = assignments_end c.args.self.now.left c.args.self.now.tokens.has c.assignments.invariant.1 (next_code c.peek.result) c.peek.ensures c.in_default.ensures

pub assignments-returns-in_err-value-clause-no_assignments : goal.assignments-returns-in_err-value-clause-no_assignments
assignments-returns-in_err-value-clause-no_assignments t c = on_err _ (assignments_fail c.args.self.now.left c.args.self.now.tokens.has c.assignments.invariant.1 c.in-Some.name (sym c.in-Some.ensures ∙ c.peek.ensures) (before c.assignments.cursor.at c.args.self.now.tokens.has (omega (arith, c.peek.ensures, c.in-Some.ensures))) c.span-span.result.start c.span-span.result.len c.span-span.ensures.spelled c.in_err-value.ensures.no_value)

pub assignments-value-requires : goal.assignments-value-requires
assignments-value-requires t c = (search rules, (record { inside = omega (arith, (before c.assignments.cursor.at c.args.self.now.tokens.has (omega (arith, c.peek.ensures, c.in-Some.ensures)))); fits = omega (arith, length-set {A = ℕ}, (before c.assignments.cursor.at c.args.self.now.tokens.has (omega (arith, c.peek.ensures, c.in-Some.ensures)))); room = omega (arith, length-set {A = ℕ}, (before c.assignments.cursor.at c.args.self.now.tokens.has (omega (arith, c.peek.ensures, c.in-Some.ensures)))); short = omega (arith, length-set {A = ℕ}) }, (omega arith, (omega (arith, length-set {A = ℕ}, (before c.assignments.cursor.at c.args.self.now.tokens.has (omega (arith, c.peek.ensures, c.in-Some.ensures)))), omega (arith, set_bounds c.assignments.cursor.at c.args.self.now.tokens.has c.in-Some.name (sym c.in-Some.ensures ∙ c.peek.ensures) (before c.assignments.cursor.at c.args.self.now.tokens.has (omega (arith, c.peek.ensures, c.in-Some.ensures))) c.span-span.result.start c.span-span.result.len c.span-span.ensures.spelled, c.span-span.ensures.within)))))

pub case_command-returns-clause-no_command : goal.case_command-returns-clause-no_command
case_command-returns-clause-no_command t c = on_err_weaker _ (λ e. case_6 c.args.self.now.tokens.text.now c.args.self.now.tokens.count c.args.cursor.now.at c.args.self.now.left c.args.cursor.now.code.now c.args.cursor.now.free (stage_number c.args.cursor.now.stage) c.args.self.now.tokens.has c.in_ok-keyword.ensures.found (stage_number c.raised-cursor.result) c.raised-cursor.ensures c.in_ok-word.ensures.read c.in_ok-keyword-2.ensures.found c.in_ok-arms.ensures.read c.in_ok-keyword-3.ensures.found e) c.redirects.ensures.no_redirects

pub case_command-returns-clause-read : goal.case_command-returns-clause-read
case_command-returns-clause-read t c = on_ok_weaker _ (λ g. case_got c.args.self.now.tokens.text.now c.args.self.now.tokens.count c.args.cursor.now.at c.args.self.now.left c.args.cursor.now.code.now c.args.cursor.now.free (stage_number c.args.cursor.now.stage) c.args.self.now.tokens.has c.in_ok-keyword.ensures.found (stage_number c.raised-cursor.result) c.raised-cursor.ensures c.in_ok-word.ensures.read c.in_ok-keyword-2.ensures.found c.in_ok-arms.ensures.read c.in_ok-keyword-3.ensures.found (omega (arith, c.requires.room, c.in_ok-keyword.ensures.found.0)) g) c.redirects.ensures.read

pub case_command-returns-in_err-arms-clause-no_command : goal.case_command-returns-in_err-arms-clause-no_command
case_command-returns-in_err-arms-clause-no_command t c = on_err _ (case_4 c.args.self.now.tokens.text.now c.args.self.now.tokens.count c.args.cursor.now.at c.args.self.now.left c.args.cursor.now.code.now c.args.cursor.now.free (stage_number c.args.cursor.now.stage) c.args.self.now.tokens.has c.in_ok-keyword.ensures.found (stage_number c.raised-cursor.result) c.raised-cursor.ensures c.in_ok-word.ensures.read c.in_ok-keyword-2.ensures.found c.in_err-arms.ensures.no_arms)

pub case_command-returns-in_err-keyword-2-clause-no_command : goal.case_command-returns-in_err-keyword-2-clause-no_command
case_command-returns-in_err-keyword-2-clause-no_command t c = on_err _ (case_3 c.args.self.now.tokens.text.now c.args.self.now.tokens.count c.args.cursor.now.at c.args.self.now.left c.args.cursor.now.code.now c.args.cursor.now.free (stage_number c.args.cursor.now.stage) c.args.self.now.tokens.has c.in_ok-keyword.ensures.found (stage_number c.raised-cursor.result) c.raised-cursor.ensures c.in_ok-word.ensures.read c.in_err-keyword-2.ensures.another)

pub case_command-returns-in_err-keyword-3-clause-no_command : goal.case_command-returns-in_err-keyword-3-clause-no_command
case_command-returns-in_err-keyword-3-clause-no_command t c = on_err _ (case_5 c.args.self.now.tokens.text.now c.args.self.now.tokens.count c.args.cursor.now.at c.args.self.now.left c.args.cursor.now.code.now c.args.cursor.now.free (stage_number c.args.cursor.now.stage) c.args.self.now.tokens.has c.in_ok-keyword.ensures.found (stage_number c.raised-cursor.result) c.raised-cursor.ensures c.in_ok-word.ensures.read c.in_ok-keyword-2.ensures.found c.in_ok-arms.ensures.read c.in_err-keyword-3.ensures.another)

pub case_command-returns-in_err-keyword-clause-no_command : goal.case_command-returns-in_err-keyword-clause-no_command
case_command-returns-in_err-keyword-clause-no_command t c = on_err _ (case_1 c.args.self.now.tokens.text.now c.args.self.now.tokens.count c.args.cursor.now.at c.args.self.now.left c.args.cursor.now.code.now c.args.cursor.now.free (stage_number c.args.cursor.now.stage) c.args.self.now.tokens.has c.in_err-keyword.ensures.another)

pub case_command-returns-in_err-word-clause-no_command : goal.case_command-returns-in_err-word-clause-no_command
case_command-returns-in_err-word-clause-no_command t c = on_err _ (case_2 c.args.self.now.tokens.text.now c.args.self.now.tokens.count c.args.cursor.now.at c.args.self.now.left c.args.cursor.now.code.now c.args.cursor.now.free (stage_number c.args.cursor.now.stage) c.args.self.now.tokens.has c.in_ok-keyword.ensures.found (stage_number c.raised-cursor.result) c.raised-cursor.ensures c.in_err-word.ensures.no_word)

pub else_part-returns-clause-no_else : goal.else_part-returns-clause-no_else
else_part-returns-clause-no_else t c = on_err_weaker _ (λ e. elif_4 c.args.self.now.tokens.text.now c.args.self.now.tokens.count c.args.cursor.now.at c.args.self.now.left c.args.cursor.now.code.now c.args.cursor.now.free c.args.link (stage_number c.args.cursor.now.stage) c.args.self.now.tokens.has (omega (arith, c.if-self-eq0.false)) c.requires.room.fits c.requires.link (not_true c.if-next_is.ensures.1) (not_true c.if-next_is-2.ensures.1) c.in_ok-keyword-2.ensures.found c.nest.ensures c.in_ok-list-2.ensures.read c.in_ok-keyword-3.ensures.found c.in_ok-list-3.ensures.read e) c.else_part.ensures.no_else

pub else_part-returns-clause-read : goal.else_part-returns-clause-read
else_part-returns-clause-read t c = on_ok_weaker _ (λ g. elif_got c.args.self.now.tokens.text.now c.args.self.now.tokens.count c.args.cursor.now.at c.args.self.now.left c.args.cursor.now.code.now c.args.cursor.now.free c.args.link (stage_number c.args.cursor.now.stage) c.args.self.now.tokens.has (omega (arith, c.if-self-eq0.false)) c.requires.room.fits c.requires.link (not_true c.if-next_is.ensures.1) (not_true c.if-next_is-2.ensures.1) c.in_ok-keyword-2.ensures.found c.nest.ensures c.in_ok-list-2.ensures.read c.in_ok-keyword-3.ensures.found c.in_ok-list-3.ensures.read g) c.else_part.ensures.read

pub else_part-returns-in_err-keyword-2-clause-no_else : goal.else_part-returns-in_err-keyword-2-clause-no_else
else_part-returns-in_err-keyword-2-clause-no_else t c = on_err _ (elif_no c.args.self.now.tokens.text.now c.args.self.now.tokens.count c.args.cursor.now.at c.args.self.now.left c.args.cursor.now.code.now c.args.cursor.now.free c.args.link (stage_number c.args.cursor.now.stage) c.args.self.now.tokens.has (omega (arith, c.if-self-eq0.false)) c.requires.room.fits c.requires.link (not_true c.if-next_is.ensures.1) (not_true c.if-next_is-2.ensures.1) c.in_err-keyword-2.ensures.another)

pub else_part-returns-in_err-keyword-3-clause-no_else : goal.else_part-returns-in_err-keyword-3-clause-no_else
else_part-returns-in_err-keyword-3-clause-no_else t c = on_err _ (elif_2 c.args.self.now.tokens.text.now c.args.self.now.tokens.count c.args.cursor.now.at c.args.self.now.left c.args.cursor.now.code.now c.args.cursor.now.free c.args.link (stage_number c.args.cursor.now.stage) c.args.self.now.tokens.has (omega (arith, c.if-self-eq0.false)) c.requires.room.fits c.requires.link (not_true c.if-next_is.ensures.1) (not_true c.if-next_is-2.ensures.1) c.in_ok-keyword-2.ensures.found c.nest.ensures c.in_ok-list-2.ensures.read c.in_err-keyword-3.ensures.another)

pub else_part-returns-in_err-keyword-clause-no_else : goal.else_part-returns-in_err-keyword-clause-no_else
else_part-returns-in_err-keyword-clause-no_else t c = on_err _ (else_open c.args.self.now.tokens.text.now c.args.self.now.tokens.count c.args.cursor.now.at c.args.self.now.left c.args.cursor.now.code.now c.args.cursor.now.free c.args.link (stage_number c.args.cursor.now.stage) c.args.self.now.tokens.has (omega (arith, c.if-self-eq0.false)) c.requires.room.fits c.requires.link (not_true c.if-next_is.ensures.1) (before c.args.cursor.now.at c.args.self.now.tokens.has (omega (arith, c.if-next_is-2.ensures.0 refl))) (c.if-next_is-2.ensures.0 refl) c.in_ok-list.ensures.read c.in_err-keyword.ensures.another)

pub else_part-returns-in_err-list-2-clause-no_else : goal.else_part-returns-in_err-list-2-clause-no_else
else_part-returns-in_err-list-2-clause-no_else t c = on_err _ (elif_1 c.args.self.now.tokens.text.now c.args.self.now.tokens.count c.args.cursor.now.at c.args.self.now.left c.args.cursor.now.code.now c.args.cursor.now.free c.args.link (stage_number c.args.cursor.now.stage) c.args.self.now.tokens.has (omega (arith, c.if-self-eq0.false)) c.requires.room.fits c.requires.link (not_true c.if-next_is.ensures.1) (not_true c.if-next_is-2.ensures.1) c.in_ok-keyword-2.ensures.found c.in_err-list-2.ensures.no_list)

pub else_part-returns-in_err-list-3-clause-no_else : goal.else_part-returns-in_err-list-3-clause-no_else
else_part-returns-in_err-list-3-clause-no_else t c = on_err _ (elif_3 c.args.self.now.tokens.text.now c.args.self.now.tokens.count c.args.cursor.now.at c.args.self.now.left c.args.cursor.now.code.now c.args.cursor.now.free c.args.link (stage_number c.args.cursor.now.stage) c.args.self.now.tokens.has (omega (arith, c.if-self-eq0.false)) c.requires.room.fits c.requires.link (not_true c.if-next_is.ensures.1) (not_true c.if-next_is-2.ensures.1) c.in_ok-keyword-2.ensures.found c.nest.ensures c.in_ok-list-2.ensures.read c.in_ok-keyword-3.ensures.found c.in_err-list-3.ensures.no_list)

pub else_part-returns-in_err-list-clause-no_else : goal.else_part-returns-in_err-list-clause-no_else
else_part-returns-in_err-list-clause-no_else t c = on_err _ (else_none c.args.self.now.tokens.text.now c.args.self.now.tokens.count c.args.cursor.now.at c.args.self.now.left c.args.cursor.now.code.now c.args.cursor.now.free c.args.link (stage_number c.args.cursor.now.stage) c.args.self.now.tokens.has (omega (arith, c.if-self-eq0.false)) c.requires.room.fits c.requires.link (not_true c.if-next_is.ensures.1) (before c.args.cursor.now.at c.args.self.now.tokens.has (omega (arith, c.if-next_is-2.ensures.0 refl))) (c.if-next_is-2.ensures.0 refl) c.in_err-list.ensures.no_list)

pub else_part-returns-then-next_is-2-clause-read : goal.else_part-returns-then-next_is-2-clause-read
else_part-returns-then-next_is-2-clause-read t c = else_got c.args.self.now.tokens.text.now c.args.self.now.tokens.count c.args.cursor.now.at c.args.self.now.left c.args.cursor.now.code.now c.args.cursor.now.free c.args.link (stage_number c.args.cursor.now.stage) c.args.self.now.tokens.has (omega (arith, c.if-self-eq0.false)) c.requires.room.fits c.requires.link (not_true c.if-next_is.ensures.1) (before c.args.cursor.now.at c.args.self.now.tokens.has (omega (arith, c.if-next_is-2.ensures.0 refl))) (c.if-next_is-2.ensures.0 refl) c.in_ok-list.ensures.read c.in_ok-keyword.ensures.found

pub else_part-returns-then-next_is-clause-read : goal.else_part-returns-then-next_is-clause-read
else_part-returns-then-next_is-clause-read t c = fi_got c.args.self.now.tokens.text.now c.args.self.now.tokens.count c.args.cursor.now.at c.args.self.now.left c.args.cursor.now.code.now c.args.cursor.now.free c.args.link (stage_number c.args.cursor.now.stage) c.args.self.now.tokens.has (omega (arith, c.if-self-eq0.false)) c.requires.room.fits c.requires.link (before c.args.cursor.now.at c.args.self.now.tokens.has (omega (arith, c.if-next_is.ensures.0 refl))) (c.if-next_is.ensures.0 refl)

pub else_part-returns-then-self-eq0-clause-no_else : goal.else_part-returns-then-self-eq0-clause-no_else
else_part-returns-then-self-eq0-clause-no_else t c = no_elses c.args.self.now.left (tokens_from c.args.self.now.tokens.text.now c.args.cursor.now.at) (omega arith)

pub for_loop-returns-clause-no_command : goal.for_loop-returns-clause-no_command
for_loop-returns-clause-no_command t c = on_err_weaker _ (λ e. for_9 c.args.self.now.tokens.text.now c.args.self.now.tokens.count c.args.cursor.now.at c.args.self.now.left c.args.cursor.now.code.now c.args.cursor.now.free (stage_number c.args.cursor.now.stage) c.args.self.now.tokens.has c.in_ok-keyword.ensures.found (next_code c.peek.result) c.peek.ensures (sym c.if-not-is_name.ensures) (before (c.args.cursor.now.at + 1) c.args.self.now.tokens.has (λ e. true_false (c.if-not-is_name.ensures ∙ ap names (c.peek.ensures ∙ e)))) c.span-name.result.start c.span-name.result.len c.span-name.ensures.spelled c.in_ok-keyword-2.ensures.found (stage_number c.raised-cursor.result) c.raised-cursor.ensures c.in_ok-words.ensures.read c.in_ok-separator.ensures.found c.in_ok-keyword-3.ensures.found c.in_ok-list.ensures.read c.in_ok-keyword-4.ensures.found e) c.redirects.ensures.no_redirects

pub for_loop-returns-clause-read : goal.for_loop-returns-clause-read
for_loop-returns-clause-read t c = on_ok_weaker _ (λ g. for_got c.args.self.now.tokens.text.now c.args.self.now.tokens.count c.args.cursor.now.at c.args.self.now.left c.args.cursor.now.code.now c.args.cursor.now.free (stage_number c.args.cursor.now.stage) c.args.self.now.tokens.has c.in_ok-keyword.ensures.found (next_code c.peek.result) c.peek.ensures (sym c.if-not-is_name.ensures) (before (c.args.cursor.now.at + 1) c.args.self.now.tokens.has (λ e. true_false (c.if-not-is_name.ensures ∙ ap names (c.peek.ensures ∙ e)))) c.span-name.result.start c.span-name.result.len c.span-name.ensures.spelled c.in_ok-keyword-2.ensures.found (stage_number c.raised-cursor.result) c.raised-cursor.ensures c.in_ok-words.ensures.read c.in_ok-separator.ensures.found c.in_ok-keyword-3.ensures.found c.in_ok-list.ensures.read c.in_ok-keyword-4.ensures.found (omega (arith, c.requires.room, c.in_ok-keyword.ensures.found.0)) g) c.redirects.ensures.read

pub for_loop-returns-in_err-keyword-2-clause-no_command : goal.for_loop-returns-in_err-keyword-2-clause-no_command
for_loop-returns-in_err-keyword-2-clause-no_command t c = on_err _ (for_3 c.args.self.now.tokens.text.now c.args.self.now.tokens.count c.args.cursor.now.at c.args.self.now.left c.args.cursor.now.code.now c.args.cursor.now.free (stage_number c.args.cursor.now.stage) c.args.self.now.tokens.has c.in_ok-keyword.ensures.found (next_code c.peek.result) c.peek.ensures (sym c.if-not-is_name.ensures) (before (c.args.cursor.now.at + 1) c.args.self.now.tokens.has (λ e. true_false (c.if-not-is_name.ensures ∙ ap names (c.peek.ensures ∙ e)))) c.span-name.result.start c.span-name.result.len c.span-name.ensures.spelled c.in_err-keyword-2.ensures.another)

pub for_loop-returns-in_err-keyword-3-clause-no_command : goal.for_loop-returns-in_err-keyword-3-clause-no_command
for_loop-returns-in_err-keyword-3-clause-no_command t c = on_err _ (for_6 c.args.self.now.tokens.text.now c.args.self.now.tokens.count c.args.cursor.now.at c.args.self.now.left c.args.cursor.now.code.now c.args.cursor.now.free (stage_number c.args.cursor.now.stage) c.args.self.now.tokens.has c.in_ok-keyword.ensures.found (next_code c.peek.result) c.peek.ensures (sym c.if-not-is_name.ensures) (before (c.args.cursor.now.at + 1) c.args.self.now.tokens.has (λ e. true_false (c.if-not-is_name.ensures ∙ ap names (c.peek.ensures ∙ e)))) c.span-name.result.start c.span-name.result.len c.span-name.ensures.spelled c.in_ok-keyword-2.ensures.found (stage_number c.raised-cursor.result) c.raised-cursor.ensures c.in_ok-words.ensures.read c.in_ok-separator.ensures.found c.in_err-keyword-3.ensures.another)

pub for_loop-returns-in_err-keyword-4-clause-no_command : goal.for_loop-returns-in_err-keyword-4-clause-no_command
for_loop-returns-in_err-keyword-4-clause-no_command t c = on_err _ (for_8 c.args.self.now.tokens.text.now c.args.self.now.tokens.count c.args.cursor.now.at c.args.self.now.left c.args.cursor.now.code.now c.args.cursor.now.free (stage_number c.args.cursor.now.stage) c.args.self.now.tokens.has c.in_ok-keyword.ensures.found (next_code c.peek.result) c.peek.ensures (sym c.if-not-is_name.ensures) (before (c.args.cursor.now.at + 1) c.args.self.now.tokens.has (λ e. true_false (c.if-not-is_name.ensures ∙ ap names (c.peek.ensures ∙ e)))) c.span-name.result.start c.span-name.result.len c.span-name.ensures.spelled c.in_ok-keyword-2.ensures.found (stage_number c.raised-cursor.result) c.raised-cursor.ensures c.in_ok-words.ensures.read c.in_ok-separator.ensures.found c.in_ok-keyword-3.ensures.found c.in_ok-list.ensures.read c.in_err-keyword-4.ensures.another)

pub for_loop-returns-in_err-keyword-clause-no_command : goal.for_loop-returns-in_err-keyword-clause-no_command
for_loop-returns-in_err-keyword-clause-no_command t c = on_err _ (for_1 c.args.self.now.tokens.text.now c.args.self.now.tokens.count c.args.cursor.now.at c.args.self.now.left c.args.cursor.now.code.now c.args.cursor.now.free (stage_number c.args.cursor.now.stage) c.args.self.now.tokens.has c.in_err-keyword.ensures.another)

pub for_loop-returns-in_err-list-clause-no_command : goal.for_loop-returns-in_err-list-clause-no_command
for_loop-returns-in_err-list-clause-no_command t c = on_err _ (for_7 c.args.self.now.tokens.text.now c.args.self.now.tokens.count c.args.cursor.now.at c.args.self.now.left c.args.cursor.now.code.now c.args.cursor.now.free (stage_number c.args.cursor.now.stage) c.args.self.now.tokens.has c.in_ok-keyword.ensures.found (next_code c.peek.result) c.peek.ensures (sym c.if-not-is_name.ensures) (before (c.args.cursor.now.at + 1) c.args.self.now.tokens.has (λ e. true_false (c.if-not-is_name.ensures ∙ ap names (c.peek.ensures ∙ e)))) c.span-name.result.start c.span-name.result.len c.span-name.ensures.spelled c.in_ok-keyword-2.ensures.found (stage_number c.raised-cursor.result) c.raised-cursor.ensures c.in_ok-words.ensures.read c.in_ok-separator.ensures.found c.in_ok-keyword-3.ensures.found c.in_err-list.ensures.no_list)

pub for_loop-returns-in_err-separator-clause-no_command : goal.for_loop-returns-in_err-separator-clause-no_command
for_loop-returns-in_err-separator-clause-no_command t c = on_err _ (for_5 c.args.self.now.tokens.text.now c.args.self.now.tokens.count c.args.cursor.now.at c.args.self.now.left c.args.cursor.now.code.now c.args.cursor.now.free (stage_number c.args.cursor.now.stage) c.args.self.now.tokens.has c.in_ok-keyword.ensures.found (next_code c.peek.result) c.peek.ensures (sym c.if-not-is_name.ensures) (before (c.args.cursor.now.at + 1) c.args.self.now.tokens.has (λ e. true_false (c.if-not-is_name.ensures ∙ ap names (c.peek.ensures ∙ e)))) c.span-name.result.start c.span-name.result.len c.span-name.ensures.spelled c.in_ok-keyword-2.ensures.found (stage_number c.raised-cursor.result) c.raised-cursor.ensures c.in_ok-words.ensures.read c.in_err-separator.ensures.another.0 c.in_err-separator.ensures.another.1)

pub for_loop-returns-in_err-words-clause-no_command : goal.for_loop-returns-in_err-words-clause-no_command
for_loop-returns-in_err-words-clause-no_command t c = on_err _ (for_4 c.args.self.now.tokens.text.now c.args.self.now.tokens.count c.args.cursor.now.at c.args.self.now.left c.args.cursor.now.code.now c.args.cursor.now.free (stage_number c.args.cursor.now.stage) c.args.self.now.tokens.has c.in_ok-keyword.ensures.found (next_code c.peek.result) c.peek.ensures (sym c.if-not-is_name.ensures) (before (c.args.cursor.now.at + 1) c.args.self.now.tokens.has (λ e. true_false (c.if-not-is_name.ensures ∙ ap names (c.peek.ensures ∙ e)))) c.span-name.result.start c.span-name.result.len c.span-name.ensures.spelled c.in_ok-keyword-2.ensures.found (stage_number c.raised-cursor.result) c.raised-cursor.ensures c.in_err-words.ensures.no_words)

pub for_loop-returns-then-not-is_name-clause-no_command : goal.for_loop-returns-then-not-is_name-clause-no_command
for_loop-returns-then-not-is_name-clause-no_command t c = for_2 c.args.self.now.tokens.text.now c.args.self.now.tokens.count c.args.cursor.now.at c.args.self.now.left c.args.cursor.now.code.now c.args.cursor.now.free (stage_number c.args.cursor.now.stage) c.args.self.now.tokens.has c.in_ok-keyword.ensures.found (next_code c.peek.result) c.peek.ensures (sym c.if-not-is_name.ensures)

pub function-returns-clause-read : goal.function-returns-clause-read
function-returns-clause-read t c = function_got c.args.self.now.tokens.text.now c.args.self.now.tokens.count c.args.cursor.now.at c.args.self.now.left c.args.cursor.now.code.now c.args.cursor.now.free (stage_number c.args.cursor.now.stage) c.args.self.now.tokens.has (code_at (tokens_from c.args.self.now.tokens.text.now c.args.cursor.now.at)) refl (c.if-not-next_is.ensures.0 refl) c.requires.some c.span-name.result.start c.span-name.result.len c.span-name.ensures.spelled c.in_ok-sign.ensures.found c.in_ok-sign-2.ensures.found c.in_ok-keyword.ensures.found (stage_number c.raised-cursor.result) c.raised-cursor.ensures c.in_ok-list.ensures.read c.in_ok-keyword-2.ensures.found (omega (arith, c.requires.room.room, c.requires.some))

pub function-returns-in_err-keyword-2-clause-no_command : goal.function-returns-in_err-keyword-2-clause-no_command
function-returns-in_err-keyword-2-clause-no_command t c = on_err _ (function_6 c.args.self.now.tokens.text.now c.args.self.now.tokens.count c.args.cursor.now.at c.args.self.now.left c.args.cursor.now.code.now c.args.cursor.now.free (stage_number c.args.cursor.now.stage) c.args.self.now.tokens.has (code_at (tokens_from c.args.self.now.tokens.text.now c.args.cursor.now.at)) refl (c.if-not-next_is.ensures.0 refl) c.requires.some c.span-name.result.start c.span-name.result.len c.span-name.ensures.spelled c.in_ok-sign.ensures.found c.in_ok-sign-2.ensures.found c.in_ok-keyword.ensures.found (stage_number c.raised-cursor.result) c.raised-cursor.ensures c.in_ok-list.ensures.read c.in_err-keyword-2.ensures.another)

pub function-returns-in_err-keyword-clause-no_command : goal.function-returns-in_err-keyword-clause-no_command
function-returns-in_err-keyword-clause-no_command t c = on_err _ (function_4 c.args.self.now.tokens.text.now c.args.self.now.tokens.count c.args.cursor.now.at c.args.self.now.left c.args.cursor.now.code.now c.args.cursor.now.free (stage_number c.args.cursor.now.stage) c.args.self.now.tokens.has (code_at (tokens_from c.args.self.now.tokens.text.now c.args.cursor.now.at)) refl (c.if-not-next_is.ensures.0 refl) c.requires.some c.span-name.result.start c.span-name.result.len c.span-name.ensures.spelled c.in_ok-sign.ensures.found c.in_ok-sign-2.ensures.found c.in_err-keyword.ensures.another)

pub function-returns-in_err-list-clause-no_command : goal.function-returns-in_err-list-clause-no_command
function-returns-in_err-list-clause-no_command t c = on_err _ (function_5 c.args.self.now.tokens.text.now c.args.self.now.tokens.count c.args.cursor.now.at c.args.self.now.left c.args.cursor.now.code.now c.args.cursor.now.free (stage_number c.args.cursor.now.stage) c.args.self.now.tokens.has (code_at (tokens_from c.args.self.now.tokens.text.now c.args.cursor.now.at)) refl (c.if-not-next_is.ensures.0 refl) c.requires.some c.span-name.result.start c.span-name.result.len c.span-name.ensures.spelled c.in_ok-sign.ensures.found c.in_ok-sign-2.ensures.found c.in_ok-keyword.ensures.found (stage_number c.raised-cursor.result) c.raised-cursor.ensures c.in_err-list.ensures.no_list)

pub function-returns-in_err-sign-2-clause-no_command : goal.function-returns-in_err-sign-2-clause-no_command
function-returns-in_err-sign-2-clause-no_command t c = on_err _ (function_3 c.args.self.now.tokens.text.now c.args.self.now.tokens.count c.args.cursor.now.at c.args.self.now.left c.args.cursor.now.code.now c.args.cursor.now.free (stage_number c.args.cursor.now.stage) c.args.self.now.tokens.has (code_at (tokens_from c.args.self.now.tokens.text.now c.args.cursor.now.at)) refl (c.if-not-next_is.ensures.0 refl) c.requires.some c.span-name.result.start c.span-name.result.len c.span-name.ensures.spelled c.in_ok-sign.ensures.found c.in_err-sign-2.ensures.another)

pub function-returns-in_err-sign-clause-no_command : goal.function-returns-in_err-sign-clause-no_command
function-returns-in_err-sign-clause-no_command t c = on_err _ (function_2 c.args.self.now.tokens.text.now c.args.self.now.tokens.count c.args.cursor.now.at c.args.self.now.left c.args.cursor.now.code.now c.args.cursor.now.free (stage_number c.args.cursor.now.stage) c.args.self.now.tokens.has (code_at (tokens_from c.args.self.now.tokens.text.now c.args.cursor.now.at)) refl (c.if-not-next_is.ensures.0 refl) c.requires.some c.span-name.result.start c.span-name.result.len c.span-name.ensures.spelled c.in_err-sign.ensures.another)

pub function-returns-then-not-next_is-clause-no_command : goal.function-returns-then-not-next_is-clause-no_command
function-returns-then-not-next_is-clause-no_command t c = function_1 c.args.self.now.tokens.text.now c.args.self.now.tokens.count c.args.cursor.now.at c.args.self.now.left c.args.cursor.now.code.now c.args.cursor.now.free (stage_number c.args.cursor.now.stage) c.args.self.now.tokens.has (code_at (tokens_from c.args.self.now.tokens.text.now c.args.cursor.now.at)) refl (not_true c.if-not-next_is.ensures.1)

pub group-returns-clause-no_command : goal.group-returns-clause-no_command
group-returns-clause-no_command t c = on_err_weaker _ (λ e. group_4 c.args.self.now.tokens.text.now c.args.self.now.tokens.count c.args.cursor.now.at c.args.self.now.left c.args.cursor.now.code.now c.args.cursor.now.free (stage_number c.args.cursor.now.stage) c.args.self.now.tokens.has c.in_ok-keyword.ensures.found c.in_ok-list.ensures.read c.in_ok-keyword-2.ensures.found e) c.redirects.ensures.no_redirects

pub group-returns-clause-read : goal.group-returns-clause-read
group-returns-clause-read t c = on_ok_weaker _ (λ g. group_got c.args.self.now.tokens.text.now c.args.self.now.tokens.count c.args.cursor.now.at c.args.self.now.left c.args.cursor.now.code.now c.args.cursor.now.free (stage_number c.args.cursor.now.stage) c.args.self.now.tokens.has c.in_ok-keyword.ensures.found c.in_ok-list.ensures.read c.in_ok-keyword-2.ensures.found (omega (arith, c.requires.room, c.in_ok-keyword.ensures.found.0)) g) c.redirects.ensures.read

pub group-returns-in_err-keyword-2-clause-no_command : goal.group-returns-in_err-keyword-2-clause-no_command
group-returns-in_err-keyword-2-clause-no_command t c = on_err _ (group_3 c.args.self.now.tokens.text.now c.args.self.now.tokens.count c.args.cursor.now.at c.args.self.now.left c.args.cursor.now.code.now c.args.cursor.now.free (stage_number c.args.cursor.now.stage) c.args.self.now.tokens.has c.in_ok-keyword.ensures.found c.in_ok-list.ensures.read c.in_err-keyword-2.ensures.another)

pub group-returns-in_err-keyword-clause-no_command : goal.group-returns-in_err-keyword-clause-no_command
group-returns-in_err-keyword-clause-no_command t c = on_err _ (group_1 c.args.self.now.tokens.text.now c.args.self.now.tokens.count c.args.cursor.now.at c.args.self.now.left c.args.cursor.now.code.now c.args.cursor.now.free (stage_number c.args.cursor.now.stage) c.args.self.now.tokens.has c.in_err-keyword.ensures.another)

pub group-returns-in_err-list-clause-no_command : goal.group-returns-in_err-list-clause-no_command
group-returns-in_err-list-clause-no_command t c = on_err _ (group_2 c.args.self.now.tokens.text.now c.args.self.now.tokens.count c.args.cursor.now.at c.args.self.now.left c.args.cursor.now.code.now c.args.cursor.now.free (stage_number c.args.cursor.now.stage) c.args.self.now.tokens.has c.in_ok-keyword.ensures.found c.in_err-list.ensures.no_list)

pub if_command-returns-clause-no_command : goal.if_command-returns-clause-no_command
if_command-returns-clause-no_command t c = on_err_weaker _ (λ e. if_6 c.args.self.now.tokens.text.now c.args.self.now.tokens.count c.args.cursor.now.at c.args.self.now.left c.args.cursor.now.code.now c.args.cursor.now.free (stage_number c.args.cursor.now.stage) c.args.self.now.tokens.has c.in_ok-keyword.ensures.found c.in_ok-list.ensures.read c.in_ok-keyword-2.ensures.found c.in_ok-list-2.ensures.read c.in_ok-else_part.ensures.read e) c.redirects.ensures.no_redirects

pub if_command-returns-clause-read : goal.if_command-returns-clause-read
if_command-returns-clause-read t c = on_ok_weaker _ (λ g. if_got c.args.self.now.tokens.text.now c.args.self.now.tokens.count c.args.cursor.now.at c.args.self.now.left c.args.cursor.now.code.now c.args.cursor.now.free (stage_number c.args.cursor.now.stage) c.args.self.now.tokens.has c.in_ok-keyword.ensures.found c.in_ok-list.ensures.read c.in_ok-keyword-2.ensures.found c.in_ok-list-2.ensures.read c.in_ok-else_part.ensures.read (omega (arith, c.requires.room, c.in_ok-keyword.ensures.found.0)) g) c.redirects.ensures.read

pub if_command-returns-in_err-else_part-clause-no_command : goal.if_command-returns-in_err-else_part-clause-no_command
if_command-returns-in_err-else_part-clause-no_command t c = on_err _ (if_5 c.args.self.now.tokens.text.now c.args.self.now.tokens.count c.args.cursor.now.at c.args.self.now.left c.args.cursor.now.code.now c.args.cursor.now.free (stage_number c.args.cursor.now.stage) c.args.self.now.tokens.has c.in_ok-keyword.ensures.found c.in_ok-list.ensures.read c.in_ok-keyword-2.ensures.found c.in_ok-list-2.ensures.read c.in_err-else_part.ensures.no_else)

pub if_command-returns-in_err-keyword-2-clause-no_command : goal.if_command-returns-in_err-keyword-2-clause-no_command
if_command-returns-in_err-keyword-2-clause-no_command t c = on_err _ (if_3 c.args.self.now.tokens.text.now c.args.self.now.tokens.count c.args.cursor.now.at c.args.self.now.left c.args.cursor.now.code.now c.args.cursor.now.free (stage_number c.args.cursor.now.stage) c.args.self.now.tokens.has c.in_ok-keyword.ensures.found c.in_ok-list.ensures.read c.in_err-keyword-2.ensures.another)

pub if_command-returns-in_err-keyword-clause-no_command : goal.if_command-returns-in_err-keyword-clause-no_command
if_command-returns-in_err-keyword-clause-no_command t c = on_err _ (if_1 c.args.self.now.tokens.text.now c.args.self.now.tokens.count c.args.cursor.now.at c.args.self.now.left c.args.cursor.now.code.now c.args.cursor.now.free (stage_number c.args.cursor.now.stage) c.args.self.now.tokens.has c.in_err-keyword.ensures.another)

pub if_command-returns-in_err-list-2-clause-no_command : goal.if_command-returns-in_err-list-2-clause-no_command
if_command-returns-in_err-list-2-clause-no_command t c = on_err _ (if_4 c.args.self.now.tokens.text.now c.args.self.now.tokens.count c.args.cursor.now.at c.args.self.now.left c.args.cursor.now.code.now c.args.cursor.now.free (stage_number c.args.cursor.now.stage) c.args.self.now.tokens.has c.in_ok-keyword.ensures.found c.in_ok-list.ensures.read c.in_ok-keyword-2.ensures.found c.in_err-list-2.ensures.no_list)

pub if_command-returns-in_err-list-clause-no_command : goal.if_command-returns-in_err-list-clause-no_command
if_command-returns-in_err-list-clause-no_command t c = on_err _ (if_2 c.args.self.now.tokens.text.now c.args.self.now.tokens.count c.args.cursor.now.at c.args.self.now.left c.args.cursor.now.code.now c.args.cursor.now.free (stage_number c.args.cursor.now.stage) c.args.self.now.tokens.has c.in_ok-keyword.ensures.found c.in_err-list.ensures.no_list)

pub list-commands-init : goal.list-commands-init
list-commands-init t c = ((search rules, omega (arith, length-set {A = ℕ})), list_hold c.args.self.now.tokens.text.now c.args.self.now.tokens.count c.args.cursor.now.at (c.args.self.now.left - 1) c.args.last c.args.self.now.tokens.words.now c.args.cursor.now.code.now c.args.cursor.now.free c.args.link (stage_number c.args.cursor.now.stage) c.args.self.now.tokens.has (omega arith) (omega arith) (omega arith))

pub list-commands-preserved : goal.list-commands-preserved
list-commands-preserved t c = ((search rules, omega (arith, length-set {A = ℕ})), list_next c.args.self.now.left (omega arith) c.args.self.now.tokens.text.now c.args.self.now.tokens.count c.args.cursor.now.at c.args.last c.args.self.now.tokens.has c.commands.invariant.1 (ap ends_list (sym c.look-ahead.ensures.means) ∙ sym c.if-ends_list.ensures) (ap is_newline (sym c.look-ahead.ensures.means) ∙ sym c.if-is_newline.ensures) c.in_ok-and_or.ensures.read (next_code c.peek.result) c.peek.ensures c.from-in-commands.result (flagged c.in-Some.background _ c.from-in-commands.ensures ∙ ap flag c.in-Some.ensures.0) (stage_number c.raised-cursor.result) (c.raised-cursor.ensures ∙ ap (max (stage_number c.and_or.new.cursor.stage)) (c.end_stage.ensures ∙ ap (λ x. pick x 5 0) c.in-Some.ensures.0)) c.in-Some.ensures.1 (before c.and_or.new.cursor.at c.args.self.now.tokens.has (omega (arith, c.peek.ensures, (inside (next_code c.peek.result) c.in-Some.ensures.1).1))))

pub list-commands-preserved-then-is_newline : goal.list-commands-preserved-then-is_newline
list-commands-preserved-then-is_newline t c = ((search rules, omega (arith, length-set {A = ℕ})), list_blank c.args.self.now.left (omega arith) c.args.self.now.tokens.text.now c.args.self.now.tokens.count c.args.cursor.now.at c.args.last c.args.self.now.tokens.has c.commands.invariant.1 (ap ends_list (sym c.look-ahead.ensures.means) ∙ sym c.if-ends_list.ensures) (ap is_newline (sym c.look-ahead.ensures.means) ∙ sym c.if-is_newline.ensures) (before c.commands.cursor.at c.args.self.now.tokens.has (omega (arith, newline_code c.look-ahead.result _ c.look-ahead.ensures.code c.if-is_newline.ensures)), newline_code c.look-ahead.result _ c.look-ahead.ensures.code c.if-is_newline.ensures))

pub list-returns-in_default-clause-read : goal.list-returns-in_default-clause-read
list-returns-in_default-clause-read t c = list_last c.args.self.now.left (omega arith) c.args.self.now.tokens.text.now c.args.self.now.tokens.count c.args.cursor.now.at c.args.last c.args.self.now.tokens.has c.commands.invariant.1 (ap ends_list (sym c.look-ahead.ensures.means) ∙ sym c.if-ends_list.ensures) (ap is_newline (sym c.look-ahead.ensures.means) ∙ sym c.if-is_newline.ensures) c.in_ok-and_or.ensures.read (next_code c.peek.result) c.peek.ensures c.in_default.ensures c.if-not-last.false c.from.result c.from.ensures

pub list-returns-in_err-and_or-clause-no_list : goal.list-returns-in_err-and_or-clause-no_list
list-returns-in_err-and_or-clause-no_list t c = on_err _ (list_1 c.args.self.now.left (omega arith) c.args.self.now.tokens.text.now c.args.self.now.tokens.count c.args.cursor.now.at c.args.last c.args.self.now.tokens.has c.commands.invariant.1 (ap ends_list (sym c.look-ahead.ensures.means) ∙ sym c.if-ends_list.ensures) (ap is_newline (sym c.look-ahead.ensures.means) ∙ sym c.if-is_newline.ensures) c.in_err-and_or.ensures.no_pipelines)

pub list-returns-then-ends_list-clause-read : goal.list-returns-then-ends_list-clause-read
list-returns-then-ends_list-clause-read t c = list_close c.args.self.now.left (omega arith) c.args.self.now.tokens.text.now c.args.self.now.tokens.count c.args.cursor.now.at c.args.last c.args.self.now.tokens.has c.commands.invariant.1 (ap ends_list (sym c.look-ahead.ensures.means) ∙ sym c.if-ends_list.ensures)

pub list-returns-then-not-last-clause-no_list : goal.list-returns-then-not-last-clause-no_list
list-returns-then-not-last-clause-no_list t c = list_open c.args.self.now.left (omega arith) c.args.self.now.tokens.text.now c.args.self.now.tokens.count c.args.cursor.now.at c.args.last c.args.self.now.tokens.has c.commands.invariant.1 (ap ends_list (sym c.look-ahead.ensures.means) ∙ sym c.if-ends_list.ensures) (ap is_newline (sym c.look-ahead.ensures.means) ∙ sym c.if-is_newline.ensures) c.in_ok-and_or.ensures.read (next_code c.peek.result) c.peek.ensures c.in_default.ensures c.if-not-last.true

pub list-returns-then-self-eq0-clause-no_list : goal.list-returns-then-self-eq0-clause-no_list
list-returns-then-self-eq0-clause-no_list t c = no_lists c.args.self.now.left c.args.last (tokens_from c.args.self.now.tokens.text.now c.args.cursor.now.at) (omega arith)

pub more-parts-init : goal.more-parts-init
more-parts-init t c = ((search rules, omega (arith, length-set {A = ℕ})), more_holds c.args.self.now.tokens.text.now c.args.self.now.tokens.count c.args.cursor.now.at c.args.self.now.left c.args.self.now.tokens.words.now c.args.cursor.now.code.now c.args.cursor.now.free c.args.link (stage_number c.args.cursor.now.stage) c.args.self.now.tokens.has (omega arith) (omega arith) (omega arith))

pub more-parts-preserved : goal.more-parts-preserved
more-parts-preserved t c = ((search rules, omega (arith, length-set {A = ℕ})), more_steps c.args.self.now.left c.parts.invariant.1 (code_at (tokens_from c.args.self.now.tokens.text.now c.parts.cursor.at)) refl c.parts-test.ensures c.in_ok-part.ensures.read)

pub more-returns-clause-read : goal.more-returns-clause-read
more-returns-clause-read t c = more_ends c.args.self.now.left c.parts.invariant.1 (code_at (tokens_from c.args.self.now.tokens.text.now c.parts.cursor.at)) refl c.parts-test.ensures

pub more-returns-in_err-part-clause-no_word : goal.more-returns-in_err-part-clause-no_word
more-returns-in_err-part-clause-no_word t c = on_err _ (more_fails c.args.self.now.left c.parts.invariant.1 (code_at (tokens_from c.args.self.now.tokens.text.now c.parts.cursor.at)) refl c.parts-test.ensures c.in_err-part.ensures.no_part)

pub negatable-returns-clause-no_pipeline : goal.negatable-returns-clause-no_pipeline
negatable-returns-clause-no_pipeline t c = on_err_weaker _ (λ e. plain_none c.args.self.now.tokens.text.now c.args.self.now.tokens.count c.args.cursor.now.at c.args.self.now.left c.args.cursor.now.code.now c.args.cursor.now.free (stage_number c.args.cursor.now.stage) c.args.self.now.tokens.has (ap is_not (sym c.look.ensures.means) ∙ sym c.if-is_not.ensures) e) c.pipeline-2.ensures.no_pipeline

pub negatable-returns-clause-read : goal.negatable-returns-clause-read
negatable-returns-clause-read t c = on_ok_weaker _ (λ g. plain_got c.args.self.now.tokens.text.now c.args.self.now.tokens.count c.args.cursor.now.at c.args.self.now.left c.args.cursor.now.code.now c.args.cursor.now.free (stage_number c.args.cursor.now.stage) c.args.self.now.tokens.has (ap is_not (sym c.look.ensures.means) ∙ sym c.if-is_not.ensures) (omega arith) c.from-2.result c.from-2.ensures g) c.pipeline-2.ensures.read

pub negatable-returns-then-is_not-clause-no_pipeline : goal.negatable-returns-then-is_not-clause-no_pipeline
negatable-returns-then-is_not-clause-no_pipeline t c = on_err_weaker _ (λ e. negated_none c.args.self.now.tokens.text.now c.args.self.now.tokens.count c.args.cursor.now.at c.args.self.now.left c.args.cursor.now.code.now c.args.cursor.now.free (stage_number c.args.cursor.now.stage) c.args.self.now.tokens.has (ap is_not (sym c.look.ensures.means) ∙ sym c.if-is_not.ensures) (before c.args.cursor.now.at c.args.self.now.tokens.has (omega (arith, not_code c.look.result _ c.look.ensures.code c.if-is_not.ensures)), not_code c.look.result _ c.look.ensures.code c.if-is_not.ensures) e) c.pipeline.ensures.no_pipeline

pub negatable-returns-then-is_not-clause-read : goal.negatable-returns-then-is_not-clause-read
negatable-returns-then-is_not-clause-read t c = on_ok_weaker _ (λ g. negated_got c.args.self.now.tokens.text.now c.args.self.now.tokens.count c.args.cursor.now.at c.args.self.now.left c.args.cursor.now.code.now c.args.cursor.now.free (stage_number c.args.cursor.now.stage) c.args.self.now.tokens.has (ap is_not (sym c.look.ensures.means) ∙ sym c.if-is_not.ensures) (before c.args.cursor.now.at c.args.self.now.tokens.has (omega (arith, not_code c.look.result _ c.look.ensures.code c.if-is_not.ensures)), not_code c.look.result _ c.look.ensures.code c.if-is_not.ensures) (omega arith) c.from.result c.from.ensures g) c.pipeline.ensures.read

pub part-returns-clause-read : goal.part-returns-clause-read
part-returns-clause-read t c = rw c.raised-cursor-2.ensures (part_low c.args.self.now.tokens.text.now c.args.self.now.tokens.count c.args.cursor.now.at c.args.self.now.left c.args.self.now.tokens.words.now c.args.cursor.now.code.now c.args.cursor.now.free c.part_number.result (stage_number c.args.cursor.now.stage) (stage_number c.part_stage.result) c.span-span.result.start c.span-span.result.len c.args.self.now.tokens.has c.span-span.ensures.spelled (before c.args.cursor.now.at c.args.self.now.tokens.has (low_before c.in-Some.part c.if-is_substitution.ensures c.in-Some.ensures)) (omega (arith, c.requires.room, (before c.args.cursor.now.at c.args.self.now.tokens.has (low_before c.in-Some.part c.if-is_substitution.ensures c.in-Some.ensures)))) ((low_number c.in-Some.part c.part_number.result c.if-is_substitution.ensures c.part_number.ensures).0 ∙ c.in-Some.ensures) (low_number c.in-Some.part c.part_number.result c.if-is_substitution.ensures c.part_number.ensures).1 (c.part_stage.ensures ∙ ap (tag_stage (part_code c.in-Some.part)) c.bytes.ensures ∙ ap (λ z. tag_stage z (take c.span-span.result.len (drop c.span-span.result.start c.args.self.now.tokens.text.now))) (sym (low_number c.in-Some.part c.part_number.result c.if-is_substitution.ensures c.part_number.ensures).0)))

pub part-returns-in_default-clause-no_part : goal.part-returns-in_default-clause-no_part
part-returns-in_default-clause-no_part t c = part_none (level c.args.self.now.left) (tokens_from c.args.self.now.tokens.text.now c.args.cursor.now.at) 4 c.in_default.ensures refl

pub part-returns-in_err-list-clause-no_part : goal.part-returns-in_err-list-clause-no_part
part-returns-in_err-list-clause-no_part t c = on_err _ (run_none c.args.self.now.tokens.text.now c.args.self.now.tokens.count c.args.cursor.now.at c.args.self.now.left c.args.self.now.tokens.words.now (part_code c.in-Some.part) c.args.self.now.tokens.has (before c.args.cursor.now.at c.args.self.now.tokens.has (λ e. (substitution_code c.in-Some.part c.if-is_substitution.ensures).0 (c.in-Some.ensures ∙ ap part_tag e))) c.in-Some.ensures (substitution_code c.in-Some.part c.if-is_substitution.ensures).0 (substitution_code c.in-Some.part c.if-is_substitution.ensures).1 c.in_err-list.ensures.no_list)

pub part-returns-in_err-sign-clause-no_part : goal.part-returns-in_err-sign-clause-no_part
part-returns-in_err-sign-clause-no_part t c = on_err _ (run_open c.args.self.now.tokens.text.now c.args.self.now.tokens.count c.args.cursor.now.at c.args.self.now.left c.args.self.now.tokens.words.now (part_code c.in-Some.part) c.args.self.now.tokens.has (before c.args.cursor.now.at c.args.self.now.tokens.has (λ e. (substitution_code c.in-Some.part c.if-is_substitution.ensures).0 (c.in-Some.ensures ∙ ap part_tag e))) c.in-Some.ensures (substitution_code c.in-Some.part c.if-is_substitution.ensures).0 (substitution_code c.in-Some.part c.if-is_substitution.ensures).1 c.in_ok-list.ensures.read c.in_err-sign.ensures.another)

pub part-returns-then-is_substitution-clause-read : goal.part-returns-then-is_substitution-clause-read
part-returns-then-is_substitution-clause-read t c = run_got c.args.self.now.tokens.text.now c.args.self.now.tokens.count c.args.cursor.now.at c.args.self.now.left c.args.self.now.tokens.words.now (part_code c.in-Some.part) c.args.self.now.tokens.has (before c.args.cursor.now.at c.args.self.now.tokens.has (λ e. (substitution_code c.in-Some.part c.if-is_substitution.ensures).0 (c.in-Some.ensures ∙ ap part_tag e))) c.in-Some.ensures (substitution_code c.in-Some.part c.if-is_substitution.ensures).0 (substitution_code c.in-Some.part c.if-is_substitution.ensures).1 (omega (arith, c.requires.room, (before c.args.cursor.now.at c.args.self.now.tokens.has (λ e. (substitution_code c.in-Some.part c.if-is_substitution.ensures).0 (c.in-Some.ensures ∙ ap part_tag e))))) c.part_number.result (substitution_number c.in-Some.part c.part_number.result c.if-is_substitution.ensures c.part_number.ensures) (rw (sym c.raised-cursor.ensures) c.in_ok-list.ensures.read) c.in_ok-sign.ensures.found.1 c.in_ok-sign.ensures.found.0

pub pipeline-commands-init : goal.pipeline-commands-init
pipeline-commands-init t c = ((search rules, omega (arith, length-set {A = ℕ})), pipeline_hold c.args.self.now.tokens.text.now c.args.self.now.tokens.count c.args.cursor.now.at c.args.self.now.left c.args.self.now.tokens.words.now c.args.cursor.now.code.now c.args.cursor.now.free c.args.link (stage_number c.args.cursor.now.stage) c.args.self.now.tokens.has (omega arith) (omega arith) (omega arith))

pub pipeline-commands-preserved : goal.pipeline-commands-preserved
pipeline-commands-preserved t c = ((search rules, omega (arith, length-set {A = ℕ})), pipeline_step c.args.self.now.left c.args.self.now.tokens.has c.commands.invariant.1 c.in_ok-command.ensures.read (stage_number c.raised-cursor.result) c.raised-cursor.ensures (before c.command.new.cursor.at c.args.self.now.tokens.has (omega (arith, c.if-not-next_is.ensures.0 refl))) (c.if-not-next_is.ensures.0 refl))

pub pipeline-returns-in_err-command-clause-no_pipeline : goal.pipeline-returns-in_err-command-clause-no_pipeline
pipeline-returns-in_err-command-clause-no_pipeline t c = on_err _ (pipeline_fail c.args.self.now.left c.args.self.now.tokens.has c.commands.invariant.1 c.in_err-command.ensures.no_command)

pub pipeline-returns-then-not-next_is-clause-read : goal.pipeline-returns-then-not-next_is-clause-read
pipeline-returns-then-not-next_is-clause-read t c = pipeline_end c.args.self.now.left c.args.self.now.tokens.has c.commands.invariant.1 c.in_ok-command.ensures.read (not_true c.if-not-next_is.ensures.1)

pub redirects-redirects-init : goal.redirects-redirects-init
redirects-redirects-init t c = ((search rules, omega (arith, length-set {A = ℕ})), redirects_hold c.args.self.now.tokens.text.now c.args.self.now.tokens.count c.args.cursor.now.at c.args.self.now.left c.args.self.now.tokens.words.now c.args.cursor.now.code.now c.args.cursor.now.free c.args.link (stage_number c.args.cursor.now.stage) c.args.self.now.tokens.has (omega arith) (omega arith) (omega arith))

pub redirects-redirects-preserved : goal.redirects-redirects-preserved
redirects-redirects-preserved t c = ((search rules, omega (arith, length-set {A = ℕ})), redirects_step c.args.self.now.left c.args.self.now.tokens.has c.redirects.invariant.1 (next_code c.peek.result) c.peek.ensures (omega (arith, c.in-Some.ensures)) (omega (arith, c.in-Some.ensures, redirect_range c.in-Some.tag)) (before c.redirects.cursor.at c.args.self.now.tokens.has (omega (arith, c.peek.ensures, c.in-Some.ensures, redirect_range c.in-Some.tag))) (omega (arith, (before c.redirects.cursor.at c.args.self.now.tokens.has (omega (arith, c.peek.ensures, c.in-Some.ensures, redirect_range c.in-Some.tag))))) _ (search rules) c.in_ok-word.ensures.read)

pub redirects-returns-clause-read : goal.redirects-returns-clause-read
redirects-returns-clause-read t c = redirects_end c.args.self.now.left c.args.self.now.tokens.has c.redirects.invariant.1 (next_code c.peek.result) c.peek.ensures c.in_default.ensures

pub redirects-returns-in_err-word-clause-no_redirects : goal.redirects-returns-in_err-word-clause-no_redirects
redirects-returns-in_err-word-clause-no_redirects t c = on_err _ (redirects_fail c.args.self.now.left c.args.self.now.tokens.has c.redirects.invariant.1 (next_code c.peek.result) c.peek.ensures (omega (arith, c.in-Some.ensures)) (omega (arith, c.in-Some.ensures, redirect_range c.in-Some.tag)) (before c.redirects.cursor.at c.args.self.now.tokens.has (omega (arith, c.peek.ensures, c.in-Some.ensures, redirect_range c.in-Some.tag))) c.in_err-word.ensures.no_word)

pub simple-returns-clause-no_command : goal.simple-returns-clause-no_command
simple-returns-clause-no_command t c = on_err_weaker _ (λ e. redirects_out c.args.self.now.tokens.text.now c.args.self.now.tokens.count c.args.cursor.now.at c.args.self.now.left c.args.cursor.now.code.now c.args.cursor.now.free (omega (arith, c.requires.room.room, c.requires.some)) c.args.self.now.tokens.has c.in_ok-assignments.ensures.read (next_code c.peek-token.result) c.peek-token.ensures c.if-ends_words.ensures (c.if-is_joined.ensures ∙ ap joins (sym c.peek-token.ensures)) (before c.assignments.new.cursor.at c.args.self.now.tokens.has (λ e. true_false (sym (c.if-ends_words.ensures ∙ ap ends_words (c.peek-token.ensures ∙ e))))) (code_at (tokens_from c.args.self.now.tokens.text.now (c.assignments.new.cursor.at + 1))) refl c.may_be_first.result (c.may_be_first.ensures ∙ ap (may_be_first (next_code c.peek-token.result)) c.is_joined-2.ensures) c.if-not-may_be_first.false c.in_ok-word.ensures.read c.in_ok-words.ensures.read e) c.redirects.ensures.no_redirects

pub simple-returns-clause-read : goal.simple-returns-clause-read
simple-returns-clause-read t c = on_ok_weaker _ (λ g. simple_got c.args.self.now.tokens.text.now c.args.self.now.tokens.count c.args.cursor.now.at c.args.self.now.left c.args.cursor.now.code.now c.args.cursor.now.free (omega (arith, c.requires.room.room, c.requires.some)) c.args.self.now.tokens.has c.in_ok-assignments.ensures.read (next_code c.peek-token.result) c.peek-token.ensures c.if-ends_words.ensures (c.if-is_joined.ensures ∙ ap joins (sym c.peek-token.ensures)) (before c.assignments.new.cursor.at c.args.self.now.tokens.has (λ e. true_false (sym (c.if-ends_words.ensures ∙ ap ends_words (c.peek-token.ensures ∙ e))))) (code_at (tokens_from c.args.self.now.tokens.text.now (c.assignments.new.cursor.at + 1))) refl c.may_be_first.result (c.may_be_first.ensures ∙ ap (may_be_first (next_code c.peek-token.result)) c.is_joined-2.ensures) c.if-not-may_be_first.false c.in_ok-word.ensures.read c.in_ok-words.ensures.read c.in_ok-assignments.ensures.read.fits g) c.redirects.ensures.read

pub simple-returns-in_err-word-clause-no_command : goal.simple-returns-in_err-word-clause-no_command
simple-returns-in_err-word-clause-no_command t c = on_err _ (word_out c.args.self.now.tokens.text.now c.args.self.now.tokens.count c.args.cursor.now.at c.args.self.now.left c.args.cursor.now.code.now c.args.cursor.now.free (omega (arith, c.requires.room.room, c.requires.some)) c.args.self.now.tokens.has c.in_ok-assignments.ensures.read (next_code c.peek-token.result) c.peek-token.ensures c.if-ends_words.ensures (c.if-is_joined.ensures ∙ ap joins (sym c.peek-token.ensures)) (before c.assignments.new.cursor.at c.args.self.now.tokens.has (λ e. true_false (sym (c.if-ends_words.ensures ∙ ap ends_words (c.peek-token.ensures ∙ e))))) (code_at (tokens_from c.args.self.now.tokens.text.now (c.assignments.new.cursor.at + 1))) refl c.may_be_first.result (c.may_be_first.ensures ∙ ap (may_be_first (next_code c.peek-token.result)) c.is_joined-2.ensures) c.in_err-word.ensures.no_word)

pub simple-returns-in_err-words-clause-no_command : goal.simple-returns-in_err-words-clause-no_command
simple-returns-in_err-words-clause-no_command t c = on_err _ (words_out c.args.self.now.tokens.text.now c.args.self.now.tokens.count c.args.cursor.now.at c.args.self.now.left c.args.cursor.now.code.now c.args.cursor.now.free (omega (arith, c.requires.room.room, c.requires.some)) c.args.self.now.tokens.has c.in_ok-assignments.ensures.read (next_code c.peek-token.result) c.peek-token.ensures c.if-ends_words.ensures (c.if-is_joined.ensures ∙ ap joins (sym c.peek-token.ensures)) (before c.assignments.new.cursor.at c.args.self.now.tokens.has (λ e. true_false (sym (c.if-ends_words.ensures ∙ ap ends_words (c.peek-token.ensures ∙ e))))) (code_at (tokens_from c.args.self.now.tokens.text.now (c.assignments.new.cursor.at + 1))) refl c.may_be_first.result (c.may_be_first.ensures ∙ ap (may_be_first (next_code c.peek-token.result)) c.is_joined-2.ensures) c.if-not-may_be_first.false c.in_ok-word.ensures.read c.in_err-words.ensures.no_words)

pub simple-returns-then-cursor-top-eq-NIL-clause-no_command : goal.simple-returns-then-cursor-top-eq-NIL-clause-no_command
simple-returns-then-cursor-top-eq-NIL-clause-no_command t c = empty_none c.args.self.now.tokens.text.now c.args.self.now.tokens.count c.args.cursor.now.at c.args.self.now.left c.args.cursor.now.code.now c.args.cursor.now.free (omega (arith, c.requires.room.room, c.requires.some)) c.args.self.now.tokens.has c.in_ok-assignments.ensures.read (next_code c.peek-token.result) c.peek-token.ensures c.if-ends_words.ensures (omega arith)

pub simple-returns-then-ends_words-clause-read : goal.simple-returns-then-ends_words-clause-read
simple-returns-then-ends_words-clause-read t c = alone_got c.args.self.now.tokens.text.now c.args.self.now.tokens.count c.args.cursor.now.at c.args.self.now.left c.args.cursor.now.code.now c.args.cursor.now.free (omega (arith, c.requires.room.room, c.requires.some)) c.args.self.now.tokens.has c.in_ok-assignments.ensures.read (next_code c.peek-token.result) c.peek-token.ensures c.if-ends_words.ensures (omega arith)

pub simple-returns-then-is_joined-clause-no_command : goal.simple-returns-then-is_joined-clause-no_command
simple-returns-then-is_joined-clause-no_command t c = sticky_none c.args.self.now.tokens.text.now c.args.self.now.tokens.count c.args.cursor.now.at c.args.self.now.left c.args.cursor.now.code.now c.args.cursor.now.free (omega (arith, c.requires.room.room, c.requires.some)) c.args.self.now.tokens.has c.in_ok-assignments.ensures.read (next_code c.peek-token.result) c.peek-token.ensures c.if-ends_words.ensures (c.if-is_joined.ensures ∙ ap joins (sym c.peek-token.ensures))

pub simple-returns-then-not-may_be_first-clause-no_command : goal.simple-returns-then-not-may_be_first-clause-no_command
simple-returns-then-not-may_be_first-clause-no_command t c = not_first c.args.self.now.tokens.text.now c.args.self.now.tokens.count c.args.cursor.now.at c.args.self.now.left c.args.cursor.now.code.now c.args.cursor.now.free (omega (arith, c.requires.room.room, c.requires.some)) c.args.self.now.tokens.has c.in_ok-assignments.ensures.read (next_code c.peek-token.result) c.peek-token.ensures c.if-ends_words.ensures (c.if-is_joined.ensures ∙ ap joins (sym c.peek-token.ensures)) (before c.assignments.new.cursor.at c.args.self.now.tokens.has (λ e. true_false (sym (c.if-ends_words.ensures ∙ ap ends_words (c.peek-token.ensures ∙ e))))) (code_at (tokens_from c.args.self.now.tokens.text.now (c.assignments.new.cursor.at + 1))) refl c.may_be_first.result (c.may_be_first.ensures ∙ ap (may_be_first (next_code c.peek-token.result)) c.is_joined-2.ensures) c.if-not-may_be_first.true

pub subshell-returns-clause-no_command : goal.subshell-returns-clause-no_command
subshell-returns-clause-no_command t c = on_err_weaker _ (λ e. subshell_4 c.args.self.now.tokens.text.now c.args.self.now.tokens.count c.args.cursor.now.at c.args.self.now.left c.args.cursor.now.code.now c.args.cursor.now.free (stage_number c.args.cursor.now.stage) c.args.self.now.tokens.has c.in_ok-sign.ensures.found (stage_number c.raised-cursor.result) c.raised-cursor.ensures c.in_ok-list.ensures.read c.in_ok-sign-2.ensures.found e) c.redirects.ensures.no_redirects

pub subshell-returns-clause-read : goal.subshell-returns-clause-read
subshell-returns-clause-read t c = on_ok_weaker _ (λ g. subshell_got c.args.self.now.tokens.text.now c.args.self.now.tokens.count c.args.cursor.now.at c.args.self.now.left c.args.cursor.now.code.now c.args.cursor.now.free (stage_number c.args.cursor.now.stage) c.args.self.now.tokens.has c.in_ok-sign.ensures.found (stage_number c.raised-cursor.result) c.raised-cursor.ensures c.in_ok-list.ensures.read c.in_ok-sign-2.ensures.found (omega (arith, c.requires.room, c.in_ok-sign.ensures.found.0)) g) c.redirects.ensures.read

pub subshell-returns-in_err-list-clause-no_command : goal.subshell-returns-in_err-list-clause-no_command
subshell-returns-in_err-list-clause-no_command t c = on_err _ (subshell_2 c.args.self.now.tokens.text.now c.args.self.now.tokens.count c.args.cursor.now.at c.args.self.now.left c.args.cursor.now.code.now c.args.cursor.now.free (stage_number c.args.cursor.now.stage) c.args.self.now.tokens.has c.in_ok-sign.ensures.found (stage_number c.raised-cursor.result) c.raised-cursor.ensures c.in_err-list.ensures.no_list)

pub subshell-returns-in_err-sign-2-clause-no_command : goal.subshell-returns-in_err-sign-2-clause-no_command
subshell-returns-in_err-sign-2-clause-no_command t c = on_err _ (subshell_3 c.args.self.now.tokens.text.now c.args.self.now.tokens.count c.args.cursor.now.at c.args.self.now.left c.args.cursor.now.code.now c.args.cursor.now.free (stage_number c.args.cursor.now.stage) c.args.self.now.tokens.has c.in_ok-sign.ensures.found (stage_number c.raised-cursor.result) c.raised-cursor.ensures c.in_ok-list.ensures.read c.in_err-sign-2.ensures.another)

pub subshell-returns-in_err-sign-clause-no_command : goal.subshell-returns-in_err-sign-clause-no_command
subshell-returns-in_err-sign-clause-no_command t c = on_err _ (subshell_1 c.args.self.now.tokens.text.now c.args.self.now.tokens.count c.args.cursor.now.at c.args.self.now.left c.args.cursor.now.code.now c.args.cursor.now.free (stage_number c.args.cursor.now.stage) c.args.self.now.tokens.has c.in_err-sign.ensures.another)

pub value-returns-clause-read : goal.value-returns-clause-read
value-returns-clause-read t c = on_ok_weaker _ (λ g. value_part c.args.self.now.tokens.text.now c.args.self.now.tokens.count c.args.cursor.now.at c.args.self.now.left c.args.span.start c.args.span.len c.args.cursor.now.code.now c.args.cursor.now.free c.args.link (stage_number c.part_stage.result) (c.part_stage.ensures ∙ ap (λ b. pick (has_wildcard b) 4 0) c.bytes.ensures) (omega arith) (omega arith) (omega arith) (omega arith) (rw (sym c.raised-cursor.ensures) g)) c.more-2.ensures.read

pub while_loop-returns-clause-no_command : goal.while_loop-returns-clause-no_command
while_loop-returns-clause-no_command t c = on_err_weaker _ (λ e. while_6 c.args.self.now.tokens.text.now c.args.self.now.tokens.count c.args.cursor.now.at c.args.self.now.left c.args.cursor.now.code.now c.args.cursor.now.free (stage_number c.args.cursor.now.stage) c.args.self.now.tokens.has c.in_ok-keyword.ensures.found c.in_ok-list.ensures.read c.in_ok-keyword-2.ensures.found c.in_ok-list-2.ensures.read c.in_ok-keyword-3.ensures.found e) c.redirects.ensures.no_redirects

pub while_loop-returns-clause-read : goal.while_loop-returns-clause-read
while_loop-returns-clause-read t c = on_ok_weaker _ (λ g. while_got c.args.self.now.tokens.text.now c.args.self.now.tokens.count c.args.cursor.now.at c.args.self.now.left c.args.cursor.now.code.now c.args.cursor.now.free (stage_number c.args.cursor.now.stage) c.args.self.now.tokens.has c.in_ok-keyword.ensures.found c.in_ok-list.ensures.read c.in_ok-keyword-2.ensures.found c.in_ok-list-2.ensures.read c.in_ok-keyword-3.ensures.found (omega (arith, c.requires.room, c.in_ok-keyword.ensures.found.0)) g) c.redirects.ensures.read

pub while_loop-returns-in_err-keyword-2-clause-no_command : goal.while_loop-returns-in_err-keyword-2-clause-no_command
while_loop-returns-in_err-keyword-2-clause-no_command t c = on_err _ (while_3 c.args.self.now.tokens.text.now c.args.self.now.tokens.count c.args.cursor.now.at c.args.self.now.left c.args.cursor.now.code.now c.args.cursor.now.free (stage_number c.args.cursor.now.stage) c.args.self.now.tokens.has c.in_ok-keyword.ensures.found c.in_ok-list.ensures.read c.in_err-keyword-2.ensures.another)

pub while_loop-returns-in_err-keyword-3-clause-no_command : goal.while_loop-returns-in_err-keyword-3-clause-no_command
while_loop-returns-in_err-keyword-3-clause-no_command t c = on_err _ (while_5 c.args.self.now.tokens.text.now c.args.self.now.tokens.count c.args.cursor.now.at c.args.self.now.left c.args.cursor.now.code.now c.args.cursor.now.free (stage_number c.args.cursor.now.stage) c.args.self.now.tokens.has c.in_ok-keyword.ensures.found c.in_ok-list.ensures.read c.in_ok-keyword-2.ensures.found c.in_ok-list-2.ensures.read c.in_err-keyword-3.ensures.another)

pub while_loop-returns-in_err-keyword-clause-no_command : goal.while_loop-returns-in_err-keyword-clause-no_command
while_loop-returns-in_err-keyword-clause-no_command t c = on_err _ (while_1 c.args.self.now.tokens.text.now c.args.self.now.tokens.count c.args.cursor.now.at c.args.self.now.left c.args.cursor.now.code.now c.args.cursor.now.free (stage_number c.args.cursor.now.stage) c.args.self.now.tokens.has c.in_err-keyword.ensures.another)

pub while_loop-returns-in_err-list-2-clause-no_command : goal.while_loop-returns-in_err-list-2-clause-no_command
while_loop-returns-in_err-list-2-clause-no_command t c = on_err _ (while_4 c.args.self.now.tokens.text.now c.args.self.now.tokens.count c.args.cursor.now.at c.args.self.now.left c.args.cursor.now.code.now c.args.cursor.now.free (stage_number c.args.cursor.now.stage) c.args.self.now.tokens.has c.in_ok-keyword.ensures.found c.in_ok-list.ensures.read c.in_ok-keyword-2.ensures.found c.in_err-list-2.ensures.no_list)

pub while_loop-returns-in_err-list-clause-no_command : goal.while_loop-returns-in_err-list-clause-no_command
while_loop-returns-in_err-list-clause-no_command t c = on_err _ (while_2 c.args.self.now.tokens.text.now c.args.self.now.tokens.count c.args.cursor.now.at c.args.self.now.left c.args.cursor.now.code.now c.args.cursor.now.free (stage_number c.args.cursor.now.stage) c.args.self.now.tokens.has c.in_ok-keyword.ensures.found c.in_err-list.ensures.no_list)

pub word-returns-clause-read : goal.word-returns-clause-read
word-returns-clause-read t c = on_ok_weaker _ (λ g. word_got c.args.self.now.tokens.text.now c.args.self.now.tokens.count c.args.cursor.now.at c.args.self.now.left c.args.cursor.now.code.now c.args.cursor.now.free c.args.link (stage_number c.args.cursor.now.stage) refl c.if-is_joined.ensures c.in_ok-part.ensures.read (omega arith) (omega arith) g) c.more.ensures.read

pub word-returns-then-is_joined-clause-no_word : goal.word-returns-then-is_joined-clause-no_word
word-returns-then-is_joined-clause-no_word t c = word_sticky c.args.self.now.tokens.text.now c.args.cursor.now.at c.args.self.now.left (code_at (tokens_from c.args.self.now.tokens.text.now c.args.cursor.now.at)) refl c.if-is_joined.ensures

pub words-returns-clause-read : goal.words-returns-clause-read
words-returns-clause-read t c = words_end c.args.self.now.left c.args.self.now.tokens.has c.words.invariant.1 (next_code c.peek.result) c.peek.ensures c.words-test.ensures

pub words-returns-in_err-word-clause-no_words : goal.words-returns-in_err-word-clause-no_words
words-returns-in_err-word-clause-no_words t c = on_err _ (words_fail c.args.self.now.left c.args.self.now.tokens.has c.words.invariant.1 (next_code c.peek.result) c.peek.ensures c.words-test.ensures c.in_err-word.ensures.no_word)

pub words-words-init : goal.words-words-init
words-words-init t c = ((search rules, omega (arith, length-set {A = ℕ})), words_hold c.args.self.now.tokens.text.now c.args.self.now.tokens.count c.args.cursor.now.at c.args.self.now.left c.args.self.now.tokens.words.now c.args.cursor.now.code.now c.args.cursor.now.free c.args.link (stage_number c.args.cursor.now.stage) c.args.self.now.tokens.has (omega arith) (omega arith) (omega arith))

pub words-words-preserved : goal.words-words-preserved
words-words-preserved t c = ((search rules, omega (arith, length-set {A = ℕ})), words_step c.args.self.now.left c.args.self.now.tokens.has c.words.invariant.1 (next_code c.peek.result) c.peek.ensures c.words-test.ensures c.in_ok-word.ensures.read)
