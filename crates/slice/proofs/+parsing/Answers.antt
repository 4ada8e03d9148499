use Rattle.std.proofs.Common.{slice_index, ◌∷◌, sym, refl, ap, ◌∙◌, subst, ⊎_elim, arith, rules}
use Rattle.std.proofs.lemmas.Bool.{eq-eqb, ne_eqb, both_ways}
use Rattle.code.specs.Chains.{chain_of, ends_at, links_of}
use Rattle.code.specs.Cells.{CommandIs}
use Rattle.slice.proofs.Walks.{list_start, list_more, list_background, list_no, list_end, and_or_start, and_or_more, and_or_no, and_or_end, simple_no, simple_yes, group_no, group_yes, if_no, if_condition, if_then, if_yes, while_no, while_condition, while_yes, other, other_cell, no_value, pipeline_no, pipeline_yes, else_none, else_some}
use Rattle.slice.proofs.+parsing.Goals as goal
use Rattle.slice.proofs.+parsing.Goals.{covers_commands-then-item-via-then-item, covers_commands-then-item-via-else-item+then-not-covers_and_or, covers_command-then-redirects-eq0-3, covers_command-else-redirects-eq0-3, covers_command-then-covers_commands, covers_command-else-covers_commands, covers_command-then-redirects-eq0-4, covers_command-else-redirects-eq0-4}

pub covers_and_or-returns-then-not-covers_pipeline-clause-coded :
    goal.covers_and_or-returns-then-not-covers_pipeline-clause-coded
covers_and_or-returns-then-not-covers_pipeline-clause-coded t c =
    let ys = chain_of c.args.code.words.now c.and_or-before.result.before in
    λ x h d. and_or_no c.args.code.text.now c.args.code.words.now c.args.last c.args.left c.and_or-before.result.pipeline c.covers_pipeline.result (c.args.last ∷ ys) ys x (ap (λ v. v.pipeline) c.and_or-before.ensures) refl c.covers_pipeline.ensures.coded (cc) (and_or_start c.args.code.text.now c.args.code.words.now c.args.last c.and_or-before.result.before c.args.left ys x (ap (λ v. v.before) c.and_or-before.ensures) refl h d)

pub covers_and_or-loop-at-init : goal.covers_and_or-loop-at-init
covers_and_or-loop-at-init t c =
    let ys = links_of c.chain-earlier.result in
    record {
      can_next = tt;
      is_finite = tt;
      end = c.chain-earlier.ensures.end ∙ ap (λ v. ends_at c.args.code.words.now v.before) c.and_or-before.ensures;
      walk = λ x h d. and_or_more c.args.code.text.now c.args.code.words.now c.args.last c.args.left c.and_or-before.result.pipeline c.covers_pipeline.result (c.args.last ∷ ys) ys x (ap (λ v. v.pipeline) c.and_or-before.ensures) refl c.covers_pipeline.ensures.coded (cc) (and_or_start c.args.code.text.now c.args.code.words.now c.args.last c.and_or-before.result.before c.args.left ys x (ap (λ v. v.before) c.and_or-before.ensures) c.chain-earlier.ensures.cells h d);
    }

pub covers_and_or-returns-then-not-covers_pipeline-2-clause-coded :
    goal.covers_and_or-returns-then-not-covers_pipeline-2-clause-coded
covers_and_or-returns-then-not-covers_pipeline-2-clause-coded t c = λ x h d. and_or_no c.args.code.text.now c.args.code.words.now c.in-Some.at c.args.left c.and_or.result.pipeline c.covers_pipeline-in-Some.result (links_of c.loop-at.earlier) (links_of c.next.new.self) x (ap (λ v. v.pipeline) c.and_or.ensures) c.in-Some.ensures.steps.0 c.covers_pipeline-in-Some.ensures.coded (cc) (c.loop-at.invariant.walk x h d)

pub covers_and_or-loop-at-preserved : goal.covers_and_or-loop-at-preserved
covers_and_or-loop-at-preserved t c = record {
  can_next = tt;
  is_finite = tt;
  end = c.in-Some.ensures.steps.1 ∙ c.loop-at.invariant.end;
  walk = λ x h d. and_or_more c.args.code.text.now c.args.code.words.now c.in-Some.at c.args.left c.and_or.result.pipeline c.covers_pipeline-in-Some.result (links_of c.loop-at.earlier) (links_of c.next.new.self) x (ap (λ v. v.pipeline) c.and_or.ensures) c.in-Some.ensures.steps.0 c.covers_pipeline-in-Some.ensures.coded (cc) (c.loop-at.invariant.walk x h d);
}

pub covers_and_or-returns-clause-coded : goal.covers_and_or-returns-clause-coded
covers_and_or-returns-clause-coded t c = λ x h d. and_or_end c.args.code.text.now c.args.code.words.now c.args.last c.args.left c.ended.result (links_of c.loop-at.earlier) x (c.ended.ensures.over c.in_default.ensures.steps.0.1 ∙ c.in_default.ensures.steps.1 ∙ c.loop-at.invariant.end) c.in_default.ensures.steps.0.0 h (c.loop-at.invariant.walk x h d)

pub covers_and_or-returns-clause-alone : goal.covers_and_or-returns-clause-alone
covers_and_or-returns-clause-alone t c = λ e. ap (λ v. slice_index c.args.code.words.now v.pipeline) (sym c.and_or-before.ensures) ∙ c.covers_pipeline.ensures.alone c.if-not-covers_pipeline.false

pub covers_and_or-returns-clause-end : goal.covers_and_or-returns-clause-end
covers_and_or-returns-clause-end t c = λ e. sym (c.ended.ensures.over c.in_default.ensures.steps.0.1 ∙ c.in_default.ensures.steps.1 ∙ c.loop-at.invariant.end) ∙ e

pub covers_command-returns-then-redirects-eq0 : goal.covers_command-returns-then-redirects-eq0
covers_command-returns-then-redirects-eq0 t c = simple_yes c.args.code.text.now c.args.code.words.now c.args.at c.args.left c.in-Some.left (omega arith) c.in-Simple.assignments c.in-Simple.words c.in-Simple.redirects c.covers_words.result (subst (CommandIs c.args.code.text.now c.args.code.words.now c.args.at) c.in-Simple.is c.in-Some-command.ensures) c.if-redirects-eq0.true.0 c.if-redirects-eq0.true.1 c.covers_words.ensures

pub covers_command-returns-else-redirects-eq0 : goal.covers_command-returns-else-redirects-eq0
covers_command-returns-else-redirects-eq0 t c = simple_no c.args.code.text.now c.args.code.words.now c.args.at c.args.left c.in-Some.left (omega arith) c.in-Simple.assignments c.in-Simple.words c.in-Simple.redirects _ (subst (CommandIs c.args.code.text.now c.args.code.words.now c.args.at) c.in-Simple.is c.in-Some-command.ensures) (λ y z. ⊎_elim (λ h. h.1 z) (λ h. h y) c.if-redirects-eq0.either) (search rules)

pub covers_command-returns-then-redirects-eq0-2 : goal.covers_command-returns-then-redirects-eq0-2
covers_command-returns-then-redirects-eq0-2 t c = group_yes c.args.code.text.now c.args.code.words.now c.args.at c.args.left c.in-Some.left (omega arith) c.in-Group.list c.in-Group.redirects c.covers_commands.result (subst (CommandIs c.args.code.text.now c.args.code.words.now c.args.at) c.in-Group.is c.in-Some-command.ensures) c.if-redirects-eq0-2.true c.covers_commands.ensures.coded

pub covers_command-returns-else-redirects-eq0-2 : goal.covers_command-returns-else-redirects-eq0-2
covers_command-returns-else-redirects-eq0-2 t c = group_no c.args.code.text.now c.args.code.words.now c.args.at c.args.left c.in-Some.left (omega arith) c.in-Group.list c.in-Group.redirects _ (subst (CommandIs c.args.code.text.now c.args.code.words.now c.args.at) c.in-Group.is c.in-Some-command.ensures) c.if-redirects-eq0-2.false (ne_eqb c.in-Group.redirects 0 c.if-redirects-eq0-2.false)

pub covers_command-returns-then-covers_commands-2 :
    goal.covers_command-returns-then-covers_commands-2
covers_command-returns-then-covers_commands-2 t c =
    elim c.if-covers_commands.branch [
      | covers_command-then-covers_commands w ↦ elim c.if-redirects-eq0-3.branch [
        | covers_command-then-redirects-eq0-3 v ↦ if_yes c.args.code.text.now c.args.code.words.now c.args.at c.args.left c.in-Some.left (omega arith) c.in-If.condition c.in-If.then c.in-If.otherwise c.in-If.redirects (subst (CommandIs c.args.code.text.now c.args.code.words.now c.args.at) c.in-If.is c.in-Some-command.ensures) v.covers_commands-then-redirects-eq0-3.result w.covers_commands-then-covers_commands.result c.covers_else.result v.if-redirects-eq0-3.true v.covers_commands-then-redirects-eq0-3.ensures.coded (cc) w.covers_commands-then-covers_commands.ensures.coded (cc) c.covers_else.ensures
        | covers_command-else-redirects-eq0-3 v ↦ absurd (no_value c.in-If.redirects c.if-redirects-eq0-3.value v.if-redirects-eq0-3.false (cc) (cc))
      ]
      | covers_command-else-covers_commands w ↦ absurd (both_ways c.if-covers_commands.value (cc) (cc))
    ]

pub covers_command-returns-else-covers_commands-2 :
    goal.covers_command-returns-else-covers_commands-2
covers_command-returns-else-covers_commands-2 t c =
    elim c.if-covers_commands.branch [
      | covers_command-then-covers_commands w ↦ elim c.if-redirects-eq0-3.branch [
        | covers_command-then-redirects-eq0-3 v ↦ if_then c.args.code.text.now c.args.code.words.now c.args.at c.args.left c.in-Some.left (omega arith) c.in-If.condition c.in-If.then c.in-If.otherwise c.in-If.redirects (subst (CommandIs c.args.code.text.now c.args.code.words.now c.args.at) c.in-If.is c.in-Some-command.ensures) v.covers_commands-then-redirects-eq0-3.result w.covers_commands-then-covers_commands.result c.if-covers_commands.value v.covers_commands-then-redirects-eq0-3.ensures.coded (cc) w.covers_commands-then-covers_commands.ensures.coded (cc) (cc)
        | covers_command-else-redirects-eq0-3 v ↦ if_no c.args.code.text.now c.args.code.words.now c.args.at c.args.left c.in-Some.left (omega arith) c.in-If.condition c.in-If.then c.in-If.otherwise c.in-If.redirects (subst (CommandIs c.args.code.text.now c.args.code.words.now c.args.at) c.in-If.is c.in-Some-command.ensures) c.if-covers_commands.value v.if-redirects-eq0-3.false (cc)
      ]
      | covers_command-else-covers_commands w ↦ elim c.if-redirects-eq0-3.branch [
        | covers_command-then-redirects-eq0-3 v ↦ if_condition c.args.code.text.now c.args.code.words.now c.args.at c.args.left c.in-Some.left (omega arith) c.in-If.condition c.in-If.then c.in-If.otherwise c.in-If.redirects (subst (CommandIs c.args.code.text.now c.args.code.words.now c.args.at) c.in-If.is c.in-Some-command.ensures) v.covers_commands-then-redirects-eq0-3.result c.if-covers_commands.value v.covers_commands-then-redirects-eq0-3.ensures.coded (cc) (cc)
        | covers_command-else-redirects-eq0-3 v ↦ if_no c.args.code.text.now c.args.code.words.now c.args.at c.args.left c.in-Some.left (omega arith) c.in-If.condition c.in-If.then c.in-If.otherwise c.in-If.redirects (subst (CommandIs c.args.code.text.now c.args.code.words.now c.args.at) c.in-If.is c.in-Some-command.ensures) c.if-covers_commands.value v.if-redirects-eq0-3.false (cc)
      ]
    ]

pub covers_command-returns-then-covers_commands-3 :
    goal.covers_command-returns-then-covers_commands-3
covers_command-returns-then-covers_commands-3 t c =
    elim c.if-redirects-eq0-4.branch [
      | covers_command-then-redirects-eq0-4 v ↦ while_yes c.args.code.text.now c.args.code.words.now c.args.at c.args.left c.in-Some.left (omega arith) c.in-While.condition c.in-While.body c.in-While.redirects (subst (CommandIs c.args.code.text.now c.args.code.words.now c.args.at) c.in-While.is c.in-Some-command.ensures) v.covers_commands-then-redirects-eq0-4.result c.covers_commands-then-covers_commands-3.result v.if-redirects-eq0-4.true v.covers_commands-then-redirects-eq0-4.ensures.coded (cc) c.covers_commands-then-covers_commands-3.ensures.coded
      | covers_command-else-redirects-eq0-4 v ↦ absurd (no_value c.in-While.redirects c.if-redirects-eq0-4.value v.if-redirects-eq0-4.false (cc) (cc))
    ]

pub covers_command-returns-else-covers_commands-3 :
    goal.covers_command-returns-else-covers_commands-3
covers_command-returns-else-covers_commands-3 t c =
    elim c.if-redirects-eq0-4.branch [
      | covers_command-then-redirects-eq0-4 v ↦ while_condition c.args.code.text.now c.args.code.words.now c.args.at c.args.left c.in-Some.left (omega arith) c.in-While.condition c.in-While.body c.in-While.redirects (subst (CommandIs c.args.code.text.now c.args.code.words.now c.args.at) c.in-While.is c.in-Some-command.ensures) v.covers_commands-then-redirects-eq0-4.result c.if-redirects-eq0-4.value v.covers_commands-then-redirects-eq0-4.ensures.coded (cc) (cc)
      | covers_command-else-redirects-eq0-4 v ↦ while_no c.args.code.text.now c.args.code.words.now c.args.at c.args.left c.in-Some.left (omega arith) c.in-While.condition c.in-While.body c.in-While.redirects (subst (CommandIs c.args.code.text.now c.args.code.words.now c.args.at) c.in-While.is c.in-Some-command.ensures) c.if-redirects-eq0-4.value v.if-redirects-eq0-4.false (cc)
    ]

pub covers_command-returns-in_default-command : goal.covers_command-returns-in_default-command
covers_command-returns-in_default-command t c = other c.args.code.text.now c.args.code.words.now c.args.at c.args.left (λ e. omega arith) (λ e. omega arith) (λ e. omega arith) (λ e. omega arith)

pub covers_command-returns-in_default-command-2 : goal.covers_command-returns-in_default-command-2
covers_command-returns-in_default-command-2 t c = other_cell c.args.code.text.now c.args.code.words.now c.args.at c.args.left c.in-Some-command.command c.in-Some-command.ensures c.in_default-command-2.not-Simple c.in_default-command-2.not-Group c.in_default-command-2.not-If c.in_default-command-2.not-While

pub covers_commands-loop-at-init : goal.covers_commands-loop-at-init
covers_commands-loop-at-init t c = record {
  can_next = tt;
  is_finite = tt;
  end = c.chain-items.ensures.end;
  walk = λ x. list_start c.args.code.text.now c.args.code.words.now c.args.root c.args.left (links_of c.chain-items.result) x c.chain-items.ensures.cells;
}

pub covers_commands-returns-then-item-clause-coded :
    goal.covers_commands-returns-then-item-clause-coded
covers_commands-returns-then-item-clause-coded t c = λ x h d. elim c.then-item.branch [
  | covers_commands-then-item-via-then-item w ↦ list_background c.args.code.text.now c.args.code.words.now c.in-Some.at c.args.left c.item-item.result (links_of c.loop-at.items) (links_of c.next.new.self) x c.item-item.ensures c.in-Some.ensures.steps.0 w.if-item.true (c.loop-at.invariant.walk x h d)
  | covers_commands-then-item-via-else-item+then-not-covers_and_or w ↦ list_no c.args.code.text.now c.args.code.words.now c.in-Some.at c.args.left c.item-item.result w.covers_and_or.result (links_of c.loop-at.items) (links_of c.next.new.self) x c.item-item.ensures c.in-Some.ensures.steps.0 w.covers_and_or.ensures.coded (cc) (c.loop-at.invariant.walk x h d)
]

pub covers_commands-loop-at-preserved : goal.covers_commands-loop-at-preserved
covers_commands-loop-at-preserved t c = record {
  can_next = tt;
  is_finite = tt;
  end = c.in-Some.ensures.steps.1 ∙ c.loop-at.invariant.end;
  walk = λ x h d. list_more c.args.code.text.now c.args.code.words.now c.in-Some.at c.args.left c.item-item.result c.covers_and_or.result (links_of c.loop-at.items) (links_of c.next.new.self) x c.item-item.ensures c.in-Some.ensures.steps.0 c.if-item.false c.covers_and_or.ensures.coded (cc) (c.loop-at.invariant.walk x h d);
}

pub covers_commands-returns-clause-coded : goal.covers_commands-returns-clause-coded
covers_commands-returns-clause-coded t c = λ x h d. list_end c.args.code.text.now c.args.code.words.now c.args.root c.args.left c.ended.result (links_of c.loop-at.items) x (c.ended.ensures.over c.in_default.ensures.steps.0.1 ∙ c.in_default.ensures.steps.1 ∙ c.loop-at.invariant.end) c.in_default.ensures.steps.0.0 h (c.loop-at.invariant.walk x h d)

pub covers_commands-returns-clause-end : goal.covers_commands-returns-clause-end
covers_commands-returns-clause-end t c = λ e. sym (c.ended.ensures.over c.in_default.ensures.steps.0.1 ∙ c.in_default.ensures.steps.1 ∙ c.loop-at.invariant.end) ∙ e

pub covers_else-returns-then-at-eq0 : goal.covers_else-returns-then-at-eq0
covers_else-returns-then-at-eq0 t c = λ x h d. eq-eqb c.args.at 0 c.if-at-eq0.true ∙ else_none c.args.code.text.now c.args.code.words.now c.args.at c.args.left c.if-at-eq0.true x h d

pub covers_else-returns-else-at-eq0 : goal.covers_else-returns-else-at-eq0
covers_else-returns-else-at-eq0 t c = else_some c.args.code.text.now c.args.code.words.now c.args.at c.args.left c.word.result c.covers_commands.result c.if-at-eq0.false c.word.ensures c.covers_commands.ensures.coded

pub covers_pipeline-returns-then-word-eq0-clause-coded :
    goal.covers_pipeline-returns-then-word-eq0-clause-coded
covers_pipeline-returns-then-word-eq0-clause-coded t c = pipeline_yes c.args.code.text.now c.args.code.words.now c.args.at c.args.left c.word.result c.covers_command.result c.word.ensures c.if-word-eq0.true c.covers_command.ensures

pub covers_pipeline-returns-else-word-eq0-clause-coded :
    goal.covers_pipeline-returns-else-word-eq0-clause-coded
covers_pipeline-returns-else-word-eq0-clause-coded t c = λ p h d. ne_eqb c.word.result 0 c.if-word-eq0.false ∙ pipeline_no c.args.code.text.now c.args.code.words.now c.args.at c.args.left c.word.result c.word.ensures c.if-word-eq0.false p h d
