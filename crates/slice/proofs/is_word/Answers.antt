use Rattle.std.proofs.Common.{Some, None, sym, ◌∙◌}
use Rattle.std.proofs.lemmas.Slice.Eq.{strip_prefix_is}
use Rattle.std.proofs.lemmas.Bool.Decides.{Decides-eqb}
use Rattle.code.specs.Chains.{links_of}
use Rattle.slice.proofs.Spelling.{name_more, name_other}
use Rattle.slice.proofs.is_word.Goals as goal

pub loop-at-preserved : goal.loop-at-preserved
loop-at-preserved c = record {
  can_next = tt;
  is_finite = tt;
  still = c.loop-at.invariant.still ∙ name_more c.args.code.text.now c.args.code.words.now c.in-Some.at (links_of c.loop-at.at-iterator) (links_of c.next.new.self) c.loop-at.rest.now c.bytes_at.result.now c.in-Some-strip_prefix.after.now c.in-Some.ensures.steps.0 (cc) (strip_prefix_is Decides-eqb c.loop-at.rest.now c.bytes_at.result.now (Some c.in-Some-strip_prefix.after) c.in-Some-strip_prefix.ensures.cases);
}

pub returns-in_default : goal.returns-in_default
returns-in_default c = sym (c.loop-at.invariant.still ∙ name_other c.args.code.text.now c.args.code.words.now c.in-Some.at (links_of c.loop-at.at-iterator) (links_of c.next.new.self) c.loop-at.rest.now c.bytes_at.result.now c.in-Some.ensures.steps.0 (cc) (strip_prefix_is Decides-eqb c.loop-at.rest.now c.bytes_at.result.now None c.in_default.ensures.cases))
