use Rattle.slice.proofs.Spelling.{covered_none, covered_no, covered_empty, covered_named}
use Rattle.slice.proofs.covers_words.Goals as goal

pub returns-then-words-eq0 : goal.returns-then-words-eq0
returns-then-words-eq0 c = covered_none c.args.code.text.now c.args.code.words.now c.args.words c.if-words-eq0.true

pub returns-then-not-all_literals : goal.returns-then-not-all_literals
returns-then-not-all_literals c = covered_no c.args.code.text.now c.args.code.words.now c.args.words (cc)

pub returns-then-first-eq0 : goal.returns-then-first-eq0
returns-then-first-eq0 c = covered_empty c.args.code.text.now c.args.code.words.now c.args.words c.word-first.result c.if-words-eq0.false (cc) c.word-first.ensures c.if-first-eq0.true

pub returns : goal.returns
returns c = covered_named c.args.code.text.now c.args.code.words.now c.args.words c.word-first.result c.is_left_out.result c.if-words-eq0.false (cc) c.word-first.ensures c.if-first-eq0.false c.is_left_out.ensures
