use Rattle.std.proofs.Common.{sym, arith}
use Rattle.lexer.proofs.Runs.{keyword_is, no_keyword, assignment_is, name_before, plain_is, plain_without}
use Rattle.lexer.proofs.token.bare_token.Goals.{in_default-find-via-in-Some-find+else-is_name, in_default-find-via-in_default-find}
use Rattle.lexer.proofs.token.bare_token.Goals as goal

pub returns-in-Some-clause-code : goal.returns-in-Some-clause-code
returns-in-Some-clause-code c = keyword_is c.args.word.now c.in-Some.keyword c.in-Some.ensures

pub overflow_cast-result : goal.overflow_cast-result
overflow_cast-result c = omega (arith, name_before c.args.word.now c.in-Some-find.len c.in-Some-find.ensures (sym c.if-is_name.ensures))

pub returns-in-Some-find-clause-code : goal.returns-in-Some-find-clause-code
returns-in-Some-find-clause-code c = assignment_is c.args.word.now c.in-Some-find.len (no_keyword c.args.word.now c.in_default.ensures) c.in-Some-find.ensures (sym c.if-is_name.ensures)

-- a word that is no keyword and no assignment
pub returns-in_default-find-clause-code : goal.returns-in_default-find-clause-code
returns-in_default-find-clause-code c = elim c.in_default-find.branch [ in_default-find-via-in-Some-find+else-is_name w ↦ rw (sym c.if-is_name-2.ensures) at (plain_is c.args.word.now w.in-Some-find.len (no_keyword c.args.word.now c.in_default.ensures) w.in-Some-find.ensures (sym w.if-is_name.ensures)) | in_default-find-via-in_default-find w ↦ rw (sym c.if-is_name-2.ensures) at (plain_without c.args.word.now (no_keyword c.args.word.now c.in_default.ensures) w.in_default-find.ensures) ]

pub returns-in_default-2-clause-code : goal.returns-in_default-2-clause-code
returns-in_default-2-clause-code c = elim c.in_default-find.branch [ in_default-find-via-in-Some-find+else-is_name w ↦ rw (sym c.if-is_name-2.ensures) at (plain_is c.args.word.now w.in-Some-find.len (no_keyword c.args.word.now c.in_default.ensures) w.in-Some-find.ensures (sym w.if-is_name.ensures)) | in_default-find-via-in_default-find w ↦ rw (sym c.if-is_name-2.ensures) at (plain_without c.args.word.now (no_keyword c.args.word.now c.in_default.ensures) w.in_default-find.ensures) ]
