use Rattle.std.proofs.lemmas.Slice.Eq.{slice_eq-Decides}
use Rattle.std.proofs.lemmas.Bool.Decides.{Decides-eqb}
use Rattle.lexer.proofs.Runs.{decides_same}
use Rattle.lexer.proofs.token.Keyword.is_spelled.Goals as goal

pub returns : goal.returns
returns c = rw (← c.spelling.ensures) (decides_same c.args.word.now _ _ (slice_eq-Decides Decides-eqb _ _ _ c.eq.ensures))
