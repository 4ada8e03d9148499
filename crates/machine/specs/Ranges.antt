-- What seq reads off its arguments.
use Rattle.std.specs.Prelude.{List, [], ◌∷◌, Some, None, Option as Maybe}
use Rattle.syntax.specs.Base.{opt}
use Rattle.meaning.specs.System.{QuotedByte}
use Rattle.meaning.specs.Words.{number, bytes_of}
use Rattle.machine.specs.declared.arguments.Range.{Range}

abbrev pub seq_range : List (List QuotedByte) → Maybe Range
seq_range [] = None
seq_range (e ∷ []) = opt (number (bytes_of e)) None (λ n. Some (record { from = 1; to = n }))
seq_range (e ∷ f ∷ []) = opt (number (bytes_of e)) None (λ m. opt (number (bytes_of f)) None (λ n. Some (record { from = m; to = n })))
seq_range (e ∷ f ∷ g ∷ es) = None
