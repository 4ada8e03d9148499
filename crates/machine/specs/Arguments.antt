-- What a command reads off its arguments, encoded with a mark before each.
use Rattle.std.specs.Prelude.{ℕ, ◌%◌, List, [], ◌∷◌, take, Some, None, Option as Maybe}
use Rattle.std.proofs.Math.Option.{Option, some, none}
use Rattle.meaning.specs.Words.{number}
use Rattle.words.specs.Encoding.{shown, word_length}

-- the bytes of an encoded word
abbrev pub lows : List ℕ → List ℕ
lows [] = []
lows (w ∷ ws) = (w % 256) ∷ lows ws

abbrev pub maybe : Option ℕ → Maybe ℕ
maybe none = None
maybe (some n) = Some n

abbrev pub number_of : List ℕ → Maybe ℕ
number_of ws = maybe (number (lows ws))

-- the number that exit is given, or else the last status
abbrev pub exit_number : List ℕ → ℕ → Maybe ℕ
exit_number [] n = Some n
exit_number (w ∷ ws) n = number_of (take (word_length ws) ws)

-- what yes prints: its first argument, or y
abbrev pub chosen : List ℕ → List ℕ
chosen [] = 121 ∷ []
chosen (w ∷ ws) = shown (take (word_length ws) ws)
