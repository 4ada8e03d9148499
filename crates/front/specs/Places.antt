-- A place in a text as line and column, both from 1.
use Rattle.std.specs.Prelude.{ℕ, suc, List, [], ◌∷◌, ◌==◌}
use Rattle.syntax.specs.Base.{pick}
use Rattle.front.specs.declared.place.Place.{Place}

abbrev pub after_byte : ℕ → ℕ → ℕ → Place
after_byte c line column = pick (c == 10) (record { line = suc line; column = 1 }) (record { line = line; column = suc column })

-- the place behind these bytes, from a line and a column on
abbrev pub place_after : List ℕ → ℕ → ℕ → Place
place_after [] line column = record { line = line; column = column }
place_after (c ∷ cs) line column = place_after cs (after_byte c line column).line (after_byte c line column).column
