-- Where a text comes from.
use Rattle.std.specs.Prelude.{◌≡◌, ℕ, List, take, codes, string_bytes}
use Rattle.front.specs.declared.options.Source.{Source}
use Rattle.front.specs.declared.options.Source.TheVariants.{File, Text}

-- its name in messages
abbrev pub source_name : Source → List ℕ
source_name (File name) = string_bytes name
source_name (Text text) = codes "-c"

-- a text on the command line, as far as it fits into so many bytes; nothing is known of a file's
abbrev pub TextIs : Source → ℕ → List ℕ → Type 0
TextIs (File name) most bytes = Unit {0}
TextIs (Text text) most bytes = bytes ≡ take most (string_bytes text)
