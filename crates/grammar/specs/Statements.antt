-- What is proved of the grammar.
use Rattle.std.specs.Prelude.{◌≡◌, ◌↔◌, List, ℕ, ◌≤◌, length}
use Rattle.std.proofs.Math.Option.{some}
use Rattle.syntax.specs.Tree.{CommandList}
use Rattle.grammar.specs.Tokens.{tokens, start}
use Rattle.grammar.specs.Grammar.{Parses}
use Rattle.grammar.specs.Parser.{parse}

-- a text is at most one list of commands
abbrev pub Unambiguous : Type 0
Unambiguous = (t : List ℕ) (l m : CommandList) → Parses t l → Parses t m → l ≡ m

-- for a text of at most 16,384 bytes the parser finds exactly the list that the grammar has, or finds none where it has none
abbrev pub ParserAgrees : Type 0
ParserAgrees = (t : List ℕ) (l : CommandList) → length t ≤ 16384 → Parses t l ↔ (parse (tokens start t) ≡ some l)
