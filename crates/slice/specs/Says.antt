-- What an answer says of each kind of code: it is right for every tree that is coded at the address and not too deep.
use Rattle.std.specs.Prelude.{◌≡◌, ℕ, ◌+◌, ◌<◌, Bool, ◌&&◌, List, slice_index, nat_le}
use Rattle.std.specs.List.{flat_map, list_all}
use Rattle.syntax.specs.Tree.{Words, Command, ElsePart, Pipeline, AndOr, CommandList}
use Rattle.syntax.specs.Depth.{list_depth, and_or_depth, pipeline_depth, command_depth, else_depth}
use Rattle.code.specs.Cells.{bytes_at}
use Rattle.code.specs.Chains.{chain_of, ends_at}
use Rattle.code.specs.Code.{WordsCode, CommandCode, ElseCode, PipelineCode, AndOrCode, ListCode}
use Rattle.slice.specs.Slice.{all_literals, names_covered, covers_command, covers_else, covers_pipeline, covers_and_or, covers_list}

-- whether the cell of a part says that it is a literal; the parts of a word, which come to an end; the words from a on
abbrev pub is_literal : List ℕ → ℕ → Bool
is_literal words a = nat_le (slice_index words (a + 1)) 1

abbrev pub literals_at : List ℕ → ℕ → Bool
literals_at words a = list_all (is_literal words) (chain_of words a) && ends_at words a

abbrev pub all_literals_at : List ℕ → ℕ → Bool
all_literals_at words a = list_all (λ b. literals_at words (slice_index words (b + 1))) (chain_of words a) && ends_at words a

module _ (text words : List ℕ) where
  -- the bytes that stand in these cells, and in those of the parts from a on
  abbrev pub spelled : List ℕ → List ℕ
  spelled xs = flat_map (λ a. bytes_at text words (a + 2)) xs

  abbrev pub spelled_at : ℕ → List ℕ
  spelled_at a = spelled (chain_of words a)

  abbrev pub WordsSays : ℕ → Bool → Type 0
  WordsSays a r = (ws : Words) → WordsCode text words a ws → r ≡ (all_literals ws && names_covered ws)

  abbrev pub ListSays : ℕ → ℕ → Bool → Type 0
  ListSays a left r = (l : CommandList) → ListCode text words a l → list_depth l < left → r ≡ covers_list l

  abbrev pub ElseSays : ℕ → ℕ → Bool → Type 0
  ElseSays a left r = (e : ElsePart) → ElseCode text words a e → else_depth e < left → r ≡ covers_else e

  abbrev pub CommandSays : ℕ → ℕ → Bool → Type 0
  CommandSays a left r = (c : Command) → CommandCode text words a c → command_depth c < left → r ≡ covers_command c

  abbrev pub PipelineSays : ℕ → ℕ → Bool → Type 0
  PipelineSays a left r = (p : Pipeline) → PipelineCode text words a p → pipeline_depth p < left → r ≡ covers_pipeline p

  abbrev pub AndOrSays : ℕ → ℕ → Bool → Type 0
  AndOrSays a left r = (x : AndOr) → AndOrCode text words a x → and_or_depth x < left → r ≡ covers_and_or x
