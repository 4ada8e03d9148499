-- What reading a text answers.
use Rattle.std.specs.Prelude.{◌≡◌, ℕ, ◌+◌, ◌*◌, ◌≤◌, List, length, take}
use Rattle.syntax.specs.Tree.{CommandList}
use Rattle.syntax.specs.Stage.{stage}
use Rattle.grammar.specs.Grammar.{Parses}
use Rattle.code.specs.Code.{ListCode}

-- the list of commands that the text is, its code in the first words, with the address of its first cell, and its stage
pub record IsProgram (text code : List ℕ) (root words st : ℕ) : Type 0 where
  pub tree : CommandList
  pub parses : Parses text tree
  pub coded : ListCode text code root tree
  pub packed : ListCode text (take words code) root tree
  pub staged : st ≡ stage tree
  pub fits : words ≤ length code
  pub small : words ≤ 16 * length text + 32

-- the text is no list of commands; reading stopped at a byte of it or at its end
pub record NoProgram (text : List ℕ) (at : ℕ) : Type 0 where
  pub none : (l : CommandList) → Parses text l → ⊥
  pub within : at ≤ length text
