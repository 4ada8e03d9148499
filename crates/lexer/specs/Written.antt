-- The words of tokens while they are written.
use Rattle.std.specs.Prelude.{◌≡◌, ℕ, ◌+◌, ◌<◌, ◌≤◌, Bool, List, [], ◌∷◌, slice_index, slice_set}
use Rattle.std.specs.declared.option.Option.TheVariants.{Some}
use Rattle.lexer.specs.declared.token.Bracket.TheVariants.{Opens}
use Rattle.lexer.specs.declared.token.Token.{Token}
use Rattle.lexer.specs.Codes.{code_of, bracket_of}
use Rattle.lexer.specs.Cuts.{behind_closed}

-- the words with those of a token at a place
abbrev pub entry : List ℕ → ℕ → ℕ → ℕ → ℕ → List ℕ
entry m a code start third = slice_set (slice_set (slice_set m a code) (a + 1) start) (a + 2) third

-- open brackets below the word hi, of which the innermost stands at a: the third word of one is where the one around it stands
pub data Brackets (m : List ℕ) : ℕ → ℕ → List Bool → Type 0 where
  none_open : {hi : ℕ} → Brackets m hi 0 []
  one_open : {hi a k : ℕ} {o : List Bool} (x : Token) → 0 < a → a + 3 ≤ hi → slice_index m (a + 2) ≡ k → slice_index m a ≡ code_of x → bracket_of x ≡ Some Opens → Brackets m a k o → Brackets m hi a ((behind_closed x).joined ∷ (behind_closed x).quoted ∷ o)
