-- What each answer of the call says, after the test whether too few words are lent.
use Rattle.std.proofs.Common.{◌≡◌, ℕ, ◌+◌, ◌*◌, ◌<◌, ◌↔◌, Bool, true, false, List, length, IsTrue, refl, sym}
use Rattle.std.proofs.lemmas.Bool.{both_ways}
use Rattle.pipes.specs.declared.Ran.TheVariants.{NotYet, NoText, Few}
use Rattle.pipes.specs.Says.{RanPost}
use Rattle.syntax.specs.Tree.{CommandList}
use Rattle.grammar.specs.Grammar.{Parses}
use Rattle.reader.specs.Answer.{IsProgram}
use Rattle.pipes.proofs.Parts.{parts}

module _ (t i : List ℕ) (most w : ℕ) (o : List ℕ) (few : Bool) (told : IsTrue few ↔ (w < 65536 + 16 * length t)) where
  pub few_said : few ≡ true → RanPost t i most w o o Few
  few_said e = record { says = refl; parts = parts; few = (λ k. refl, λ z. told.0 e) }

  pub no_text : few ≡ false → ((l : CommandList) → Parses t l → ⊥) → RanPost t i most w o o NoText
  no_text e n = record { says = (n, refl); parts = parts; few = (λ k. absurd (both_ways few e (told.1 k)), λ z. cc) }

  pub not_yet : (code : List ℕ) (root words st : ℕ) → few ≡ false → IsProgram t code root words st → RanPost t i most w o o (NotYet st)
  not_yet code root words st e p = record { says = (p.tree, p.parses, sym p.staged, λ z. z, refl); parts = parts; few = (λ k. absurd (both_ways few e (told.1 k)), λ z. cc) }
