-- What a walk over a chain gives: its cells, and where it leaves the chain.
use Rattle.std.proofs.Common.{◌≡◌, ℕ, Bool, true, false, List, [], ◌∷◌, length, sym, ap, ◌∙◌, subst, Option, Some, None}
use Rattle.std.specs.Iterator.{Yields, YieldsThen}
use Rattle.std.specs.Option.{MatchOption}
use Rattle.std.proofs.lemmas.Bool.{both_ways}
use Rattle.std.proofs.lemmas.Iterator.{YieldsList}
use Rattle.std.proofs.lemmas.Iterator.Consumers.{YieldsList-from_shown}
use Rattle.code.specs.declared.chain.Chain.{Chain}
use Rattle.code.specs.Chains.{ends, Follows, links_of}

pub walk_cells : (s : Chain) (xs : List ℕ) → links_of s ≡ xs → YieldsList Follows (λ x. x) s xs
walk_cells s xs e = subst (YieldsList Follows (λ x. x) s) e (YieldsList-from_shown Follows (λ x. x) links_of (λ s t h. ap length h.0.0) (λ s x t h. h.0) s)

still_ends : (xs : List ℕ) (s t : Chain) → Yields Follows s xs t → ends t ≡ ends s
still_ends [] s t y = ap ends (sym y)
still_ends (x ∷ xs) s t y = still_ends xs y.0 t y.2 ∙ y.1.1

-- where an `all` is true, it went over the whole chain
pub all_over : (P : ℕ → Type 0) (xs : List ℕ) (o : Option ℕ) (r : Bool) (s u : Chain) → YieldsThen Follows s xs o u → MatchOption o (r ≡ true) (λ x. (r ≡ false) × P x) → r ≡ true → (links_of u ≡ []) × (ends u ≡ ends s)
all_over P xs None r s u y m t = (y.2.0.1, y.2.1 ∙ still_ends xs s y.0 y.1)
all_over P xs (Some x) r s u y m t = absurd (both_ways r m.0 t)
