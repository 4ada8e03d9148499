use Rattle.std.proofs.Common.{◌≡◌, ℕ, ◌||◌, eqb, List, [], ◌∷◌, refl, ap, ◌∙◌, rules, tests}
use Rattle.std.specs.List.{list_any}
use Rattle.std.proofs.lemmas.Iterator.{YieldsList-from_slice}
use Rattle.std.proofs.lemmas.Iterator.Search.{any_from_yields_List}
use Rattle.words.specs.Encoding.{patterned}
use Rattle.machine.proofs.expansion.has_pattern.Goals as goal

any-patterned : (ws : List ℕ) → list_any (λ w. eqb w 42 || eqb w 63) ws ≡ patterned ws
any-patterned [] = refl
any-patterned (w ∷ ws) = ap (λ b. (eqb w 42 || eqb w 63) || b) (any-patterned ws)

pub returns : goal.returns
returns c = any_from_yields_List (λ w. eqb w 42 || eqb w 63) _ _ _ c.any.ensures.ran (YieldsList-from_slice c.args.words.now cc) (λ x b q k. search (rules, tests)) ∙ any-patterned c.args.words.now
