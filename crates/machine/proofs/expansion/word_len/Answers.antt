use Rattle.std.proofs.Common.{◌≡◌, ℕ, ◌≤◌, cond, leb, ltb, List, [], ◌∷◌, length, Some, None, refl, ap, ◌∙◌, arith, rules, tests}
use Rattle.std.specs.Option.{unwrap_or}
use Rattle.std.specs.List.{position_or_len}
use Rattle.std.proofs.lemmas.Iterator.{YieldsList-from_slice}
use Rattle.std.proofs.lemmas.Iterator.Search.{position_from_yields_List}
use Rattle.words.specs.Encoding.{word_length}
use Rattle.machine.proofs.expansion.word_len.Goals as goal

position-word_length : (ws : List ℕ) → position_or_len (λ w. leb 512 w) ws ≡ word_length ws
position-word_length [] = refl
position-word_length (w ∷ ws) = grind (arith, position-word_length ws)

length-position : (ws : List ℕ) → position_or_len (λ w. leb 512 w) ws ≤ length ws
length-position [] = omega arith
length-position (w ∷ ws) = grind (arith, length-position ws)

-- the place, or else the length
or_length : (n k : ℕ) → n ≤ k → unwrap_or (cond (ltb n k) (Some n) None) k ≡ n
or_length n k l = grind arith

pub returns-clause-is : goal.returns-clause-is
returns-clause-is c =
    let ws = c.args.words.now in
    let p = position_from_yields_List (λ w. leb 512 w) _ _ c.position.result c.position.ensures.ran (YieldsList-from_slice ws cc) (λ x b q k. search (rules, tests)) in
    c.unwrap_or.ensures ∙ ap (λ o. unwrap_or o (length ws)) p ∙ or_length (position_or_len (λ w. leb 512 w) ws) (length ws) (length-position ws) ∙ position-word_length ws
