-- That the theorem says something: of  "seq" 5 | head 1; for x in a b; do echo $(echo $x | cat) done, a calm text of stage 4,
-- two orders end, one that always moves the newest process that can move and one that moves the oldest. They are of
-- different lengths.
use mathlib.Core.Path.{◌≡◌, refl, sym, ◌∙◌}
use mathlib.Core.Bool.{true, false}
use mathlib.Core.List.{List, [], ◌∷◌}
use mathlib.Core.Option.{Option, some, none}
use Prim.Native.Nat.{ℕ, zero, suc}
use native.Mathlib.Omega.{arith}
use lib.Chars.{codes}
use lib.ListN.{length}
use Rattle.syntax.specs.Base.{pick, opt}
use Rattle.syntax.specs.Tree.{WordPart, literal, parameter, substitution, Word, no_parts, and_part, Words, no_words, and_word, no_assignments, no_redirects, Command, simple, for, Pipeline, single, piped, first, CommandList, end, next}
use Rattle.syntax.specs.Stage.{stage}
use Rattle.meaning.specs.System.{Process, System}
use Rattle.meaning.specs.Step.{enabled, move, moves, initial}
use Rattle.meaning.specs.Calm.{calm}
use Rattle.confluence.proofs.Confluence.{confluent}

abbrev word : WordPart → Word
word p = and_part p no_parts

abbrev command : Word → Words → Command
command w ws = simple no_assignments (and_word w ws) no_redirects

abbrev list : Pipeline → CommandList → CommandList
list p l = next (first false p) false l

abbrev text : CommandList
text =
    let quoted = and_part (literal true []) (word (literal true (codes "seq"))) in
    let inner = list (piped (command (word (literal false (codes "echo"))) (and_word (word (parameter false (codes "x"))) no_words))
    (single (command (word (literal false (codes "cat"))) no_words))) end in
    list (piped (command quoted (and_word (word (literal false (codes "5"))) no_words))
    (single (command (word (literal false (codes "head"))) (and_word (word (literal false (codes "1"))) no_words))))
    (list (single (for (codes "x") (and_word (word (literal false (codes "a"))) (and_word (word (literal false (codes "b"))) no_words))
    (list (single (command (word (literal false (codes "echo"))) (and_word (word (substitution false inner)) no_words))) end) no_redirects)) end)

-- the newest and the oldest process that can move
abbrev newest : System → List Process → Option ℕ
newest s [] = none
newest s (w ∷ ws) = opt (newest s ws) (pick (enabled s w) (some w.pid) none) some

abbrev oldest : System → List Process → Option ℕ
oldest s [] = none
oldest s (w ∷ ws) =
    let r = oldest s ws in
    pick (enabled s w) (some w.pid) r

abbrev order : (System → List Process → Option ℕ) → ℕ → System → List ℕ
order f zero s = []
order f (suc n) s = opt (f s s.processes) [] (λ q. opt (move s q) [] (λ t. q ∷ order f n t))

abbrev comes_to : List ℕ → System
comes_to a = opt (moves (initial text [] []) a) (initial text [] []) (λ s. s)

abbrev order_a : List ℕ
order_a = order newest 300 (initial text [] [])

abbrev order_b : List ℕ
order_b = order oldest 300 (initial text [] [])

is_stage_4 : stage text ≡ 4
is_stage_4 = refl

is_calm : calm text ≡ true
is_calm = refl

run_a : moves (initial text [] []) order_a ≡ some (comes_to order_a)
run_a = refl

run_b : moves (initial text [] []) order_b ≡ some (comes_to order_b)
run_b = refl

end_a : (comes_to order_a).processes ≡ []
end_a = refl

end_b : (comes_to order_b).processes ≡ []
end_b = refl

length_a : length order_a ≡ 147
length_a = refl

length_b : length order_b ≡ 164
length_b = refl

-- 1, a and b, a line each
paper_a : (comes_to order_a).paper ≡ 49 ∷ 10 ∷ 97 ∷ 10 ∷ 98 ∷ 10 ∷ []
paper_a = refl

-- so the other order puts the same on the paper
paper_b : (comes_to order_b).paper ≡ 49 ∷ 10 ∷ 97 ∷ 10 ∷ 98 ∷ 10 ∷ []
paper_b = sym (confluent text order_a order_b (comes_to order_a) (comes_to order_b) (rw is_stage_4 (omega arith)) is_calm run_a run_b end_a end_b).0 ∙ paper_a
