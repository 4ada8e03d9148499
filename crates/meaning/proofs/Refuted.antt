-- Without the rule that no $( ) stands behind a redirection that reads, a calm text of stage 2 has two papers:
-- in  cat << 'a(end of line)bc' > $(cat | head 1); cat a  the inner cat reads the text that the outer one reads later, and
-- how much it has taken when head leaves depends on the order.
use mathlib.Core.Path.{◌≡◌, refl, sym, ◌∙◌, subst}
use mathlib.Core.Bool.{true, false}
use mathlib.Core.List.{List, [], ◌∷◌}
use mathlib.Core.Option.{some}
use Prim.Native.Nat.{ℕ, zero, suc}
use lib.Chars.{codes}
use Rattle.syntax.specs.Base.{opt}
use Rattle.syntax.specs.Tree.{literal, substitution, Word, no_parts, and_part, Words, no_words, and_word, no_assignments, output, here, Redirects, no_redirects, redirect, Command, simple, single, piped, first, CommandList, end, next}
use Rattle.syntax.specs.Stage.{stage}
use Rattle.meaning.specs.System.{System}
use Rattle.meaning.specs.Step.{moves, initial}
use Rattle.meaning.specs.Calm.{calm, calm_list}
use Rattle.meaning.specs.Statements.{WithoutTheRule}

written : List ℕ → Word
written b = and_part (literal false b) no_parts

command : List ℕ → Words → Redirects → Command
unfolding written
command x ws ts = simple no_assignments (and_word (written x) ws) ts

then : Command → CommandList → CommandList
then c l = next (first false (single c)) false l

text : CommandList
unfolding written command then
text =
    let inner = next (first false (piped (command (codes "cat") no_words no_redirects) (single (command (codes "head") (and_word (written (codes "1")) no_words) no_redirects)))) false end in
    then (command (codes "cat") no_words (redirect here (and_part (literal true (97 ∷ 10 ∷ 98 ∷ 99 ∷ [])) no_parts) (redirect output (and_part (substitution false inner) no_parts) no_redirects)))
    (then (command (codes "cat") (and_word (written (codes "a")) no_words) no_redirects) end)

-- k moves of process q
turns : ℕ → ℕ → List ℕ → List ℕ
turns zero q ms = ms
turns (suc k) q ms = q ∷ turns k q ms

order_a : List ℕ
unfolding turns
order_a = turns 11 0 (turns 3 1 (turns 21 2 (turns 8 3 (turns 1 0 (turns 3 3 (turns 1 0 (turns 4 3 (turns 3 1 (turns 24 0 [])))))))))

order_b : List ℕ
unfolding turns
order_b = turns 11 0 (turns 3 1 (turns 6 3 (turns 6 2 (turns 3 3 (turns 3 2 (turns 6 3 (turns 3 2 (turns 3 1 (turns 32 0 [])))))))))

comes_to : List ℕ → System
comes_to a = opt (moves (initial text [] []) a) (initial text [] []) (λ s. s)

is_calm : calm_list false false text ≡ true
unfolding text written command then turns
is_calm = refl

is_stage_2 : stage text ≡ 2
unfolding text written command then turns
is_stage_2 = refl

run_a : moves (initial text [] []) order_a ≡ some (comes_to order_a)
unfolding text written command then turns order_a comes_to
run_a = refl

end_a : (comes_to order_a).processes ≡ []
unfolding text written command then turns order_a comes_to
end_a = refl

run_b : moves (initial text [] []) order_b ≡ some (comes_to order_b)
unfolding text written command then turns order_b comes_to
run_b = refl

end_b : (comes_to order_b).processes ≡ []
unfolding text written command then turns order_b comes_to
end_b = refl

paper_a : (comes_to order_a).paper ≡ []
unfolding text written command then turns order_a comes_to
paper_a = refl

paper_b : (comes_to order_b).paper ≡ codes "c"
unfolding text written command then turns order_b comes_to
paper_b = refl

abbrev Nil : List ℕ → Type 0
Nil [] = Unit {0}
Nil (x ∷ xs) = ⊥

pub without_the_rule : WithoutTheRule
without_the_rule n h d =
    let e = d text order_a order_b (comes_to order_a) (comes_to order_b) (rw is_stage_2 h) is_calm run_a run_b end_a end_b in
    subst Nil (sym paper_a ∙ e ∙ paper_b) tt

-- with the rule the text is not calm
left_out : calm text ≡ false
unfolding text written command then
left_out = refl
