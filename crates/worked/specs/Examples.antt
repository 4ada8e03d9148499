-- Small texts and what they give, from the bytes of the text to the bytes on the paper.
use Rattle.std.specs.Prelude.{◌≡◌, List, [], ◌∷◌, ◌++◌, ℕ, codes, length}
use Rattle.std.proofs.Math.Option.{some, none}
use Rattle.syntax.specs.Base.{opt, nth}
use Rattle.syntax.specs.Tree.{CommandList}
use Rattle.grammar.specs.Grammar.{Parses}
use Rattle.meaning.specs.System.{System, exit_status, find_process}
use Rattle.meaning.specs.Step.{step, moves, initial}

-- the text t is a list of commands that, with no input, by some order of moves, ends with p on the paper and status k
pub record Gives (t p : List ℕ) (k : ℕ) : Type 0 where
  pub list : CommandList
  pub parsed : Parses t list
  pub order : List ℕ
  pub last : System
  pub comes : moves (initial list [] []) order ≡ some last
  pub over : last.processes ≡ []
  pub paper : last.paper ≡ p
  pub status : exit_status last.exited 0 ≡ some k

-- lines of a paper
abbrev pub lines : List (List ℕ) → List ℕ
lines [] = []
lines (l ∷ ls) = l ++ (10 ∷ lines ls)

-- the text t is a list of commands of which some order of moves comes to where process q has to wait, with n bytes in the
-- first pipe
pub record Fills (t : List ℕ) (q n : ℕ) : Type 0 where
  pub list : CommandList
  pub parsed : Parses t list
  pub order : List ℕ
  pub last : System
  pub comes : moves (initial list [] []) order ≡ some last
  pub waits : opt (find_process last.processes q) none (step last) ≡ none
  pub bytes : opt (nth last.pipes 0) 0 length ≡ n

pub record Examples : Type 0 where
  -- words: quotes, parameters, splitting, patterns
  pub assignment : Gives (codes "x=5; echo \"a $x\" b") (lines (codes "a 5 b" ∷ [])) 0
  pub splitting : Gives (codes "x=\"a b\"; echo $x \"$x\"") (lines (codes "a b a b" ∷ [])) 0
  pub split_test : Gives (codes "x=\"a b\"; test $x = y") [] 2
  pub no_second_reading : Gives (codes "x='$(rm f)'; echo $x") (lines (codes "$(rm f)" ∷ [])) 0
  pub empty_word : Gives (codes "x=; echo a $x \"$x\" b$") (lines (codes "a  b$" ∷ [])) 0
  pub no_match : Gives (codes "x='f*'; echo $x; echo > fa; echo $x \"$x\"") (lines (codes "f*" ∷ codes "fa f*" ∷ [])) 0
  pub comment : Gives (codes "echo a#b $#\"c\"#d #e") (lines (codes "a#b 0c#d" ∷ [])) 0
  -- control
  pub and_else : Gives (codes "if false && true; then echo y; else echo n; fi") (lines (codes "n" ∷ [])) 0
  pub empty_else : Gives (codes "if false; then true; else fi; echo $?") (lines (codes "1" ∷ [])) 0
  pub no_else : Gives (codes "if false; then true; fi; echo $?") (lines (codes "0" ∷ [])) 0
  pub negated : Gives (codes "! true; echo $?; ! { false; exit 259; }") (lines (codes "1" ∷ [])) 3
  pub loop : Gives (codes "seq 9 > f; while read x; do test $x = 2 && continue; echo $x; test $x = 4 && break; done < f; echo $?") (lines (codes "1" ∷ codes "3" ∷ codes "4" ∷ codes "0" ∷ [])) 0
  -- files and redirections
  pub appended : Gives (codes "echo a > f; echo b >> f; cat < f; echo c > f; cat f") (lines (codes "a" ∷ codes "b" ∷ codes "c" ∷ [])) 0
  pub group : Gives (codes "{ echo a; { echo b; } > g; echo c; } > f; cat f g; rm f; cat f") (lines (codes "a" ∷ codes "c" ∷ codes "b" ∷ [])) 1
  -- pipes
  pub pipe : Gives (codes "seq 3 | grep 2") (lines (codes "2" ∷ [])) 0
  pub counted : Gives (codes "seq 8 12 | head 3 | wc") (lines (codes "3 7" ∷ [])) 0
  pub endless : Gives (codes "yes | head 1") (lines (codes "y" ∷ [])) 0
  pub full : Fills (codes "yes | cat") 1 512
  -- $( )
  pub captured : Gives (codes "echo $(echo a; echo b) > f; cat f") (lines (codes "a b" ∷ [])) 0
  -- functions
  pub called : Gives (codes "g() { echo $2$#; return 3; }; g p q; echo $?") (lines (codes "q2" ∷ codes "3" ∷ [])) 0
  pub called_apart : Gives (codes "g() { echo $2 $#; return 3; }; g p q; echo $?") (lines (codes "q 2" ∷ codes "3" ∷ [])) 0
  -- for, case, patterns
  pub selected : Gives (codes "for x in ab cd; do case $x in when a*; echo yes1 ;; when *; echo no1 ;; esac; done") (lines (codes "yes1" ∷ codes "no1" ∷ [])) 0
  -- apart and in the background
  pub apart : Gives (codes "x=1; false; ( echo $?; x=2; exit 4; ); echo $? $x") (lines (codes "1" ∷ codes "4 1" ∷ [])) 0
  pub waited : Gives (codes "echo a > f & wait; cat f*") (lines (codes "a" ∷ [])) 0
