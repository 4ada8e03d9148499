-- Each example, computed.
use mathlib.Core.Path.{refl}
use mathlib.Core.List.{List}
use Prim.Native.Nat.{ℕ}
use lib.Chars.{codes}
use Rattle.syntax.specs.Base.{opt}
use Rattle.syntax.specs.Tree.{CommandList, end}
use Rattle.grammar.specs.Tokens.{tokens, start}
use Rattle.grammar.specs.Parser.{parse, level}
use Rattle.worked.specs.Examples.{Examples}
use Rattle.worked.proofs.Schedule.{gives, fills}

tree : List ℕ → CommandList
unfolding parse level
tree t = opt (parse (tokens start t)) end (λ l. l)

pub worked_examples : Examples
unfolding parse level tree
worked_examples =
    record {
      assignment = gives 800 _ _ _ (tree (codes "x=5; echo \"a $x\" b")) tt refl refl;
      splitting = gives 800 _ _ _ (tree (codes "x=\"a b\"; echo $x \"$x\"")) tt refl refl;
      split_test = gives 800 _ _ _ (tree (codes "x=\"a b\"; test $x = y")) tt refl refl;
      no_second_reading = gives 800 _ _ _ (tree (codes "x='$(rm f)'; echo $x")) tt refl refl;
      empty_word = gives 800 _ _ _ (tree (codes "x=; echo a $x \"$x\" b$")) tt refl refl;
      no_match = gives 800 _ _ _ (tree (codes "x='f*'; echo $x; echo > fa; echo $x \"$x\"")) tt refl refl;
      comment = gives 800 _ _ _ (tree (codes "echo a#b $#\"c\"#d #e")) tt refl refl;
      and_else = gives 800 _ _ _ (tree (codes "if false && true; then echo y; else echo n; fi")) tt refl refl;
      empty_else = gives 800 _ _ _ (tree (codes "if false; then true; else fi; echo $?")) tt refl refl;
      no_else = gives 800 _ _ _ (tree (codes "if false; then true; fi; echo $?")) tt refl refl;
      negated = gives 800 _ _ _ (tree (codes "! true; echo $?; ! { false; exit 259; }")) tt refl refl;
      loop = gives 800 _ _ _ (tree (codes "seq 9 > f; while read x; do test $x = 2 && continue; echo $x; test $x = 4 && break; done < f; echo $?")) tt refl refl;
      appended = gives 800 _ _ _ (tree (codes "echo a > f; echo b >> f; cat < f; echo c > f; cat f")) tt refl refl;
      group = gives 800 _ _ _ (tree (codes "{ echo a; { echo b; } > g; echo c; } > f; cat f g; rm f; cat f")) tt refl refl;
      pipe = gives 800 _ _ _ (tree (codes "seq 3 | grep 2")) tt refl refl;
      counted = gives 800 _ _ _ (tree (codes "seq 8 12 | head 3 | wc")) tt refl refl;
      endless = gives 800 _ _ _ (tree (codes "yes | head 1")) tt refl refl;
      full = fills 1032 (codes "yes | cat") 1 512 (tree (codes "yes | cat")) tt refl (refl, refl);
      captured = gives 800 _ _ _ (tree (codes "echo $(echo a; echo b) > f; cat f")) tt refl refl;
      called = gives 800 _ _ _ (tree (codes "g() { echo $2$#; return 3; }; g p q; echo $?")) tt refl refl;
      called_apart = gives 800 _ _ _ (tree (codes "g() { echo $2 $#; return 3; }; g p q; echo $?")) tt refl refl;
      selected = gives 800 _ _ _ (tree (codes "for x in ab cd; do case $x in when a*; echo yes1 ;; when *; echo no1 ;; esac; done")) tt refl refl;
      apart = gives 800 _ _ _ (tree (codes "x=1; false; ( echo $?; x=2; exit 4; ); echo $? $x")) tt refl refl;
      waited = gives 800 _ _ _ (tree (codes "echo a > f & wait; cat f*")) tt refl refl;
    }
