-- There are six stages.
use mathlib.Core.Bool.{Bool, true, false, not, ◌&&◌}
use Prim.Native.Nat.{ℕ, ◌≤◌}
use native.Mathlib.Nat.{max-le}
use native.Mathlib.Omega.{arith}
use Rattle.syntax.specs.Base.{pick}
use Rattle.syntax.specs.Tree.{WordPart, literal, parameter, substitution, Word, no_parts, and_part, Words, no_words, and_word, Assignments, no_assignments, assign, Redirects, no_redirects, redirect, Command, simple, group, subshell, if, while, for, case, function, ElsePart, no_else, else, Arms, no_arms, arm, Pipeline, single, piped, AndOr, first, joined, CommandList, end, next}
use Rattle.syntax.specs.Stage.{positional, has_wildcard, part_stage, word_stage, words_stage, assignments_stage, redirects_stage, command_stage, else_stage, arms_stage, pipeline_stage, and_or_stage, list_stage}
use Rattle.syntax.specs.Statements.{SixStages}

picked : (b : Bool) (m n : ℕ) → m ≤ 5 → n ≤ 5 → pick b m n ≤ 5
picked true m n p q = p
picked false m n p q = q

mutual
  part : (p : WordPart) → part_stage p ≤ 5
  part (literal q s) = picked (not q && has_wildcard s) 4 0 (omega arith) (omega arith)
  part (parameter q x) = picked (positional x) 3 0 (omega arith) (omega arith)
  part (substitution q l) = max-le (omega arith) (list l)

  word : (w : Word) → word_stage w ≤ 5
  word no_parts = omega arith
  word (and_part p w) = max-le (part p) (word w)

  words : (ws : Words) → words_stage ws ≤ 5
  words no_words = omega arith
  words (and_word w ws) = max-le (word w) (words ws)

  assignments : (ss : Assignments) → assignments_stage ss ≤ 5
  assignments no_assignments = omega arith
  assignments (assign x w ss) = max-le (word w) (assignments ss)

  redirects : (ts : Redirects) → redirects_stage ts ≤ 5
  redirects no_redirects = omega arith
  redirects (redirect k w ts) = max-le (word w) (redirects ts)

  command : (c : Command) → command_stage c ≤ 5
  command (simple ss ws ts) = max-le (assignments ss) (max-le (words ws) (redirects ts))
  command (group l ts) = max-le (list l) (redirects ts)
  command (subshell l ts) = max-le (omega arith) (max-le (list l) (redirects ts))
  command (if a b e ts) = max-le (max-le (list a) (list b)) (max-le (else_part e) (redirects ts))
  command (while a b ts) = max-le (list a) (max-le (list b) (redirects ts))
  command (for x ws l ts) = max-le (omega arith) (max-le (words ws) (max-le (list l) (redirects ts)))
  command (case w as₁ ts) = max-le (omega arith) (max-le (word w) (max-le (arms as₁) (redirects ts)))
  command (function x l) = max-le (omega arith) (list l)

  else_part : (e : ElsePart) → else_stage e ≤ 5
  else_part no_else = omega arith
  else_part (else l) = list l

  arms : (as₁ : Arms) → arms_stage as₁ ≤ 5
  arms no_arms = omega arith
  arms (arm w l as₁) = max-le (word w) (max-le (list l) (arms as₁))

  pipeline : (p : Pipeline) → pipeline_stage p ≤ 5
  pipeline (single c) = command c
  pipeline (piped c p) = max-le (omega arith) (max-le (command c) (pipeline p))

  and_or : (a : AndOr) → and_or_stage a ≤ 5
  and_or (first n p) = pipeline p
  and_or (joined a b n p) = max-le (and_or a) (pipeline p)

  list : (l : CommandList) → list_stage l ≤ 5
  list end = omega arith
  list (next a b l) = max-le (and_or a) (max-le (picked b 5 0 (omega arith) (omega arith)) (list l))

pub six_stages : SixStages
six_stages l = list l
