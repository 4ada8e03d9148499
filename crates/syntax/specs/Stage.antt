-- The stage of each form. A text's stage is the highest of its forms':
-- 0 the core (simple commands, words, names, files, ; && || ! if while groups), 1 pipes, 2 $( ),
-- 3 functions and their arguments, 4 for, case, and * and ? outside quotes, 5 ( ) and &.
use Rattle.std.specs.Prelude.{Bool, false, ◌&&◌, ◌||◌, not, List, [], ◌∷◌, ℕ, max, eqb, leb}
use Rattle.syntax.specs.Base.{pick, Name}
use Rattle.syntax.specs.Tree.{WordPart, literal, parameter, substitution, Word, no_parts, and_part, Words, no_words, and_word, Assignments, no_assignments, assign, Redirects, no_redirects, redirect, Command, simple, group, subshell, if, while, for, case, function, ElsePart, no_else, else, Arms, no_arms, arm, Pipeline, single, piped, AndOr, first, joined, CommandList, end, next}

-- $1 to $9, $0 and $#
abbrev pub positional : Name → Bool
positional [] = false
positional (c ∷ cs) = eqb c 35 || (leb 48 c && leb c 57)

-- * or ?
abbrev pub has_wildcard : List ℕ → Bool
has_wildcard [] = false
has_wildcard (c ∷ cs) = (eqb c 42 || eqb c 63) || has_wildcard cs

abbrev mutual
  pub part_stage : WordPart → ℕ
  part_stage (literal q s) = pick (not q && has_wildcard s) 4 0
  part_stage (parameter q x) = pick (positional x) 3 0
  part_stage (substitution q l) = max 2 (list_stage l)

  pub word_stage : Word → ℕ
  word_stage no_parts = 0
  word_stage (and_part p w) = max (part_stage p) (word_stage w)

  pub words_stage : Words → ℕ
  words_stage no_words = 0
  words_stage (and_word w ws) = max (word_stage w) (words_stage ws)

  pub assignments_stage : Assignments → ℕ
  assignments_stage no_assignments = 0
  assignments_stage (assign x w ss) = max (word_stage w) (assignments_stage ss)

  pub redirects_stage : Redirects → ℕ
  redirects_stage no_redirects = 0
  redirects_stage (redirect k w ts) = max (word_stage w) (redirects_stage ts)

  pub command_stage : Command → ℕ
  command_stage (simple ss ws ts) = max (assignments_stage ss) (max (words_stage ws) (redirects_stage ts))
  command_stage (group l ts) = max (list_stage l) (redirects_stage ts)
  command_stage (subshell l ts) = max 5 (max (list_stage l) (redirects_stage ts))
  command_stage (if a b e ts) = max (max (list_stage a) (list_stage b)) (max (else_stage e) (redirects_stage ts))
  command_stage (while a b ts) = max (list_stage a) (max (list_stage b) (redirects_stage ts))
  command_stage (for x ws l ts) = max 4 (max (words_stage ws) (max (list_stage l) (redirects_stage ts)))
  command_stage (case w as₁ ts) = max 4 (max (word_stage w) (max (arms_stage as₁) (redirects_stage ts)))
  command_stage (function x l) = max 3 (list_stage l)

  pub else_stage : ElsePart → ℕ
  else_stage no_else = 0
  else_stage (else l) = list_stage l

  pub arms_stage : Arms → ℕ
  arms_stage no_arms = 0
  arms_stage (arm w l as₁) = max (word_stage w) (max (list_stage l) (arms_stage as₁))

  pub pipeline_stage : Pipeline → ℕ
  pipeline_stage (single c) = command_stage c
  pipeline_stage (piped c p) = max 1 (max (command_stage c) (pipeline_stage p))

  pub and_or_stage : AndOr → ℕ
  and_or_stage (first n p) = pipeline_stage p
  and_or_stage (joined a b n p) = max (and_or_stage a) (pipeline_stage p)

  pub list_stage : CommandList → ℕ
  list_stage end = 0
  list_stage (next a b l) = max (and_or_stage a) (max (pick b 5 0) (list_stage l))

abbrev pub stage : CommandList → ℕ
stage l = list_stage l
