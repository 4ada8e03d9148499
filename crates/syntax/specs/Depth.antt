-- How deep lists stand in commands and words; each elif counts one more.
use Rattle.std.specs.Prelude.{ℕ, suc, max}
use Rattle.syntax.specs.Tree.{WordPart, literal, parameter, substitution, Word, no_parts, and_part, Words, no_words, and_word, Assignments, no_assignments, assign, Redirects, no_redirects, redirect, Command, simple, group, subshell, if, while, for, case, function, ElsePart, no_else, else, Arms, no_arms, arm, Pipeline, single, piped, AndOr, first, joined, CommandList, end, next}

abbrev mutual
  pub part_depth : WordPart → ℕ
  part_depth (literal q s) = 0
  part_depth (parameter q x) = 0
  part_depth (substitution q l) = suc (list_depth l)

  pub word_depth : Word → ℕ
  word_depth no_parts = 0
  word_depth (and_part p w) = max (part_depth p) (word_depth w)

  pub words_depth : Words → ℕ
  words_depth no_words = 0
  words_depth (and_word w ws) = max (word_depth w) (words_depth ws)

  pub assignments_depth : Assignments → ℕ
  assignments_depth no_assignments = 0
  assignments_depth (assign x w ss) = max (word_depth w) (assignments_depth ss)

  pub redirects_depth : Redirects → ℕ
  redirects_depth no_redirects = 0
  redirects_depth (redirect k w ts) = max (word_depth w) (redirects_depth ts)

  pub command_depth : Command → ℕ
  command_depth (simple ss ws ts) = max (assignments_depth ss) (max (words_depth ws) (redirects_depth ts))
  command_depth (group l ts) = max (suc (list_depth l)) (redirects_depth ts)
  command_depth (subshell l ts) = max (suc (list_depth l)) (redirects_depth ts)
  command_depth (if a b e ts) = max (suc (max (list_depth a) (max (list_depth b) (else_depth e)))) (redirects_depth ts)
  command_depth (while a b ts) = max (suc (max (list_depth a) (list_depth b))) (redirects_depth ts)
  command_depth (for x ws l ts) = max (suc (list_depth l)) (max (words_depth ws) (redirects_depth ts))
  command_depth (case w as₁ ts) = max (word_depth w) (max (arms_depth as₁) (redirects_depth ts))
  command_depth (function x l) = suc (list_depth l)

  pub else_depth : ElsePart → ℕ
  else_depth no_else = 0
  else_depth (else l) = list_depth l

  pub arms_depth : Arms → ℕ
  arms_depth no_arms = 0
  arms_depth (arm w l as₁) = max (word_depth w) (max (suc (list_depth l)) (arms_depth as₁))

  pub pipeline_depth : Pipeline → ℕ
  pipeline_depth (single c) = command_depth c
  pipeline_depth (piped c p) = max (command_depth c) (pipeline_depth p)

  pub and_or_depth : AndOr → ℕ
  and_or_depth (first n p) = pipeline_depth p
  and_or_depth (joined a b n p) = max (and_or_depth a) (pipeline_depth p)

  pub list_depth : CommandList → ℕ
  list_depth end = 0
  list_depth (next a b l) = max (and_or_depth a) (list_depth l)
