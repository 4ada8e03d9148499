-- The part of the core that is run: commands of literal words without assignments and redirections, lists, && and ||, !, groups,
-- if and while; of the builtins echo, seq, yes, true, false, exit, break and continue.
use Rattle.std.specs.Prelude.{ℕ, Bool, true, false, not, ◌&&◌, ◌||◌, List, [], ◌++◌}
use Rattle.syntax.specs.Base.{Name, same}
use Rattle.syntax.specs.Tree.{literal, parameter, substitution, Word, no_parts, and_part, Words, no_words, and_word, Assignments, no_assignments, assign, Redirects, no_redirects, redirect, Command, simple, group, subshell, if, while, for, case, function, ElsePart, no_else, else, Pipeline, single, piped, AndOr, first, joined, CommandList, end, next}
use Rattle.meaning.specs.Step.{name_cat, name_head, name_wc, name_grep, name_rm, name_test, name_read, name_return, name_shift, name_wait}

-- a word of literals
abbrev pub literals : Word → Bool
literals no_parts = true
literals (and_part (literal q s) w) = literals w
literals (and_part (parameter q x) w) = false
literals (and_part (substitution q l) w) = false

abbrev pub all_literals : Words → Bool
all_literals no_words = true
all_literals (and_word w ws) = literals w && all_literals ws

-- the bytes of a word of literals
abbrev pub word_bytes : Word → List ℕ
word_bytes no_parts = []
word_bytes (and_part (literal q s) w) = s ++ word_bytes w
word_bytes (and_part (parameter q x) w) = word_bytes w
word_bytes (and_part (substitution q l) w) = word_bytes w

-- builtins that are not run
abbrev pub left_out : Name → Bool
left_out x = same x name_cat || (same x name_head || (same x name_wc || (same x name_grep || (same x name_rm || (same x name_test || (same x name_read || (same x name_return || (same x name_shift || same x name_wait))))))))

-- the first word, which has parts in every text, names none of these
abbrev pub names_covered : Words → Bool
names_covered no_words = true
names_covered (and_word no_parts ws) = false
names_covered (and_word (and_part p w) ws) = not (left_out (word_bytes (and_part p w)))

abbrev pub assigns_nothing : Assignments → Bool
assigns_nothing no_assignments = true
assigns_nothing (assign x w ss) = false

abbrev pub redirects_nothing : Redirects → Bool
redirects_nothing no_redirects = true
redirects_nothing (redirect k w ts) = false

abbrev mutual
  pub covers_command : Command → Bool
  covers_command (simple ss ws ts) = (assigns_nothing ss && redirects_nothing ts) && (all_literals ws && names_covered ws)
  covers_command (group l ts) = redirects_nothing ts && covers_list l
  covers_command (subshell l ts) = false
  covers_command (if a b e ts) = redirects_nothing ts && (covers_list a && (covers_list b && covers_else e))
  covers_command (while a b ts) = redirects_nothing ts && (covers_list a && covers_list b)
  covers_command (for x ws l ts) = false
  covers_command (case w is ts) = false
  covers_command (function x l) = false

  pub covers_else : ElsePart → Bool
  covers_else no_else = true
  covers_else (else l) = covers_list l

  pub covers_pipeline : Pipeline → Bool
  covers_pipeline (single c) = covers_command c
  covers_pipeline (piped c p) = false

  pub covers_and_or : AndOr → Bool
  covers_and_or (first n p) = covers_pipeline p
  covers_and_or (joined a b n p) = covers_and_or a && covers_pipeline p

  pub covers_list : CommandList → Bool
  covers_list end = true
  covers_list (next a b l) = not b && (covers_and_or a && covers_list l)
