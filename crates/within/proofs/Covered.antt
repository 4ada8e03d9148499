-- What a covered text of the core is, form by form.
use mathlib.Core.Path.{◌≡◌, refl, ◌∙◌, ap}
use mathlib.Core.Bool.{Bool, true, false, ◌&&◌, ◌||◌, not}
use mathlib.Core.List.{List, [], ◌∷◌}
use Prim.Native.Nat.{ℕ, ◌≤◌}
use native.Mathlib.Omega.{arith}
use lib.Dec.{eqb}
use Rattle.syntax.specs.Base.{pick}
use Rattle.syntax.specs.Tree.{literal, parameter, substitution, Word, no_parts, and_part, Words, no_words, and_word, Assignments, no_assignments, assign, Redirects, no_redirects, redirect, Command, simple, group, subshell, if, while, for, case, function, ElsePart, no_else, else, Pipeline, single, piped, AndOr, first, joined, CommandList, end, next}
use Rattle.syntax.specs.Stage.{has_wildcard, else_stage, word_stage, words_stage, command_stage, pipeline_stage, and_or_stage, list_stage}
use Rattle.meaning.specs.Words.{quote_bytes, has_pattern}
use Rattle.slice.specs.Slice.{literals, all_literals, word_bytes, left_out, names_covered, covers_command, covers_else, covers_pipeline, covers_and_or, covers_list}

-- literals without * and ? outside quotes
abbrev pub PlainWord : Word → Type 0
PlainWord no_parts = Unit {0}
PlainWord (and_part (literal q s) w) = (has_pattern (quote_bytes q s) ≡ false) × PlainWord w
PlainWord (and_part (parameter q x) w) = ⊥
PlainWord (and_part (substitution q l) w) = ⊥

abbrev pub PlainWords : Words → Type 0
PlainWords no_words = Unit {0}
PlainWords (and_word w ws) = PlainWord w × PlainWords ws

-- the first word has parts, and names nothing that is left out
abbrev pub Named : Words → Type 0
Named no_words = Unit {0}
Named (and_word no_parts ws) = ⊥
Named (and_word (and_part p w) ws) = left_out (word_bytes (and_part p w)) ≡ false

abbrev pub CoveredSimple : Assignments → Words → Redirects → Type 0
CoveredSimple no_assignments ws no_redirects = PlainWords ws × Named ws
CoveredSimple no_assignments ws (redirect k w ts) = ⊥
CoveredSimple (assign x w ss) ws ts = ⊥

-- a form without redirections
abbrev pub Bare : Redirects → Type 0
Bare no_redirects = Unit {0}
Bare (redirect k w ts) = ⊥

abbrev mutual
  pub CoveredCommand : Command → Type 0
  CoveredCommand (simple ss ws ts) = CoveredSimple ss ws ts
  CoveredCommand (group l ts) = Bare ts × CoveredList l
  CoveredCommand (subshell l ts) = ⊥
  CoveredCommand (if a b e ts) = Bare ts × CoveredList a × CoveredList b × CoveredElse e
  CoveredCommand (while a b ts) = Bare ts × CoveredList a × CoveredList b
  CoveredCommand (for x ws l ts) = ⊥
  CoveredCommand (case w is ts) = ⊥
  CoveredCommand (function x l) = ⊥

  pub CoveredElse : ElsePart → Type 0
  CoveredElse no_else = Unit {0}
  CoveredElse (else l) = CoveredList l

  pub CoveredPipeline : Pipeline → Type 0
  CoveredPipeline (single c) = CoveredCommand c
  CoveredPipeline (piped c p) = ⊥

  pub CoveredAndOr : AndOr → Type 0
  CoveredAndOr (first n p) = CoveredPipeline p
  CoveredAndOr (joined a b n p) = CoveredAndOr a × CoveredPipeline p

  pub CoveredList : CommandList → Type 0
  CoveredList end = Unit {0}
  CoveredList (next a true l) = ⊥
  CoveredList (next a false l) = CoveredAndOr a × CoveredList l

pub no_true : false ≡ true → ⊥
no_true e = cc

pub both : (a b : Bool) → a && b ≡ true → (a ≡ true) × (b ≡ true)
both true b e = (refl, e)
both false b e = absurd (no_true e)

is_false : (b : Bool) → not b ≡ true → b ≡ false
is_false true e = absurd (no_true e)
is_false false e = refl

quoted_plain : (s : List ℕ) → has_pattern (quote_bytes true s) ≡ false
quoted_plain [] = refl
quoted_plain (b ∷ s) = quoted_plain s

unquoted : (s : List ℕ) → has_pattern (quote_bytes false s) ≡ has_wildcard s
unquoted [] = refl
unquoted (b ∷ s) = ap (λ r. (eqb b 42 || eqb b 63) || r) (unquoted s)

of_stage : (b : Bool) → pick b 4 0 ≤ 0 → b ≡ false
of_stage true h = absurd (omega arith)
of_stage false h = refl

literal_plain : (q : Bool) (s : List ℕ) → pick (not q && has_wildcard s) 4 0 ≤ 0 → has_pattern (quote_bytes q s) ≡ false
literal_plain true s h = quoted_plain s
literal_plain false s h = unquoted s ∙ of_stage (has_wildcard s) h

plain_word : (w : Word) → word_stage w ≤ 0 → literals w ≡ true → PlainWord w
plain_word no_parts h e = tt
plain_word (and_part (literal q s) w) h e = (literal_plain q s (omega arith), plain_word w (omega arith) e)
plain_word (and_part (parameter q x) w) h e = absurd (no_true e)
plain_word (and_part (substitution q l) w) h e = absurd (no_true e)

plain_words : (ws : Words) → words_stage ws ≤ 0 → all_literals ws ≡ true → PlainWords ws
plain_words no_words h e = tt
plain_words (and_word w ws) h e =
    let b = both (literals w) (all_literals ws) e in
    (plain_word w (omega arith) b.0, plain_words ws (omega arith) b.1)

named : (ws : Words) → names_covered ws ≡ true → Named ws
named no_words e = tt
named (and_word no_parts ws) e = absurd (no_true e)
named (and_word (and_part p w) ws) e = is_false (left_out (word_bytes (and_part p w))) e

simple_covered : (ss : Assignments) (ws : Words) (ts : Redirects) → words_stage ws ≤ 0 → covers_command (simple ss ws ts) ≡ true → CoveredSimple ss ws ts
simple_covered no_assignments ws no_redirects h e =
    let b = both (all_literals ws) (names_covered ws) e in
    (plain_words ws h b.0, named ws b.1)
simple_covered no_assignments ws (redirect k w ts) h e = absurd (no_true e)
simple_covered (assign x w ss) ws ts h e = absurd (no_true e)

mutual
  command_covered : (c : Command) → command_stage c ≤ 0 → covers_command c ≡ true → CoveredCommand c
  command_covered (simple ss ws ts) h e = simple_covered ss ws ts (omega arith) e
  command_covered (group l no_redirects) h e = (tt, list_covered l (omega arith) e)
  command_covered (group l (redirect k w ts)) h e = absurd (no_true e)
  command_covered (subshell l ts) h e = absurd (no_true e)
  command_covered (if a b c no_redirects) h e =
      let p = both (covers_list a) (covers_list b && covers_else c) e in
      let q = both (covers_list b) (covers_else c) p.1 in
      (tt, list_covered a (omega arith) p.0, list_covered b (omega arith) q.0, else_covered c (omega arith) q.1)
  command_covered (if a b c (redirect k w ts)) h e = absurd (no_true e)
  command_covered (while a b no_redirects) h e =
      let p = both (covers_list a) (covers_list b) e in
      (tt, list_covered a (omega arith) p.0, list_covered b (omega arith) p.1)
  command_covered (while a b (redirect k w ts)) h e = absurd (no_true e)
  command_covered (for x ws l ts) h e = absurd (no_true e)
  command_covered (case w is ts) h e = absurd (no_true e)
  command_covered (function x l) h e = absurd (no_true e)

  else_covered : (c : ElsePart) → else_stage c ≤ 0 → covers_else c ≡ true → CoveredElse c
  else_covered no_else h e = tt
  else_covered (else l) h e = list_covered l h e

  pipeline_covered : (p : Pipeline) → pipeline_stage p ≤ 0 → covers_pipeline p ≡ true → CoveredPipeline p
  pipeline_covered (single c) h e = command_covered c h e
  pipeline_covered (piped c p) h e = absurd (no_true e)

  and_or_covered : (a : AndOr) → and_or_stage a ≤ 0 → covers_and_or a ≡ true → CoveredAndOr a
  and_or_covered (first n p) h e = pipeline_covered p h e
  and_or_covered (joined a b n p) h e =
      let q = both (covers_and_or a) (covers_pipeline p) e in
      (and_or_covered a (omega arith) q.0, pipeline_covered p (omega arith) q.1)

  pub list_covered : (l : CommandList) → list_stage l ≤ 0 → covers_list l ≡ true → CoveredList l
  list_covered end h e = tt
  list_covered (next a true l) h e = absurd (no_true e)
  list_covered (next a false l) h e =
      let p = both (covers_and_or a) (covers_list l) e in
      (and_or_covered a (omega arith) p.0, list_covered l (omega arith) p.1)
