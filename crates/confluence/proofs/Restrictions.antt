-- What a calm text keeps to, as a property of trees: inside a pipeline no further pipeline and no $( ), redirections only
-- read, and the first word is written out and isn't rm.
use mathlib.Core.Path.{◌≡◌, refl}
use mathlib.Core.Bool.{◌&&◌, ◌||◌, Bool, false, not, true}
use mathlib.Core.List.{[], ◌++◌, ◌∷◌, List}
use mathlib.Core.Option.{none, Option, some}
use Prim.Native.Nat.{◌≤◌}
use native.Mathlib.Omega.{arith}
use Rattle.syntax.specs.Base.{Name, opt, same}
use Rattle.syntax.specs.Tree.{and_part, and_word, AndOr, arm, Arms, assign, Assignments, case, Command, CommandList, else, ElsePart, end, first, for, function, group, if, joined, literal, next, no_arms, no_assignments, no_else, no_parts, no_redirects, no_words, parameter, piped, Pipeline, redirect, RedirectKind, Redirects, simple, single, subshell, substitution, while, Word, WordPart, Words}
use Rattle.syntax.specs.Stage.{and_or_stage, arms_stage, assignments_stage, command_stage, else_stage, list_stage, part_stage, pipeline_stage, redirects_stage, word_stage, words_stage}
use Rattle.meaning.specs.System.{Expansion, QuotedByte}
use Rattle.meaning.specs.Words.{bytes_of, expand_words, has_pattern}
use Rattle.meaning.specs.Step.{name_read, name_rm}
use Rattle.meaning.specs.Calm.{calm_and_or, calm_arms, calm_assignments, calm_command, calm_else, calm_list, calm_members, calm_part, calm_pipeline, calm_redirects, calm_word, calm_words, harmless, literal_word, reads, reads_only, without_redirects}
use Rattle.confluence.proofs.Basics.{both, false_true}

-- i: inside a pipeline; j: no $( ) may stand here
abbrev pub OkRedirect : Bool → RedirectKind → Type 0
OkRedirect true k = reads k ≡ true
OkRedirect false k = Unit {0}

abbrev pub OkName : Name → Type 0
OkName x = same x name_rm ≡ false

-- the first word as far as it is expanded: complete words, the current one, its parts to come, words to come
abbrev pub Track : List (List QuotedByte) → Option (List QuotedByte) → Word → Words → Type 0
Track (f ∷ fs) o p ws = (has_pattern f ≡ false) × OkName (bytes_of f)
Track [] (some f) p ws = (x : Name) × (literal_word p ≡ some x) × (has_pattern f ≡ false) × OkName (bytes_of f ++ x)
Track [] none no_parts no_words = Unit {0}
Track [] none no_parts (and_word w ws) = ⊥
Track [] none (and_part p w) ws = (x : Name) × (literal_word (and_part p w) ≡ some x) × OkName x

abbrev pub FirstWord : Bool → Expansion → Type 0
FirstWord true x = Track x.complete x.current x.parts x.words
FirstWord false x = Unit {0}

abbrev pub OkFirst : Bool → Words → Type 0
OkFirst i ws = FirstWord i (expand_words ws true)

abbrev pub NoRedirects : Redirects → Type 0
NoRedirects no_redirects = Unit {0}
NoRedirects (redirect k w ts) = ⊥

abbrev pub Allowed : Bool → Type 0
Allowed true = ⊥
Allowed false = Unit {0}

abbrev mutual
  pub OkWord : Bool → Word → Type 0
  OkWord j no_parts = Unit {0}
  OkWord j (and_part p w) = OkPart j p × OkWord j w

  pub OkPart : Bool → WordPart → Type 0
  OkPart j (literal q b) = Unit {0}
  OkPart j (parameter q x) = Unit {0}
  OkPart j (substitution q l) = Allowed j × OkList false l

  pub OkWords : Bool → Words → Type 0
  OkWords j no_words = Unit {0}
  OkWords j (and_word w ws) = OkWord j w × OkWords j ws

  pub OkAssignments : Bool → Assignments → Type 0
  OkAssignments j no_assignments = Unit {0}
  OkAssignments j (assign x w ss) = OkWord j w × OkAssignments j ss

  pub OkRedirects : Bool → Bool → Redirects → Type 0
  OkRedirects i j no_redirects = Unit {0}
  OkRedirects i j (redirect k w ts) = OkWord j w × OkRedirect i k × OkRedirects i (j || reads k) ts

  pub OkCommand : Bool → Command → Type 0
  OkCommand i (simple ss ws ts) = OkAssignments i ss × OkWords i ws × OkRedirects i i ts × OkFirst i ws
  OkCommand i (group l ts) = OkList i l × NoRedirects ts
  OkCommand i (subshell l ts) = ⊥
  OkCommand i (if a b e ts) = OkList i a × OkList i b × OkElse i e × NoRedirects ts
  OkCommand i (while a b ts) = OkList i a × OkList i b × NoRedirects ts
  OkCommand i (for x ws l ts) = OkWords i ws × OkList i l × NoRedirects ts
  OkCommand i (case w is ts) = OkWord i w × OkArms i is × NoRedirects ts
  OkCommand i (function x l) = ⊥

  pub OkElse : Bool → ElsePart → Type 0
  OkElse i no_else = Unit {0}
  OkElse i (else l) = OkList i l

  pub OkArms : Bool → Arms → Type 0
  OkArms i no_arms = Unit {0}
  OkArms i (arm w l is) = OkWord i w × OkList i l × OkArms i is

  pub OkPipeline : Bool → Pipeline → Type 0
  OkPipeline i (single c) = OkCommand i c
  OkPipeline true (piped c p) = ⊥
  OkPipeline false (piped c p) = OkCommand true c × OkMembers p

  pub OkMembers : Pipeline → Type 0
  OkMembers (single c) = OkCommand true c
  OkMembers (piped c p) = OkCommand true c × OkMembers p

  pub OkAndOr : Bool → AndOr → Type 0
  OkAndOr i (first n p) = OkPipeline i p
  OkAndOr i (joined a b n p) = OkAndOr i a × OkPipeline i p

  pub OkList : Bool → CommandList → Type 0
  OkList i end = Unit {0}
  OkList i (next a true l) = ⊥
  OkList i (next a false l) = OkAndOr i a × OkList i l

-- calm texts up to stage 4 keep to it
pub no_redirects_of : (ts : Redirects) → without_redirects ts ≡ true → NoRedirects ts
no_redirects_of no_redirects e = tt
no_redirects_of (redirect k w ts) e = false_true e

not_or : (a b : Bool) → not (a || b) ≡ true → a ≡ false
not_or true b e = false_true e
not_or false b e = refl

pub ok_first : (i : Bool) (ws : Words) → (i ≡ true → harmless ws ≡ true) → OkFirst i ws
ok_first false ws e = tt
ok_first true no_words e = tt
ok_first true (and_word no_parts ws) e = false_true (e refl)
ok_first true (and_word (and_part p w) ws) e = by (literal_word (and_part p w)) refl (e refl)
  where
    by : (o : Option Name) → literal_word (and_part p w) ≡ o → opt o false (λ x. not (same x name_rm || same x name_read)) ≡ true → OkFirst true (and_word (and_part p w) ws)
    by none q h = false_true h
    by (some x) q h = (x, q, not_or (same x name_rm) (same x name_read) h)

pub inside_pipeline : (i b : Bool) → (not i || b) ≡ true → i ≡ true → b ≡ true
inside_pipeline true b e f = e
inside_pipeline false b e f = false_true f

mutual
  ok_word : (j : Bool) (w : Word) → word_stage w ≤ 4 → calm_word true j w ≡ true → OkWord j w
  ok_word j no_parts h e = tt
  ok_word j (and_part p w) h e = let d = both (calm_part true j p) _ e in (ok_part j p (omega arith) d.0, ok_word j w (omega arith) d.1)

  ok_part : (j : Bool) (p : WordPart) → part_stage p ≤ 4 → calm_part true j p ≡ true → OkPart j p
  ok_part j (literal q b) h e = tt
  ok_part j (parameter q x) h e = tt
  ok_part true (substitution q l) h e = false_true e
  ok_part false (substitution q l) h e = (tt, ok_list false l (omega arith) e)

  ok_words : (j : Bool) (w : Words) → words_stage w ≤ 4 → calm_words true j w ≡ true → OkWords j w
  ok_words j no_words h e = tt
  ok_words j (and_word w ws) h e = let d = both (calm_word true j w) _ e in (ok_word j w (omega arith) d.0, ok_words j ws (omega arith) d.1)

  ok_assignments : (j : Bool) (w : Assignments) → assignments_stage w ≤ 4 → calm_assignments true j w ≡ true → OkAssignments j w
  ok_assignments j no_assignments h e = tt
  ok_assignments j (assign x w ws) h e = let d = both (calm_word true j w) _ e in (ok_word j w (omega arith) d.0, ok_assignments j ws (omega arith) d.1)

  ok_redirects : (i j : Bool) (ts : Redirects) → redirects_stage ts ≤ 4 → calm_redirects true j ts ≡ true → (i ≡ true → reads_only ts ≡ true) → OkRedirects i j ts
  ok_redirects i j no_redirects h e g = tt
  ok_redirects true j (redirect k w ts) h e g = let d = both (reads k) (reads_only ts) (g refl) in let b = both (calm_word true j w) _ e in
      (ok_word j w (omega arith) b.0, d.0, ok_redirects true (j || reads k) ts (omega arith) b.1 (λ z. d.1))
  ok_redirects false j (redirect k w ts) h e g = let b = both (calm_word true j w) _ e in (
    ok_word j w (omega arith) b.0,
    tt,
    ok_redirects false (j || reads k) ts (omega arith) b.1 (λ z. false_true z),
  )

  ok_command : (i : Bool) (c : Command) → command_stage c ≤ 4 → calm_command true i c ≡ true → OkCommand i c
  ok_command i (simple ss ws ts) h e =
      let a = both (calm_assignments true i ss && calm_words true i ws) _ e in
      let z = both (calm_assignments true i ss) _ a.0 in
      let b = both (calm_redirects true i ts) _ a.1 in (
        ok_assignments i ss (omega arith) z.0,
        ok_words i ws (omega arith) z.1,
        ok_redirects i i ts (omega arith) b.0 (λ z. (both (reads_only ts) (harmless ws) (inside_pipeline i _ b.1 z)).0),
        ok_first i ws (λ z. (both (reads_only ts) (harmless ws) (inside_pipeline i _ b.1 z)).1),
      )
  ok_command i (group l ts) h e = let a = both (calm_list true i l) _ e in (ok_list i l (omega arith) a.0, no_redirects_of ts (both (calm_redirects true i ts) _ a.1).1)
  ok_command i (subshell l ts) h e = absurd (omega arith)
  ok_command i (if x y z ts) h e =
      let a = both (calm_list true i x && calm_list true i y) _ e in
      let b = both (calm_list true i x) _ a.0 in
      let d = both (calm_else true i z) _ a.1 in
      (ok_list i x (omega arith) b.0, ok_list i y (omega arith) b.1, ok_else i z (omega arith) d.0, no_redirects_of ts (both (calm_redirects true i ts) _ d.1).1)
  ok_command i (while x y ts) h e =
      let a = both (calm_list true i x) _ e in
      let d = both (calm_list true i y) _ a.1 in
      (ok_list i x (omega arith) a.0, ok_list i y (omega arith) d.0, no_redirects_of ts (both (calm_redirects true i ts) _ d.1).1)
  ok_command i (for x ws l ts) h e =
      let a = both (calm_words true i ws) _ e in
      let d = both (calm_list true i l) _ a.1 in
      (ok_words i ws (omega arith) a.0, ok_list i l (omega arith) d.0, no_redirects_of ts (both (calm_redirects true i ts) _ d.1).1)
  ok_command i (case w is ts) h e =
      let a = both (calm_word true i w) _ e in
      let d = both (calm_arms true i is) _ a.1 in
      (ok_word i w (omega arith) a.0, ok_arms i is (omega arith) d.0, no_redirects_of ts (both (calm_redirects true i ts) _ d.1).1)
  ok_command i (function x l) h e = false_true e

  ok_arms : (i : Bool) (is : Arms) → arms_stage is ≤ 4 → calm_arms true i is ≡ true → OkArms i is
  ok_arms i no_arms h e = tt
  ok_arms i (arm w l is) h e =
      let a = both (calm_word true i w) _ e in
      let d = both (calm_list true i l) _ a.1 in
      (ok_word i w (omega arith) a.0, ok_list i l (omega arith) d.0, ok_arms i is (omega arith) d.1)

  ok_else : (i : Bool) (l : ElsePart) → else_stage l ≤ 4 → calm_else true i l ≡ true → OkElse i l
  ok_else i no_else h e = tt
  ok_else i (else l) h e = ok_list i l h e

  ok_pipeline : (i : Bool) (p : Pipeline) → pipeline_stage p ≤ 4 → calm_pipeline true i p ≡ true → OkPipeline i p
  ok_pipeline i (single c) h e = ok_command i c h e
  ok_pipeline true (piped c p) h e = false_true e
  ok_pipeline false (piped c p) h e = let a = both (calm_command true true c) _ e in (ok_command true c (omega arith) a.0, ok_members p (omega arith) a.1)

  ok_members : (p : Pipeline) → pipeline_stage p ≤ 4 → calm_members true p ≡ true → OkMembers p
  ok_members (single c) h e = ok_command true c h e
  ok_members (piped c p) h e = let a = both (calm_command true true c) _ e in (ok_command true c (omega arith) a.0, ok_members p (omega arith) a.1)

  ok_and_or : (i : Bool) (a : AndOr) → and_or_stage a ≤ 4 → calm_and_or true i a ≡ true → OkAndOr i a
  ok_and_or i (first n p) h e = ok_pipeline i p h e
  ok_and_or i (joined a b n p) h e = let d = both (calm_and_or true i a) _ e in (ok_and_or i a (omega arith) d.0, ok_pipeline i p (omega arith) d.1)

  pub ok_list : (i : Bool) (l : CommandList) → list_stage l ≤ 4 → calm_list true i l ≡ true → OkList i l
  ok_list i end h e = tt
  ok_list i (next a true l) h e = false_true e
  ok_list i (next a false l) h e = let d = both (calm_and_or true i a) _ e in (ok_and_or i a (omega arith) d.0, ok_list i l (omega arith) d.1)
