-- A process of a calm text keeps to the restrictions with every step: no step spawns a process except at a pipeline or a
-- $( ), its own handles come back after each simple command, and inside a pipeline no file changes.
use mathlib.Core.Path.{◌∙◌, ◌≡◌, ap, refl, subst, sym}
use mathlib.Core.Logic.{◌⊎◌, inl, inr}
use mathlib.Core.Bool.{◌&&◌, ◌||◌, Bool, false, not, true}
use mathlib.Core.List.{[], ◌++◌, ◌∷◌, List}
use mathlib.Core.Option.{none, Option, some}
use Prim.Native.Nat.{suc, zero, ℕ}
use lib.ListN.{length}
use lib.Dec.{eqb, ltb}
use Rattle.syntax.specs.Base.{Name, nth, on_some, opt, pick, put}
use Rattle.syntax.specs.Tree.{and_part, and_word, AndOr, append, arm, Arms, assign, Assignments, case, Command, CommandList, else, ElsePart, end, first, for, function, group, here, if, input, joined, literal, next, no_arms, no_assignments, no_else, no_parts, no_redirects, no_words, output, parameter, piped, Pipeline, redirect, RedirectKind, Redirects, simple, single, subshell, substitution, while, Word, Words}
use Rattle.syntax.specs.Stage.{has_wildcard}
use Rattle.meaning.specs.System.{AfterRedirects, at_and_or, at_builtin, at_capture, at_command, at_end, at_list, at_pipeline, at_redirects, at_status, at_unwind, at_wait, at_words, b_cat, b_done, b_grep, b_head, b_print, b_read, b_seq, b_wc, b_yes, break, Builtin, continue, Control, exit, exit_status, Expansion, f_and_or, f_arguments, f_body, f_condition, f_for, f_handles, f_if, f_list, f_not, File, file_append, file_read, find_file, Frame, function_body, got, Handle, held, here_text, host_input, host_paper, must_wait, no_reader, pipe_full, pipe_read, pipe_write, Process, Purpose, QuotedByte, read_byte, read_handle, read_input, read_pipe, read_text, ReadByte, reads_pipe, return, System, then_command, then_invoke, to_assign, to_invoke, to_loop, to_match, to_redirect, to_select, Unwind, with_handles, with_pipes, write_byte, write_handle, write_pipe, WriteByte, writes_pipe, wrote}
use Rattle.meaning.specs.Words.{all_pathnames, bytes_of, close_word, has_pattern, insert_value, is_blank, matching_names, or_literal, parameter_value, quote_bytes, so_far, split_blanks, SplitWord, with_parts}
use Rattle.meaning.specs.Step.{apply_redirect, cat_next, continues, exits, expanded, goes_to, grep_last, invoke, next_word, print_byte, read_or, run_builtin, start_cat, start_seq, step, step_and_or, step_arms, step_assignments, step_builtin, step_command, step_control, step_else, step_expansion, step_for, step_list, step_pipeline, step_redirects, step_status, step_unwind, step_wait, StepResult, with_arguments, with_status, with_variables}
use Rattle.meaning.specs.Calm.{literal_word, reads}
use Rattle.meaning.proofs.Own.{inside}
use Rattle.meaning.proofs.Core.{no_some}
use Rattle.confluence.proofs.Basics.{app_assoc, app_nil, false_true}
use Rattle.confluence.proofs.Renaming.{NoSubstitution}
use Rattle.confluence.proofs.Restrictions.{Allowed, FirstWord, OkAndOr, OkArms, OkAssignments, OkCommand, OkElse, OkFirst, OkList, OkName, OkPipeline, OkRedirect, OkRedirects, OkWord, OkWords, Track}

-- no frame saves handles, except the innermost while a simple command is at work
-- b0 and b1 are the handles that the process began with; i: inside a pipeline
module _ (b0 b1 : ℕ) where
  abbrev pub OkFrames : Bool → List Frame → Type 0
  OkFrames i [] = Unit {0}
  OkFrames i (f_list l ∷ k) = OkList i l × OkFrames i k
  OkFrames i (f_and_or b n p ∷ k) = OkPipeline i p × OkFrames i k
  OkFrames i (f_not ∷ k) = OkFrames i k
  OkFrames i (f_if a b ∷ k) = OkList i a × OkElse i b × OkFrames i k
  OkFrames i (f_condition a b ∷ k) = OkList i a × OkList i b × OkFrames i k
  OkFrames i (f_body a b ∷ k) = OkList i a × OkList i b × OkFrames i k
  OkFrames i (f_for x as₁ l ∷ k) = OkList i l × OkFrames i k
  OkFrames i (f_handles a o ∷ k) = ⊥
  OkFrames i (f_arguments as₁ ∷ k) = ⊥

  abbrev pub Between : Bool → List Frame → ℕ → ℕ → Type 0
  Between i k a b = OkFrames i k × (a ≡ b0) × (b ≡ b1)

  abbrev pub StdoutAt : Bool → ℕ → Type 0
  StdoutAt true b = b ≡ b1
  StdoutAt false b = Unit {0}

  abbrev pub Within : Bool → List Frame → ℕ → Type 0
  Within i [] b = ⊥
  Within i (f_list l ∷ k) b = ⊥
  Within i (f_and_or c n p ∷ k) b = ⊥
  Within i (f_not ∷ k) b = ⊥
  Within i (f_if a c ∷ k) b = ⊥
  Within i (f_condition a c ∷ k) b = ⊥
  Within i (f_body a c ∷ k) b = ⊥
  Within i (f_for x as₁ l ∷ k) b = ⊥
  Within i (f_handles x y ∷ k) b = (x ≡ b0) × (y ≡ b1) × OkFrames i k × StdoutAt i b
  Within i (f_arguments as₁ ∷ k) b = ⊥

  abbrev pub OkArguments : Bool → List (List ℕ) → Type 0
  OkArguments true [] = Unit {0}
  OkArguments true (x ∷ as₁) = OkName x
  OkArguments false as₁ = Unit {0}

  abbrev pub OkAfter : Bool → AfterRedirects → Type 0
  OkAfter i (then_invoke as₁) = OkArguments i as₁
  OkAfter i (then_command c) = ⊥

  -- a $( ) only where the process reads from the handle that it began with
  abbrev pub SeesStart : Bool → Bool → ℕ → Type 0
  SeesStart true i a = Unit {0}
  SeesStart false true a = ⊥
  SeesStart false false a = a ≡ b0

  sees_start : (i : Bool) (a : ℕ) → a ≡ b0 → SeesStart i i a
  sees_start true a e = tt
  sees_start false a e = e

  abbrev pub AtPurpose : Bool → Bool → Expansion → Purpose → List Frame → ℕ → ℕ → Type 0
  AtPurpose i j x (to_assign n ss ws ts) k a b = OkAssignments i ss × OkWords i ws × OkRedirects i i ts × OkFirst i ws × Between i k a b
  AtPurpose i j x (to_invoke ts) k a b = OkRedirects i i ts × FirstWord i x × Between i k a b
  AtPurpose i j x (to_redirect n ts t) k a b = OkRedirect i n × OkRedirects i (j || reads n) ts × OkAfter i t × Within i k b
  AtPurpose i j x (to_loop n l) k a b = OkList i l × Between i k a b
  AtPurpose i j x (to_select is) k a b = OkArms i is × Between i k a b
  AtPurpose i j x (to_match n l is) k a b = OkList i l × OkArms i is × Between i k a b

  abbrev pub WordAt : Bool → Expansion → Purpose → List Frame → ℕ → ℕ → Type 0
  WordAt i x y k a b = (j : Bool) × SeesStart j i a × OkWords j x.words × OkWord j x.parts × AtPurpose i j x y k a b

  abbrev pub At : Bool → Control → List Frame → ℕ → ℕ → Type 0
  At i (at_list l) k a b = OkList i l × Between i k a b
  At i (at_and_or x) k a b = OkAndOr i x × Between i k a b
  At i (at_pipeline n p) k a b = OkPipeline i p × Between i k a b
  At i (at_command c) k a b = OkCommand i c × Between i k a b
  At i (at_words x y) k a b = WordAt i x y k a b
  At i (at_redirects ts t) k a b = (j : Bool) × SeesStart j i a × OkRedirects i j ts × OkAfter i t × Within i k b
  At i (at_builtin u) k a b = Within i k b
  At i (at_status n) k a b = Between i k a b ⊎ Within i k b
  At i (at_unwind t n) k a b = Between i k a b ⊎ Within i k b
  At i (at_wait []) k a b = Between i k a b ⊎ Within i k b
  At i (at_wait (p ∷ ps)) k a b = ⊥
  At i (at_capture d bs q x y) k a b = ⊥

  pub record Disciplined (i : Bool) (w : Process) : Type 0 where
    pub place : At i w.control w.frames w.stdin w.stdout
    pub functions : w.functions ≡ []
    pub jobs : w.jobs ≡ []

  abbrev pub SameFiles : Bool → System → System → Type 0
  SameFiles true s t = t.files ≡ s.files
  SameFiles false s t = Unit {0}

  same_files_if : (i : Bool) (s t : System) → t.files ≡ s.files → SameFiles i s t
  same_files_if true s t e = e
  same_files_if false s t e = tt

  abbrev pub Stays : Bool → System → StepResult → Type 0
  Stays i s (continues v t) = Disciplined i v × SameFiles i s t
  Stays i s (exits n t) = t.files ≡ s.files

  abbrev pub Stays? : Bool → System → Option StepResult → Type 0
  Stays? i s none = Unit {0}
  Stays? i s (some o) = Stays i s o

  on_stays : (i : Bool) (s t : System) (w : Process) (c : Control) (k : List Frame) → At i c k w.stdin w.stdout → w.functions ≡ []
      → w.jobs ≡ [] → SameFiles i s t → Stays i s (goes_to t w c k)
  on_stays i s t w c k h f e g = (record { place = h; functions = f; jobs = e }, g)

  pick_stays : (i : Bool) (s : System) (b : Bool) (x y : StepResult) → Stays i s x → Stays i s y → Stays i s (pick b x y)
  pick_stays i s true x y h k = h
  pick_stays i s false x y h k = k

  pick_not : (i : Bool) (s : System) (b : Bool) (x y : StepResult) → b ≡ false → Stays i s y → Stays i s (pick b x y)
  pick_not i s b x y e h = rw e h

  opt_stays : {A : Type 0} (i : Bool) (s : System) (o : Option A) (x : StepResult) (f : A → StepResult) → Stays i s x → ((a : A) → Stays i s (f a)) → Stays i s (opt o x f)
  opt_stays i s none x f h k = h
  opt_stays i s (some a) x f h k = k a

  pick_stays? : (i : Bool) (s : System) (b : Bool) (x y : Option StepResult) → Stays? i s x → Stays? i s y → Stays? i s (pick b x y)
  pick_stays? i s true x y h k = h
  pick_stays? i s false x y h k = k

  opt_stays? : {A : Type 0} (i : Bool) (s : System) (o : Option A) (x : Option StepResult) (f : A → Option StepResult) → Stays? i s x
      → ((a : A) → Stays? i s (f a)) → Stays? i s (opt o x f)
  opt_stays? i s none x f h k = h
  opt_stays? i s (some a) x f h k = k a

  ruleset walk = (pick_stays, opt_stays, pick_stays?, opt_stays?, on_stays, same_files_if, inl, inr)

  cat_stays : (i : Bool) (s : System) (w : Process) (as₁ : List (List ℕ)) → Within i w.frames w.stdout → w.functions ≡ [] → w.jobs ≡ [] → Stays i s (start_cat s w as₁)
  cat_stays i s w [] k f e = search walk
  cat_stays i s w (a ∷ as₁) k f e = search walk

  seq_stays : (i : Bool) (s : System) (w : Process) (as₁ : List (List ℕ)) → Within i w.frames w.stdout → w.functions ≡ [] → w.jobs ≡ [] → Stays i s (start_seq s w as₁)
  seq_stays i s w [] k f e = search walk
  seq_stays i s w (a ∷ []) k f e = search walk
  seq_stays i s w (a ∷ b ∷ []) k f e = search walk
  seq_stays i s w (a ∷ b ∷ c ∷ as₁) k f e = search walk

  wait_none : (i : Bool) (ps : List ℕ) (k : List Frame) (a b : ℕ) → ps ≡ [] → Within i k b → At i (at_wait ps) k a b
  wait_none i ps k a b e h = rw e (inr h)

  run_builtin_stays : (i : Bool) (s : System) (w : Process) (x : Name) (as₁ : List (List ℕ)) → OkArguments i (x ∷ as₁)
      → Within i w.frames w.stdout → w.functions ≡ [] → w.jobs ≡ [] → Stays i s (run_builtin s w x as₁)
  run_builtin_stays true s w x as₁ n k f e = search (walk, pick_not, cat_stays, seq_stays, wait_none) depth 30 fits 3000
  run_builtin_stays false s w x as₁ n k f e = search (walk, cat_stays, seq_stays, wait_none) depth 30 fits 3000

  invoke_stays : (i : Bool) (s : System) (w : Process) (as₁ : List (List ℕ)) → OkArguments i as₁ → Within i w.frames w.stdout
      → w.functions ≡ [] → w.jobs ≡ [] → Stays i s (invoke s w as₁)
  invoke_stays i s w [] n k f e = search walk
  invoke_stays i s w (a ∷ as₁) n k f e = subst (λ fs. Stays i s (opt (function_body fs a) (run_builtin s w a as₁)
      (λ l. goes_to s (with_arguments w as₁) (at_list l) (f_arguments w.arguments ∷ w.frames)))) (sym f) (run_builtin_stays i s w a as₁ n k f e)

  -- reading changes no file, and writing to what is no file
  abbrev ReadFiles : System → ReadByte → Type 0
  ReadFiles s (got b t) = t.files ≡ s.files
  ReadFiles s at_end = Unit {0}
  ReadFiles s must_wait = Unit {0}

  read_files : (s : System) (d : ℕ) → ReadFiles s (read_byte s d)
  read_files s d = by (nth s.handles d)
    where
      text : (bs : List ℕ) → ReadFiles s (read_text s d bs)
      text [] = tt
      text (b ∷ bs) = refl

      input1 : (bs : List ℕ) → ReadFiles s (read_input s bs)
      input1 [] = tt
      input1 (b ∷ bs) = refl

      from : (p : ℕ) (bs : List ℕ) → ReadFiles s (read_pipe s p bs)
      from p [] = held_by (held s.handles (writes_pipe p) s.processes)
        where
          held_by : (b : Bool) → ReadFiles s (pick b must_wait at_end)
          held_by true = tt
          held_by false = tt
      from p (b ∷ bs) = refl

      in_file : (x : Name) (n : ℕ) (o : Option ℕ) → ReadFiles s (opt o at_end (λ b. got b (with_handles s (put s.handles d (file_read x (suc n))))))
      in_file x n none = tt
      in_file x n (some b) = refl

      in_pipe : (p : ℕ) (o : Option (List ℕ)) → ReadFiles s (opt o at_end (read_pipe s p))
      in_pipe p none = tt
      in_pipe p (some bs) = from p bs

      by_open : (o : Handle) → ReadFiles s (read_handle s d o)
      by_open (file_read x n) = in_file x n (on_some (find_file s.files x) (λ bs. nth bs n))
      by_open (file_append x) = tt
      by_open (pipe_read p) = in_pipe p (nth s.pipes p)
      by_open (pipe_write p) = tt
      by_open host_input = input1 s.input
      by_open host_paper = tt
      by_open (here_text bs) = text bs

      by : (o : Option Handle) → ReadFiles s (opt o at_end (read_handle s d))
      by none = tt
      by (some o) = by_open o

  abbrev pub Stream : Option Handle → Type 0
  Stream none = ⊥
  Stream (some (file_read x n)) = ⊥
  Stream (some (file_append x)) = ⊥
  Stream (some (pipe_read p)) = ⊥
  Stream (some (pipe_write p)) = Unit {0}
  Stream (some host_input) = ⊥
  Stream (some host_paper) = Unit {0}
  Stream (some (here_text bs)) = ⊥

  -- inside a pipeline the output is a pipe or the paper
  abbrev pub StdoutStream : Bool → System → Type 0
  StdoutStream true s = Stream (nth s.handles b1)
  StdoutStream false s = Unit {0}

  abbrev WriteFiles : Bool → System → WriteByte → Type 0
  WriteFiles i s (wrote t) = SameFiles i s t
  WriteFiles i s pipe_full = Unit {0}
  WriteFiles i s no_reader = Unit {0}

  write_files : (i : Bool) (s : System) (d b : ℕ) → StdoutAt i d → StdoutStream i s → WriteFiles i s (write_byte s d b)
  write_files false s d b e h = any (write_byte s d b)
    where
      any : (g : WriteByte) → WriteFiles false s g
      any (wrote t) = tt
      any pipe_full = tt
      any no_reader = tt
  write_files true s d b e h = by (nth s.handles d) (subst (λ z. Stream (nth s.handles z)) (sym e) h)
    where
      pipe1 : (p : ℕ) (bs : List ℕ) → WriteFiles true s (write_pipe s p b bs)
      pipe1 p bs = held_by (held s.handles (reads_pipe p) s.processes) (ltb (length bs) 512)
        where
          held_by : (x y : Bool) → WriteFiles true s (pick x (pick y (wrote (with_pipes s (put s.pipes p (bs ++ (b ∷ []))))) pipe_full) no_reader)
          held_by true true = refl
          held_by true false = tt
          held_by false y = tt

      in_pipe : (p : ℕ) (o : Option (List ℕ)) → WriteFiles true s (opt o no_reader (write_pipe s p b))
      in_pipe p none = tt
      in_pipe p (some bs) = pipe1 p bs

      by : (o : Option Handle) → Stream o → WriteFiles true s (opt o no_reader (write_handle s b))
      by none g = absurd g
      by (some (file_read x n)) g = absurd g
      by (some (file_append x)) g = absurd g
      by (some (pipe_read p)) g = absurd g
      by (some (pipe_write p)) g = in_pipe p (nth s.pipes p)
      by (some host_input) g = absurd g
      by (some host_paper) g = refl
      by (some (here_text bs)) g = absurd g

  read_stays : (i : Bool) (s : System) (d : ℕ) (f : System → ℕ → Option StepResult) (z : Option StepResult)
      → ((t : System) (b : ℕ) → t.files ≡ s.files → Stays? i s (f t b)) → Stays? i s z → Stays? i s (read_or s d f z)
  read_stays i s d f z k h = by (read_byte s d) (read_files s d) refl
    where
      by : (g : ReadByte) → ReadFiles s g → read_byte s d ≡ g → Stays? i s (read_or s d f z)
      by (got b t) a e = rw e (k t b a)
      by at_end a e = rw e h
      by must_wait a e = rw e tt

  stdout_of : (i : Bool) (k : List Frame) (b : ℕ) → Within i k b → StdoutAt i b
  stdout_of i [] b h = absurd h
  stdout_of i (f_list l ∷ k) b h = absurd h
  stdout_of i (f_and_or c n p ∷ k) b h = absurd h
  stdout_of i (f_not ∷ k) b h = absurd h
  stdout_of i (f_if a c ∷ k) b h = absurd h
  stdout_of i (f_condition a c ∷ k) b h = absurd h
  stdout_of i (f_body a c ∷ k) b h = absurd h
  stdout_of i (f_for x as₁ l ∷ k) b h = absurd h
  stdout_of i (f_handles x y ∷ k) b h = h.3
  stdout_of i (f_arguments as₁ ∷ k) b h = absurd h

  print_stays : (i : Bool) (s : System) (w : Process) (bs : List ℕ) (u : Builtin) → StdoutStream i s → Within i w.frames w.stdout
      → w.functions ≡ [] → w.jobs ≡ [] → Stays? i s (print_byte s w bs u)
  print_stays i s w [] u h k f e = search walk
  print_stays i s w (b ∷ bs) u h k f e = by (write_byte s w.stdout b) (write_files i s w.stdout b (stdout_of i w.frames w.stdout k) h) refl
    where
      by : (g : WriteByte) → WriteFiles i s g → write_byte s w.stdout b ≡ g → Stays? i s (print_byte s w (b ∷ bs) u)
      by (wrote t) a p = rw p (search walk)
      by pipe_full a p = rw p tt
      by no_reader a p = rw p (search walk)

  cat_next_stays : (i : Bool) (s : System) (w : Process) (xs : List Name) → Within i w.frames w.stdout → w.functions ≡ [] → w.jobs ≡ [] → Stays? i s (cat_next s w xs)
  cat_next_stays i s w [] k f e = search walk
  cat_next_stays i s w (x ∷ xs) k f e = search walk

  grep_last_stays : (i : Bool) (s : System) (w : Process) (p l : List ℕ) (b : Bool) → Within i w.frames w.stdout → w.functions ≡ []
      → w.jobs ≡ [] → Stays? i s (grep_last s w p l b)
  grep_last_stays i s w p [] b k f e = search walk
  grep_last_stays i s w p (c ∷ cs) b k f e = search walk

  builtin_stays : (i : Bool) (s : System) (w : Process) (u : Builtin) → StdoutStream i s → Within i w.frames w.stdout → w.functions ≡ []
      → w.jobs ≡ [] → Stays? i s (step_builtin s w u)
  builtin_stays i s w (b_done n) h k f e = search walk
  builtin_stays i s w (b_print bs u) h k f e = print_stays i s w bs u h k f e
  builtin_stays i s w (b_cat xs none) h k f e = cat_next_stays i s w xs k f e
  builtin_stays i s w (b_cat xs (some d)) h k f e = read_stays i s d _ _ (search walk) (search walk)
  builtin_stays i s w (b_head zero) h k f e = search walk
  builtin_stays i s w (b_head (suc n)) h k f e = read_stays i s _ _ _ (search walk) (search walk)
  builtin_stays i s w (b_wc l n) h k f e = read_stays i s _ _ _ (search walk) (search walk)
  builtin_stays i s w (b_grep p l b) h k f e = read_stays i s _ _ _ (search walk) (grep_last_stays i s w p l b k f e)
  builtin_stays i s w (b_seq a b) h k f e = search walk
  builtin_stays i s w (b_yes l) h k f e = search walk
  builtin_stays i s w (b_read x l) h k f e = read_stays i s _ _ _ (search walk) (search walk)

  -- the first word while it is expanded
  bytes_quote : (q : Bool) (bs : List ℕ) → bytes_of (quote_bytes q bs) ≡ bs
  bytes_quote q [] = refl
  bytes_quote q (b ∷ bs) = ap (λ z. b ∷ z) (bytes_quote q bs)

  bytes_append : (a b : List QuotedByte) → bytes_of (a ++ b) ≡ bytes_of a ++ bytes_of b
  bytes_append [] b = refl
  bytes_append (c ∷ a) b = ap (λ z. c.byte ∷ z) (bytes_append a b)

  pattern_quote : (q : Bool) (bs : List ℕ) → (not q && has_wildcard bs) ≡ false → has_pattern (quote_bytes q bs) ≡ false
  pattern_quote true [] e = refl
  pattern_quote true (b ∷ bs) e = pattern_quote true bs refl
  pattern_quote false [] e = refl
  pattern_quote false (b ∷ bs) e = by (eqb b 42 || eqb b 63) (pattern_quote false bs) e
    where
      by : (z : Bool) → (has_wildcard bs ≡ false → has_pattern (quote_bytes false bs) ≡ false) → (z || has_wildcard bs) ≡ false → (z || has_pattern (quote_bytes false bs)) ≡ false
      by true g h = h
      by false g h = g h

  pattern_append : (a b : List QuotedByte) → has_pattern a ≡ false → has_pattern b ≡ false → has_pattern (a ++ b) ≡ false
  pattern_append [] b e f = f
  pattern_append (c ∷ a) b e f = by (not c.quoted && (eqb c.byte 42 || eqb c.byte 63)) (λ h. pattern_append a b h f) e
    where
      by : (z : Bool) → (has_pattern a ≡ false → has_pattern (a ++ b) ≡ false) → (z || has_pattern a) ≡ false → (z || has_pattern (a ++ b)) ≡ false
      by true g h = h
      by false g h = g h

  picked : {A : Type 0} (b : Bool) (o : Option A) (x : A) → pick b none o ≡ some x → (b ≡ false) × (o ≡ some x)
  picked true o x e = absurd (no_some e)
  picked false o x e = (refl, e)

  literal_rest : (o : Option Name) (bs x : Name) → on_some o (λ c. some (bs ++ c)) ≡ some x → (y : Name) × (o ≡ some y) × (bs ++ y ≡ x)
  literal_rest none bs x e = absurd (no_some e)
  literal_rest (some y) bs x e = (y, refl, inside e)

  track_literal : (ds : List (List QuotedByte)) (o : Option (List QuotedByte)) (q : Bool) (bs : List ℕ) (r : Word) (ws : Words)
      → Track ds o (and_part (literal q bs) r) ws → Track ds (some (so_far o ++ quote_bytes q bs)) r ws
  track_literal (f ∷ fs) o q bs r ws h = h
  track_literal [] none q bs r ws h =
      let p = picked (not q && has_wildcard bs) _ h.0 h.1 in
      let d = literal_rest (literal_word r) bs h.0 p.1 in
      (d.0, d.1, pattern_quote q bs p.0, subst OkName (sym d.2 ∙ ap (λ z. z ++ d.0) (sym (bytes_quote q bs))) h.2)
  track_literal [] (some f) q bs r ws h =
      let p = picked (not q && has_wildcard bs) _ h.0 h.1 in
      let d = literal_rest (literal_word r) bs h.0 p.1 in
      let e : bytes_of f ++ bs ≡ bytes_of (f ++ quote_bytes q bs) = ap (λ z. bytes_of f ++ z) (sym (bytes_quote q bs)) ∙ sym (bytes_append f (quote_bytes q bs)) in (
        d.0,
        d.1,
        pattern_append f (quote_bytes q bs) h.2 (pattern_quote q bs p.0),
        subst OkName (ap (λ z. bytes_of f ++ z) (sym d.2) ∙ sym (app_assoc (bytes_of f) bs d.0) ∙ ap (λ z. z ++ d.0) e) h.3,
      )

  track_split : (v : List ℕ) (o : Option (List QuotedByte)) (f : List QuotedByte) (fs : List (List QuotedByte)) (p : Word) (ws : Words)
      → (has_pattern f ≡ false) × OkName (bytes_of f) → Track (split_blanks v o (f ∷ fs)).complete (split_blanks v o (f ∷ fs)).current p ws
  track_split [] o f fs p ws h = h
  track_split (b ∷ bs) none f fs p ws h = pick_split (is_blank b) _ _ (track_split bs none f fs p ws h) (track_split bs _ f fs p ws h)
    where
      pick_split : (z : Bool) (x y : SplitWord) → Track x.complete x.current p ws → Track y.complete y.current p ws
          → Track (pick z x y).complete (pick z x y).current p ws
      pick_split true x y h k = h
      pick_split false x y h k = k
  track_split (b ∷ bs) (some g) f fs p ws h = pick_split (is_blank b) _ _ (track_split bs none f (fs ++ (g ∷ [])) p ws h) (track_split bs _ f fs p ws h)
    where
      pick_split : (z : Bool) (x y : SplitWord) → Track x.complete x.current p ws → Track y.complete y.current p ws
          → Track (pick z x y).complete (pick z x y).current p ws
      pick_split true x y h k = h
      pick_split false x y h k = k

  track_parameter : (sp q : Bool) (v : List ℕ) (n : Name) (r : Word) (ws : Words) (ds : List (List QuotedByte)) (o : Option (List QuotedByte))
      → Track ds o (and_part (parameter q n) r) ws → FirstWord true (insert_value (record {
        words = ws;
        parts = r;
        current = o;
        complete = ds;
        split = sp;
      }) q v)
  track_parameter sp q v n r ws [] none h = absurd (no_some h.1)
  track_parameter sp q v n r ws [] (some f) h = absurd (no_some h.1)
  track_parameter sp q v n r ws (f ∷ fs) o h = by (sp && not q) _ _ (track_split v o f fs r ws h) h
    where
      by : (z : Bool) (x y : Expansion) → FirstWord true x → FirstWord true y → FirstWord true (pick z x y)
      by true x y h k = h
      by false x y h k = k

  track_next : (ds : List (List QuotedByte)) (o : Option (List QuotedByte)) (v : Word) (vs : Words) → Track ds o no_parts (and_word v vs) → Track (close_word o ds) none v vs
  track_next [] none v vs h = absurd h
  track_next [] (some f) v vs h = (h.2, subst OkName (ap (λ z. bytes_of f ++ z) (sym (inside h.1)) ∙ app_nil (bytes_of f)) h.3)
  track_next (f ∷ fs) none v vs h = h
  track_next (f ∷ fs) (some g) v vs h = h

  arguments_of : (fs : List File) (f : List QuotedByte) (ds : List (List QuotedByte)) → has_pattern f ≡ false → OkName (bytes_of f) → OkArguments true (all_pathnames fs (f ∷ ds))
  arguments_of fs f ds e h = subst (λ z. OkArguments true (pick z (or_literal f (matching_names f fs)) (bytes_of f ∷ []) ++ all_pathnames fs ds)) (sym e) h

  track_arguments : (fs : List File) (ds : List (List QuotedByte)) (o : Option (List QuotedByte)) → Track ds o no_parts no_words
      → OkArguments true (all_pathnames fs (close_word o ds))
  track_arguments fs [] none h = tt
  track_arguments fs [] (some f) h = arguments_of fs f [] h.2 (subst OkName (ap (λ z. bytes_of f ++ z) (sym (inside h.1)) ∙ app_nil (bytes_of f)) h.3)
  track_arguments fs (f ∷ ds) none h = arguments_of fs f ds h.0 h.1
  track_arguments fs (f ∷ ds) (some g) h = arguments_of fs f (ds ++ (g ∷ [])) h.0 h.1

  -- words that are expanded
  assignments_stays : (i : Bool) (s : System) (v : Process) (ss : Assignments) (ws : Words) (ts : Redirects) → OkAssignments i ss → OkWords i ws
      → OkRedirects i i ts → OkFirst i ws → Between i v.frames v.stdin v.stdout → v.functions ≡ [] → v.jobs ≡ []
      → Stays i s (step_assignments s v ss ws ts)
  assignments_stays i s v no_assignments no_words ts a b c d k f e = (
    record {
      place = (i, sees_start i v.stdin k.1, tt, tt, (c, d, k));
      functions = f;
      jobs = e;
    },
    same_files_if i s s refl,
  )
  assignments_stays i s v no_assignments (and_word x ws) ts a b c d k f e = (
    record {
      place = (
        i,
        sees_start i v.stdin k.1,
        b.1,
        b.0,
        (c, d, k),
      );
      functions = f;
      jobs = e;
    },
    same_files_if i s s refl,
  )
  assignments_stays i s v (assign x y ss) ws ts a b c d k f e = (
    record {
      place = (i, sees_start i v.stdin k.1, tt, a.0, (a.1, b, c, d, k));
      functions = f;
      jobs = e;
    },
    same_files_if i s s refl,
  )

  within_any : (k : List Frame) (b b' : ℕ) → Within false k b → Within false k b'
  within_any [] b b' h = absurd h
  within_any (f_list l ∷ k) b b' h = absurd h
  within_any (f_and_or c n p ∷ k) b b' h = absurd h
  within_any (f_not ∷ k) b b' h = absurd h
  within_any (f_if a c ∷ k) b b' h = absurd h
  within_any (f_condition a c ∷ k) b b' h = absurd h
  within_any (f_body a c ∷ k) b b' h = absurd h
  within_any (f_for x as₁ l ∷ k) b b' h = absurd h
  within_any (f_handles x y ∷ k) b b' h = h
  within_any (f_arguments as₁ ∷ k) b b' h = absurd h

  -- behind a redirection that reads there is no $( )
  apply_strict : (i : Bool) (s : System) (w : Process) (m : RedirectKind) (x : List ℕ) (ts : Redirects) (t : AfterRedirects) → OkRedirect i m
      → OkRedirects i true ts → OkAfter i t → Within i w.frames w.stdout → w.functions ≡ [] → w.jobs ≡ []
      → Stays i s (apply_redirect s w m x ts t)
  apply_strict true s w input x ts t o a b k f e = opt_stays true s (find_file s.files x) _ _ (
    record { place = inr k; functions = f; jobs = e },
    refl,
  ) (λ z. (record { place = (true, tt, a, b, k); functions = f; jobs = e }, refl))
  apply_strict true s w output x ts t o a b k f e = false_true o
  apply_strict true s w append x ts t o a b k f e = false_true o
  apply_strict true s w here x ts t o a b k f e = (record { place = (true, tt, a, b, k); functions = f; jobs = e }, refl)
  apply_strict false s w input x ts t o a b k f e = opt_stays false s (find_file s.files x) _ _ (
    record { place = inr k; functions = f; jobs = e },
    tt,
  ) (λ z. (record { place = (true, tt, a, b, k); functions = f; jobs = e }, tt))
  apply_strict false s w output x ts t o a b k f e = (record { place = (true, tt, a, b, within_any w.frames w.stdout (length s.handles) k); functions = f; jobs = e }, tt)
  apply_strict false s w append x ts t o a b k f e = (record { place = (true, tt, a, b, within_any w.frames w.stdout (length s.handles) k); functions = f; jobs = e }, tt)
  apply_strict false s w here x ts t o a b k f e = (record { place = (true, tt, a, b, k); functions = f; jobs = e }, tt)

  apply_stays : (i j : Bool) (s : System) (w : Process) (m : RedirectKind) (x : List ℕ) (ts : Redirects) (t : AfterRedirects)
      → SeesStart j i w.stdin → OkRedirect i m → OkRedirects i (j || reads m) ts → OkAfter i t → Within i w.frames w.stdout
      → w.functions ≡ [] → w.jobs ≡ [] → Stays i s (apply_redirect s w m x ts t)
  apply_stays i true s w m x ts t fr o a b k f e = apply_strict i s w m x ts t o a b k f e
  apply_stays true false s w m x ts t fr o a b k f e = absurd fr
  apply_stays false false s w input x ts t fr o a b k f e = apply_strict false s w input x ts t o a b k f e
  apply_stays false false s w output x ts t fr o a b k f e = (
    record {
      place = (
        false,
        fr,
        a,
        b,
        within_any w.frames w.stdout (length s.handles) k,
      );
      functions = f;
      jobs = e;
    },
    tt,
  )
  apply_stays false false s w append x ts t fr o a b k f e = (
    record {
      place = (
        false,
        fr,
        a,
        b,
        within_any w.frames w.stdout (length s.handles) k,
      );
      functions = f;
      jobs = e;
    },
    tt,
  )
  apply_stays false false s w here x ts t fr o a b k f e = apply_strict false s w here x ts t o a b k f e

  arms_stays : (i : Bool) (s : System) (w : Process) (x : List ℕ) (is : Arms) → OkArms i is → Between i w.frames w.stdin w.stdout
      → w.functions ≡ [] → w.jobs ≡ [] → Stays i s (step_arms s w x is)
  arms_stays i s w x no_arms h k f e = search walk
  arms_stays i s w x (arm p l is) h k f e = (record { place = (i, sees_start i w.stdin k.1, tt, h.0, (h.1, h.2, k)); functions = f; jobs = e }, same_files_if i s s refl)

  for_stays : (i : Bool) (s : System) (w : Process) (x : Name) (as₁ : List (List ℕ)) (l : CommandList) → OkList i l
      → Between i w.frames w.stdin w.stdout → w.functions ≡ [] → w.jobs ≡ [] → Stays i s (step_for s w x as₁ l)
  for_stays i s w x [] l h k f e = search walk
  for_stays i s w x (a ∷ as₁) l h k f e = search walk

  expanded_stays : (i j : Bool) (s : System) (w : Process) (x : Expansion) (y : Purpose) → SeesStart j i w.stdin → (x.parts ≡ no_parts)
      → (x.words ≡ no_words) → AtPurpose i j x y w.frames w.stdin w.stdout → w.functions ≡ [] → w.jobs ≡ []
      → Stays i s (expanded s w (close_word x.current x.complete) y)
  expanded_stays i j s w x (to_assign n ss ws ts) fr p q h f e = assignments_stays i s (with_variables w _) ss ws ts h.0 h.1 h.2 h.3 h.4 f e
  expanded_stays true j s w x (to_invoke ts) fr p q h f e = (
    record {
      place = (
        true,
        tt,
        h.0,
        track_arguments s.files x.complete x.current (subst (λ ws. Track x.complete x.current no_parts ws) q
            (subst (λ v. Track x.complete x.current v x.words) p h.1)),
        (h.2.1, h.2.2, h.2.0, h.2.2),
      );
      functions = f;
      jobs = e;
    },
    refl,
  )
  expanded_stays false j s w x (to_invoke ts) fr p q h f e = (record { place = (false, h.2.1, h.0, tt, (h.2.1, h.2.2, h.2.0, tt)); functions = f; jobs = e }, tt)
  expanded_stays i j s w x (to_redirect m ts t) fr p q h f e = apply_stays i j s w m _ ts t fr h.0 h.1 h.2 h.3 f e
  expanded_stays i j s w x (to_loop n l) fr p q h f e = for_stays i s w n _ l h.0 h.1 f e
  expanded_stays i j s w x (to_select is) fr p q h f e = arms_stays i s w _ is h.0 h.1 f e
  expanded_stays i j s w x (to_match n l is) fr p q h f e = search (walk, arms_stays)

  -- a step of the expansion keeps what is known of the first word
  at_purpose : (i j : Bool) (x z : Expansion) (y : Purpose) (k : List Frame) (a b : ℕ) → (FirstWord i x → FirstWord i z) → AtPurpose i j x y k a b → AtPurpose i j z y k a b
  at_purpose i j x z (to_assign n ss ws ts) k a b g h = h
  at_purpose i j x z (to_invoke ts) k a b g h = (h.0, g h.1, h.2)
  at_purpose i j x z (to_redirect n ts t) k a b g h = h
  at_purpose i j x z (to_loop n l) k a b g h = h
  at_purpose i j x z (to_select is) k a b g h = h
  at_purpose i j x z (to_match n l is) k a b g h = h

  next_first : (i : Bool) (x : Expansion) (v : Word) (vs : Words) → x.parts ≡ no_parts → x.words ≡ and_word v vs → FirstWord i x
      → FirstWord i (record { words = vs; parts = v; current = none; complete = close_word x.current x.complete; split = x.split })
  next_first true x v vs p q h = track_next x.complete x.current v vs (subst (λ ws. Track x.complete x.current no_parts ws) q
      (subst (λ u. Track x.complete x.current u x.words) p h))
  next_first false x v vs p q h = tt

  next_word_stays : (i j : Bool) (s : System) (w : Process) (x : Expansion) (vs : Words) (y : Purpose) → SeesStart j i w.stdin
      → x.parts ≡ no_parts → x.words ≡ vs → OkWords j vs → AtPurpose i j x y w.frames w.stdin w.stdout → w.functions ≡ [] → w.jobs ≡ []
      → Stays i s (next_word s w x vs y)
  next_word_stays i j s w x no_words y fr p q a h f e = expanded_stays i j s w x y fr p q h f e
  next_word_stays i j s w x (and_word v vs) y fr p q a h f e = (
    record {
      place = (
        j,
        fr,
        a.1,
        a.0,
        at_purpose i j x _ y w.frames w.stdin w.stdout (next_first i x v vs p q) h,
      );
      functions = f;
      jobs = e;
    },
    same_files_if i s s refl,
  )

  pick_both : {A : Type 0} (P : A → Type 0) (b : Bool) (x y : A) → P x → P y → P (pick b x y)
  pick_both P true x y h k = h
  pick_both P false x y h k = k

  insert_words : (P : Words → Word → Type 0) (x : Expansion) (q : Bool) (v : List ℕ) → P x.words x.parts → P (insert_value x q v).words (insert_value x q v).parts
  insert_words P x q v h = pick_both (λ (z : Expansion). P z.words z.parts) (x.split && not q) _ _ h h

  literal_first : (i : Bool) (x : Expansion) (q : Bool) (bs : List ℕ) (r : Word) → x.parts ≡ and_part (literal q bs) r → FirstWord i x
      → FirstWord i (with_parts (record {
        words = x.words;
        parts = x.parts;
        current = some (so_far x.current ++ quote_bytes q bs);
        complete = x.complete;
        split = x.split;
      }) r)
  literal_first true x q bs r p h = track_literal x.complete x.current q bs r x.words (subst (λ v. Track x.complete x.current v x.words) p h)
  literal_first false x q bs r p h = tt

  parameter_first : (i : Bool) (x : Expansion) (q : Bool) (n : Name) (v : List ℕ) (r : Word) → x.parts ≡ and_part (parameter q n) r → FirstWord i x
      → FirstWord i (insert_value (with_parts x r) q v)
  parameter_first true x q n v r p h = track_parameter x.split q v n r x.words x.complete x.current (subst (λ v. Track x.complete x.current v x.words) p h)
  parameter_first false x q n v r p h = tt

  expansion_stays : (i j : Bool) (s : System) (w : Process) (x : Expansion) (v : Word) (y : Purpose) → NoSubstitution v → SeesStart j i w.stdin
      → x.parts ≡ v → OkWords j x.words → OkWord j v → AtPurpose i j x y w.frames w.stdin w.stdout → w.functions ≡ [] → w.jobs ≡ []
      → Stays i s (step_expansion s w x v y)
  expansion_stays i j s w x no_parts y nr fr p a b h f e = next_word_stays i j s w x x.words y fr p refl a h f e
  expansion_stays i j s w x (and_part (literal q bs) r) y nr fr p a b h f e = (
    record {
      place = (
        j,
        fr,
        a,
        b.1,
        at_purpose i j x _ y w.frames w.stdin w.stdout (literal_first i x q bs r p) h,
      );
      functions = f;
      jobs = e;
    },
    same_files_if i s s refl,
  )
  expansion_stays i j s w x (and_part (parameter q n) r) y nr fr p a b h f e =
      let c = insert_words (λ vs v. OkWords j vs × OkWord j v) (with_parts x r) q (parameter_value w n) (a, b.1) in (
        record {
          place = (
            j,
            fr,
            c.0,
            c.1,
            at_purpose i j x _ y w.frames w.stdin w.stdout
                (parameter_first i x q n (parameter_value w n) r p) h,
          );
          functions = f;
          jobs = e;
        },
        same_files_if i s s refl,
      )
  expansion_stays i j s w x (and_part (substitution q l) r) y nr fr p a b h f e = absurd nr

  redirects_stays : (i j : Bool) (s : System) (w : Process) (ts : Redirects) (t : AfterRedirects) → SeesStart j i w.stdin → OkRedirects i j ts
      → OkAfter i t → Within i w.frames w.stdout → w.functions ≡ [] → w.jobs ≡ [] → Stays i s (step_redirects s w ts t)
  redirects_stays i j s w no_redirects (then_invoke as₁) fr a h k f e = invoke_stays i s w as₁ h k f e
  redirects_stays i j s w no_redirects (then_command c) fr a h k f e = absurd h
  redirects_stays i j s w (redirect n v ts) t fr a h k f e = (record { place = (j, fr, tt, a.0, (a.1, a.2, h, k)); functions = f; jobs = e }, same_files_if i s s refl)

  command_stays : (i : Bool) (s : System) (w : Process) (c : Command) → OkCommand i c → Between i w.frames w.stdin w.stdout
      → w.functions ≡ [] → w.jobs ≡ [] → Stays i s (step_command s w c)
  command_stays i s w (simple ss ws ts) h k f e = assignments_stays i s w ss ws ts h.0 h.1 h.2 h.3 k f e
  command_stays i s w (group l no_redirects) h k f e = search walk
  command_stays i s w (group l (redirect n v ts)) h k f e = absurd h.1
  command_stays i s w (subshell l ts) h k f e = absurd h
  command_stays i s w (if a b c no_redirects) h k f e = search walk
  command_stays i s w (if a b c (redirect n v ts)) h k f e = absurd h.3
  command_stays i s w (while a b no_redirects) h k f e = search walk
  command_stays i s w (while a b (redirect n v ts)) h k f e = absurd h.2
  command_stays i s w (for x no_words l no_redirects) h k f e = (
    record {
      place = (i, sees_start i w.stdin k.1, tt, tt, (h.1, k));
      functions = f;
      jobs = e;
    },
    same_files_if i s s refl,
  )
  command_stays i s w (for x (and_word v ws) l no_redirects) h k f e = (
    record {
      place = (
        i,
        sees_start i w.stdin k.1,
        h.0.1,
        h.0.0,
        (h.1, k),
      );
      functions = f;
      jobs = e;
    },
    same_files_if i s s refl,
  )
  command_stays i s w (for x ws l (redirect n v ts)) h k f e = absurd h.2
  command_stays i s w (case v is no_redirects) h k f e = (
    record {
      place = (i, sees_start i w.stdin k.1, tt, h.0, (h.1, k));
      functions = f;
      jobs = e;
    },
    same_files_if i s s refl,
  )
  command_stays i s w (case v is (redirect n u ts)) h k f e = absurd h.2
  command_stays i s w (function x l) h k f e = absurd h

  and_or_stays : (i : Bool) (s : System) (w : Process) (a : AndOr) → OkAndOr i a → Between i w.frames w.stdin w.stdout → w.functions ≡ []
      → w.jobs ≡ [] → Stays i s (step_and_or s w a)
  and_or_stays i s w (first n p) h k f e = search walk
  and_or_stays i s w (joined a b n p) h k f e = search walk

  list_stays : (i : Bool) (s : System) (w : Process) (l : CommandList) → OkList i l → Between i w.frames w.stdin w.stdout
      → w.functions ≡ [] → w.jobs ≡ [] → Stays i s (step_list s w l)
  list_stays i s w end h k f e = search walk
  list_stays i s w (next a false l) h k f e = search walk
  list_stays i s w (next a true l) h k f e = absurd h

  abbrev IsSingle : Pipeline → Type 0
  IsSingle (single c) = Unit {0}
  IsSingle (piped c p) = ⊥

  pipeline_stays : (i : Bool) (s : System) (w : Process) (n : Bool) (p : Pipeline) → IsSingle p → OkPipeline i p
      → Between i w.frames w.stdin w.stdout → w.functions ≡ [] → w.jobs ≡ [] → Stays i s (step_pipeline s w n p)
  pipeline_stays i s w true (single c) q h k f e = search walk
  pipeline_stays i s w false (single c) q h k f e = search walk
  pipeline_stays i s w n (piped c p) q h k f e = absurd q

  else_stays : (i : Bool) (s : System) (w : Process) (l : ElsePart) (k : List Frame) → OkElse i l → Between i k w.stdin w.stdout
      → w.functions ≡ [] → w.jobs ≡ [] → Stays i s (step_else s w l k)
  else_stays i s w no_else k h c f e = search walk
  else_stays i s w (else l) k h c f e = search walk

  status_stays : (i : Bool) (s : System) (w : Process) (n : ℕ) (k : List Frame) → Between i k w.stdin w.stdout ⊎ Within i k w.stdout
      → w.functions ≡ [] → w.jobs ≡ [] → Stays i s (step_status s w n k)
  status_stays i s w n [] c f e = search walk
  status_stays i s w n (f_list end ∷ k) (inl c) f e = search walk
  status_stays i s w n (f_list end ∷ k) (inr c) f e = absurd c
  status_stays i s w n (f_list (next a b l) ∷ k) (inl c) f e = search walk
  status_stays i s w n (f_list (next a b l) ∷ k) (inr c) f e = absurd c
  status_stays i s w n (f_and_or b m p ∷ k) (inl c) f e = search walk
  status_stays i s w n (f_and_or b m p ∷ k) (inr c) f e = absurd c
  status_stays i s w n (f_not ∷ k) (inl c) f e = search walk
  status_stays i s w n (f_not ∷ k) (inr c) f e = absurd c
  status_stays i s w n (f_if a b ∷ k) (inl c) f e = search (walk, else_stays)
  status_stays i s w n (f_if a b ∷ k) (inr c) f e = absurd c
  status_stays i s w n (f_condition a b ∷ k) (inl c) f e = search walk
  status_stays i s w n (f_condition a b ∷ k) (inr c) f e = absurd c
  status_stays i s w n (f_body a b ∷ k) (inl c) f e = search walk
  status_stays i s w n (f_body a b ∷ k) (inr c) f e = absurd c
  status_stays i s w n (f_for x [] l ∷ k) (inl c) f e = search walk
  status_stays i s w n (f_for x (a ∷ as₁) l ∷ k) (inl c) f e = (record { place = (c.0.0, (c.0, c.1, c.2)); functions = f; jobs = e }, same_files_if i s s refl)
  status_stays i s w n (f_for x as₁ l ∷ k) (inr c) f e = absurd c
  status_stays i s w n (f_handles a o ∷ k) (inl c) f e = absurd c.0
  status_stays i s w n (f_handles a o ∷ k) (inr c) f e = (record { place = inl (c.2, c.0, c.1); functions = f; jobs = e }, same_files_if i s s refl)
  status_stays i s w n (f_arguments as₁ ∷ k) (inl c) f e = absurd c.0
  status_stays i s w n (f_arguments as₁ ∷ k) (inr c) f e = absurd c

  unwind_stays : (i : Bool) (s : System) (w : Process) (t : Unwind) (n : ℕ) (k : List Frame) → Between i k w.stdin w.stdout
      ⊎ Within i k w.stdout → w.functions ≡ [] → w.jobs ≡ [] → Stays i s (step_unwind s w t n k)
  unwind_stays i s w t n [] c f e = search walk
  unwind_stays i s w t n (f_list l ∷ k) (inl c) f e = search walk
  unwind_stays i s w t n (f_list l ∷ k) (inr c) f e = absurd c
  unwind_stays i s w t n (f_and_or b m p ∷ k) (inl c) f e = search walk
  unwind_stays i s w t n (f_and_or b m p ∷ k) (inr c) f e = absurd c
  unwind_stays i s w t n (f_not ∷ k) (inl c) f e = search walk
  unwind_stays i s w t n (f_not ∷ k) (inr c) f e = absurd c
  unwind_stays i s w t n (f_if a b ∷ k) (inl c) f e = search walk
  unwind_stays i s w t n (f_if a b ∷ k) (inr c) f e = absurd c
  unwind_stays i s w break n (f_condition a b ∷ k) (inl c) f e = search walk
  unwind_stays i s w continue n (f_condition a b ∷ k) (inl c) f e = search walk
  unwind_stays i s w return n (f_condition a b ∷ k) (inl c) f e = search walk
  unwind_stays i s w exit n (f_condition a b ∷ k) (inl c) f e = search walk
  unwind_stays i s w t n (f_condition a b ∷ k) (inr c) f e = absurd c
  unwind_stays i s w break n (f_body a b ∷ k) (inl c) f e = search walk
  unwind_stays i s w continue n (f_body a b ∷ k) (inl c) f e = search walk
  unwind_stays i s w return n (f_body a b ∷ k) (inl c) f e = search walk
  unwind_stays i s w exit n (f_body a b ∷ k) (inl c) f e = search walk
  unwind_stays i s w t n (f_body a b ∷ k) (inr c) f e = absurd c
  unwind_stays i s w break n (f_for x as₁ l ∷ k) (inl c) f e = search walk
  unwind_stays i s w continue n (f_for x as₁ l ∷ k) (inl c) f e = search walk
  unwind_stays i s w return n (f_for x as₁ l ∷ k) (inl c) f e = search walk
  unwind_stays i s w exit n (f_for x as₁ l ∷ k) (inl c) f e = search walk
  unwind_stays i s w t n (f_for x as₁ l ∷ k) (inr c) f e = absurd c
  unwind_stays i s w t n (f_handles a o ∷ k) (inl c) f e = absurd c.0
  unwind_stays i s w t n (f_handles a o ∷ k) (inr c) f e = (record { place = inl (c.2, c.0, c.1); functions = f; jobs = e }, same_files_if i s s refl)
  unwind_stays i s w t n (f_arguments as₁ ∷ k) (inl c) f e = absurd c.0
  unwind_stays i s w t n (f_arguments as₁ ∷ k) (inr c) f e = absurd c

  wait_stays : (i : Bool) (s : System) (w : Process) (n : ℕ) (ps : List ℕ) → Between i w.frames w.stdin w.stdout
      ⊎ Within i w.frames w.stdout → w.functions ≡ [] → w.jobs ≡ [] → Stays? i s (step_wait s w n ps)
  wait_stays i s w n [] k f e = search walk
  wait_stays i s w n (p ∷ ps) k f e = opt_stays? i s (exit_status s.exited p) none _ tt (λ m. wait_stays i s w m ps k f e)

  -- neither a pipeline nor a $( ) begins, and nothing is captured
  abbrev pub NotPipeline : Control → Type 0
  NotPipeline (at_list l) = Unit {0}
  NotPipeline (at_and_or a) = Unit {0}
  NotPipeline (at_pipeline n p) = IsSingle p
  NotPipeline (at_command c) = Unit {0}
  NotPipeline (at_words x y) = NoSubstitution x.parts
  NotPipeline (at_redirects ts t) = Unit {0}
  NotPipeline (at_builtin u) = Unit {0}
  NotPipeline (at_status n) = Unit {0}
  NotPipeline (at_unwind t n) = Unit {0}
  NotPipeline (at_wait ps) = Unit {0}
  NotPipeline (at_capture d bs q x y) = ⊥

  control_stays : (i : Bool) (s : System) (w : Process) (c : Control) → NotPipeline c → StdoutStream i s → At i c w.frames w.stdin w.stdout
      → w.functions ≡ [] → w.jobs ≡ [] → Stays? i s (step_control s w c)
  control_stays i s w (at_list l) p h a f e = list_stays i s w l a.0 a.1 f e
  control_stays i s w (at_and_or x) p h a f e = and_or_stays i s w x a.0 a.1 f e
  control_stays i s w (at_pipeline n q) p h a f e = pipeline_stays i s w n q p a.0 a.1 f e
  control_stays i s w (at_command c) p h a f e = command_stays i s w c a.0 a.1 f e
  control_stays i s w (at_words x y) p h a f e = expansion_stays i a.0 s w x x.parts y p a.1 refl a.2 a.3 a.4 f e
  control_stays i s w (at_redirects ts t) p h a f e = redirects_stays i a.0 s w ts t a.1 a.2 a.3 a.4 f e
  control_stays i s w (at_builtin u) p h a f e = builtin_stays i s w u h a f e
  control_stays i s w (at_status n) p h a f e = status_stays i s (with_status w n) n w.frames a f e
  control_stays i s w (at_unwind t n) p h a f e = unwind_stays i s w t n w.frames a f e
  control_stays i s w (at_wait []) p h a f e = wait_stays i s w 0 [] a f e
  control_stays i s w (at_wait (q ∷ ps)) p h a f e = absurd a
  control_stays i s w (at_capture d bs q x y) p h a f e = absurd p

  pub step_disciplined : (i : Bool) (s : System) (w : Process) → NotPipeline w.control → StdoutStream i s → Disciplined i w → Stays? i s (step s w)
  step_disciplined i s w p h a = control_stays i s w w.control p h a.place a.functions a.jobs

  -- inside a pipeline none begins
  no_substitution_word : (j : Bool) (a : ℕ) (v : Word) → SeesStart j true a → OkWord j v → NoSubstitution v
  no_substitution_word j a no_parts f h = tt
  no_substitution_word j a (and_part (literal q b) v) f h = tt
  no_substitution_word j a (and_part (parameter q x) v) f h = tt
  no_substitution_word true a (and_part (substitution q l) v) f h = absurd h.0.0
  no_substitution_word false a (and_part (substitution q l) v) f h = absurd f

  not_pipeline_control : (c : Control) (k : List Frame) (a b : ℕ) → At true c k a b → NotPipeline c
  not_pipeline_control (at_list l) k a b h = tt
  not_pipeline_control (at_and_or x) k a b h = tt
  not_pipeline_control (at_pipeline n (single c)) k a b h = tt
  not_pipeline_control (at_pipeline n (piped c p)) k a b h = absurd h.0
  not_pipeline_control (at_command c) k a b h = tt
  not_pipeline_control (at_words x y) k a b h = no_substitution_word h.0 a x.parts h.1 h.3
  not_pipeline_control (at_redirects ts t) k a b h = tt
  not_pipeline_control (at_builtin u) k a b h = tt
  not_pipeline_control (at_status n) k a b h = tt
  not_pipeline_control (at_unwind t n) k a b h = tt
  not_pipeline_control (at_wait ps) k a b h = tt
  not_pipeline_control (at_capture d bs q x y) k a b h = absurd h

  pub not_pipeline : (w : Process) → Disciplined true w → NotPipeline w.control
  not_pipeline w f = not_pipeline_control w.control w.frames w.stdin w.stdout f.place

  -- a $( ) begins: its list is as calm, and it reads from where the process began to read
  pub substitution_parts : (i : Bool) (x : Expansion) (y : Purpose) (q : Bool) (l : CommandList) (r : Word) (k : List Frame) (a b : ℕ)
      → x.parts ≡ and_part (substitution q l) r → WordAt i x y k a b → (i ≡ false) × (a ≡ b0) × OkList false l
      × WordAt false (with_parts x r) y k a b
  substitution_parts i x y q l r k a b e h = by i h.0 h.1 (subst (λ v. OkWord h.0 v) e h.3) h.2 h.4
    where
      by : (i j : Bool) → SeesStart j i a → (Allowed j × OkList false l) × OkWord j r → OkWords j x.words → AtPurpose i j x y k a b
          → (i ≡ false) × (a ≡ b0) × OkList false l × WordAt false (with_parts x r) y k a b
      by i true f g ws h = absurd g.0.0
      by true false f g ws h = absurd f
      by false false f g ws h = (refl, f, g.0.1, (false, f, ws, g.1, at_purpose false false x (with_parts x r) y k a b (λ z. tt) h))

  -- what was captured is inserted
  pub captured_at : (x : Expansion) (y : Purpose) (q : Bool) (v : List ℕ) (k : List Frame) (a b : ℕ) → WordAt false x y k a b → WordAt false (insert_value x q v) y k a b
  captured_at x y q v k a b h = let c = insert_words (λ vs v. OkWords h.0 vs × OkWord h.0 v) x q v (h.2, h.3) in (
    h.0,
    h.1,
    c.0,
    c.1,
    at_purpose false h.0 x (insert_value x q v) y k a b (λ z. tt) h.4,
  )
