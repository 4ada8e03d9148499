-- Steps do not depend on the numbers of handles: two processes that are alike but for the numbers of their handles, in systems
-- that are alike, take like steps.
use mathlib.Core.Path.{◌≡◌, refl, subst}
use mathlib.Core.Logic.{◌⊎◌, inl, inr}
use mathlib.Core.Bool.{Bool, false, true}
use mathlib.Core.List.{[], ◌∷◌, List}
use mathlib.Core.Option.{none, Option, some}
use Prim.Native.Nat.{suc, zero, ℕ}
use lib.ListN.{length}
use Rattle.syntax.specs.Base.{Name, opt, pick}
use Rattle.syntax.specs.Tree.{and_part, and_word, AndOr, append, arm, Arms, assign, Assignments, case, Command, CommandList, else, ElsePart, end, first, for, function, group, here, if, input, joined, literal, next, no_arms, no_assignments, no_else, no_parts, no_redirects, no_words, output, parameter, piped, Pipeline, redirect, RedirectKind, Redirects, simple, single, subshell, substitution, while, Word, Words}
use Rattle.meaning.specs.System.{AfterRedirects, at_and_or, at_builtin, at_capture, at_command, at_end, at_list, at_pipeline, at_redirects, at_status, at_unwind, at_wait, at_words, b_cat, b_done, b_grep, b_head, b_print, b_read, b_seq, b_wc, b_yes, break, Builtin, continue, Control, exit, Expansion, f_and_or, f_arguments, f_body, f_condition, f_for, f_handles, f_if, f_list, f_not, File, file_append, file_read, find_file, Frame, got, Handle, here_text, host_input, host_paper, must_wait, no_reader, pipe_full, pipe_read, pipe_write, Process, Purpose, QuotedByte, read_byte, ReadByte, remove_file, return, set_file, System, then_command, then_invoke, to_assign, to_invoke, to_loop, to_match, to_redirect, to_select, Unwind, with_files, write_byte, WriteByte, wrote}
use Rattle.meaning.specs.Words.{all_pathnames, close_word, first_bytes, test_status}
use Rattle.meaning.specs.Step.{apply_redirect, builtin_at, cat_next, completes, continues, exits, expanded, goes_to, grep_last, invoke, next_word, open_handle, print_byte, read_or, redirected, remove_files, run_builtin, start_cat, start_seq, step_and_or, step_arms, step_assignments, step_builtin, step_command, step_control, step_expansion, step_for, step_list, step_pipeline, step_redirects, step_status, step_unwind, StepResult, with_io, with_status, with_variables}

abbrev pub Private : Handle → Type 0
Private (file_read x n) = Unit {0}
Private (file_append x) = Unit {0}
Private (pipe_read p) = ⊥
Private (pipe_write p) = ⊥
Private host_input = ⊥
Private host_paper = ⊥
Private (here_text bs) = Unit {0}

abbrev pub Foreground : CommandList → Type 0
Foreground end = Unit {0}
Foreground (next a false l) = Unit {0}
Foreground (next a true l) = ⊥

abbrev pub InProcess : Command → Type 0
InProcess (simple ss ws ts) = Unit {0}
InProcess (group l ts) = Unit {0}
InProcess (subshell l ts) = ⊥
InProcess (if a b c ts) = Unit {0}
InProcess (while a b ts) = Unit {0}
InProcess (for x ws l ts) = Unit {0}
InProcess (case v is ts) = Unit {0}
InProcess (function x l) = ⊥

abbrev pub NoSubstitution : Word → Type 0
NoSubstitution no_parts = Unit {0}
NoSubstitution (and_part (literal q bs) r) = Unit {0}
NoSubstitution (and_part (parameter q n) r) = Unit {0}
NoSubstitution (and_part (substitution q l) r) = ⊥

abbrev pub Sequential : Control → Type 0
Sequential (at_list l) = Foreground l
Sequential (at_and_or a) = Unit {0}
Sequential (at_pipeline n (single d)) = Unit {0}
Sequential (at_pipeline n (piped d q)) = ⊥
Sequential (at_command d) = InProcess d
Sequential (at_words a y) = NoSubstitution a.parts
Sequential (at_redirects ts t) = Unit {0}
Sequential (at_builtin u) = Unit {0}
Sequential (at_status n) = Unit {0}
Sequential (at_unwind t n) = Unit {0}
Sequential (at_wait []) = Unit {0}
Sequential (at_wait (q ∷ ps)) = ⊥
Sequential (at_capture d bs q a y) = Unit {0}

module _ (ρ : Bool → ℕ → ℕ → Type 0) where
  pub data LikeBuiltin (z : Bool) : Builtin → Builtin → Type 0 where
    l_done : {n : ℕ} → LikeBuiltin z (b_done n) (b_done n)
    l_print : {bs : List ℕ} {u v : Builtin} → LikeBuiltin z u v → LikeBuiltin z (b_print bs u) (b_print bs v)
    l_cat : {xs : List Name} → LikeBuiltin z (b_cat xs none) (b_cat xs none)
    l_cat_on : {xs : List Name} {d e : ℕ} → ρ z d e → LikeBuiltin z (b_cat xs (some d)) (b_cat xs (some e))
    l_head : {n : ℕ} → LikeBuiltin z (b_head n) (b_head n)
    l_wc : {a b : ℕ} → LikeBuiltin z (b_wc a b) (b_wc a b)
    l_grep : {p l : List ℕ} {b : Bool} → LikeBuiltin z (b_grep p l b) (b_grep p l b)
    l_seq : {a b : ℕ} → LikeBuiltin z (b_seq a b) (b_seq a b)
    l_yes : {l : List ℕ} → LikeBuiltin z (b_yes l) (b_yes l)
    l_read : {x l : List ℕ} → LikeBuiltin z (b_read x l) (b_read x l)

  pub data LikeControl (z : Bool) : Control → Control → Type 0 where
    l_list : {l : CommandList} → LikeControl z (at_list l) (at_list l)
    l_and_or : {a : AndOr} → LikeControl z (at_and_or a) (at_and_or a)
    l_pipeline : {n : Bool} {p : Pipeline} → LikeControl z (at_pipeline n p) (at_pipeline n p)
    l_command : {c : Command} → LikeControl z (at_command c) (at_command c)
    l_words : {x : Expansion} {y : Purpose} → LikeControl z (at_words x y) (at_words x y)
    l_redirects : {ts : Redirects} {t : AfterRedirects} → LikeControl z (at_redirects ts t) (at_redirects ts t)
    l_builtin : {u v : Builtin} → LikeBuiltin z u v → LikeControl z (at_builtin u) (at_builtin v)
    l_status : {n : ℕ} → LikeControl z (at_status n) (at_status n)
    l_unwind : {t : Unwind} {n : ℕ} → LikeControl z (at_unwind t n) (at_unwind t n)
    l_wait : {ps : List ℕ} → LikeControl z (at_wait ps) (at_wait ps)
    l_capture : {d e : ℕ} {bs : List ℕ} {q : Bool} {x : Expansion} {y : Purpose} → ρ z d e → LikeControl z (at_capture d bs q x y) (at_capture e bs q x y)

  pub data LikeFrames (z : Bool) : List Frame → List Frame → Type 0 where
    l_nil : LikeFrames z [] []
    l_rest : {l : CommandList} {k j : List Frame} → LikeFrames z k j → LikeFrames z (f_list l ∷ k) (f_list l ∷ j)
    l_joined : {b n : Bool} {p : Pipeline} {k j : List Frame} → LikeFrames z k j → LikeFrames z (f_and_or b n p ∷ k) (f_and_or b n p ∷ j)
    l_not : {k j : List Frame} → LikeFrames z k j → LikeFrames z (f_not ∷ k) (f_not ∷ j)
    l_if : {a : CommandList} {b : ElsePart} {k j : List Frame} → LikeFrames z k j → LikeFrames z (f_if a b ∷ k) (f_if a b ∷ j)
    l_condition : {a b : CommandList} {k j : List Frame} → LikeFrames z k j → LikeFrames z (f_condition a b ∷ k) (f_condition a b ∷ j)
    l_body : {a b : CommandList} {k j : List Frame} → LikeFrames z k j → LikeFrames z (f_body a b ∷ k) (f_body a b ∷ j)
    l_for : {x : Name} {as₁ : List (List ℕ)} {l : CommandList} {k j : List Frame} → LikeFrames z k j → LikeFrames z (f_for x as₁ l ∷ k) (f_for x as₁ l ∷ j)
    l_handles : {a b c d : ℕ} {k j : List Frame} → ρ z a c → ρ z b d → LikeFrames z k j → LikeFrames z (f_handles a b ∷ k) (f_handles c d ∷ j)
    l_arguments : {as₁ : List (List ℕ)} {k j : List Frame} → LikeFrames z k j → LikeFrames z (f_arguments as₁ ∷ k) (f_arguments as₁ ∷ j)

  -- the same process with other numbers
  abbrev pub twin : Process → ℕ → Control → List Frame → ℕ → ℕ → Process
  twin w p c k i o = record {
    pid = p;
    control = c;
    frames = k;
    stdin = i;
    stdout = o;
    variables = w.variables;
    functions = w.functions;
    arguments = w.arguments;
    status = w.status;
    jobs = w.jobs;
  }

  pub record LikeProcess (z : Bool) (w v : Process) : Type 0 where
    pub control : LikeControl z w.control v.control
    pub frames : LikeFrames z w.frames v.frames
    pub stdin : ρ z w.stdin v.stdin
    pub stdout : ρ z w.stdout v.stdout
    pub variables : v.variables ≡ w.variables
    pub functions : v.functions ≡ w.functions
    pub arguments : v.arguments ≡ w.arguments
    pub status : v.status ≡ w.status
    pub jobs : v.jobs ≡ w.jobs

-- ρ relates the numbers of handles, with the flag: after a new handle was opened; Q relates the systems, Q' after a new
-- handle was opened
module _ (ρ : Bool → ℕ → ℕ → Type 0) (Q Q' : System → System → Type 0) (qf : (t y : System) → Q t y
    → t.files ≡ y.files) (cf : (t y : System) (fs : List File) → Q t y → Q (with_files t fs) (with_files y fs)) (oq : (t y : System) (o : Handle)
    → Private o → Q t y → Q' (open_handle t o) (open_handle y o)) (fr : (t y : System) → Q t y
    → ρ true (length t.handles) (length y.handles)) (up : (i j : ℕ) → ρ false i j → ρ true i j) where
  abbrev pub LikeResult : System → System → StepResult → StepResult → Type 0
  LikeResult s x (continues w t) (continues v y) = LikeProcess ρ false w v × Q t y
  LikeResult s x (continues w t) (exits m y) = ⊥
  LikeResult s x (exits n t) (continues v y) = ⊥
  LikeResult s x (exits n t) (exits m y) = (n ≡ m) × Q t y

  pick_like : (s x : System) (b : Bool) (o p o' p' : StepResult) → LikeResult s x o o' → LikeResult s x p p' → LikeResult s x (pick b o p) (pick b o' p')
  pick_like s x true o p o' p' h k = h
  pick_like s x false o p o' p' h k = k

  opt_like : {A : Type 0} (s x : System) (m : Option A) (o o' : StepResult) (f g : A → StepResult) → LikeResult s x o o'
      → ((a : A) → LikeResult s x (f a) (g a)) → LikeResult s x (opt m o f) (opt m o' g)
  opt_like s x none o o' f g h k = h
  opt_like s x (some a) o o' f g h k = k a

  goes_to_like : (s x t y : System) (w v : Process) (a b : Control) (j l : List Frame) → LikeControl ρ false a b → LikeFrames ρ false j l
      → ρ false w.stdin v.stdin → ρ false w.stdout v.stdout → v.variables ≡ w.variables → v.functions ≡ w.functions
      → v.arguments ≡ w.arguments → v.status ≡ w.status → v.jobs ≡ w.jobs → Q t y → LikeResult s x (goes_to t w a j) (goes_to y v b l)
  goes_to_like s x t y w v a b j l hc hk hi ho e1 e2 e3 e4 e5 f = (
    record {
      control = hc;
      frames = hk;
      stdin = hi;
      stdout = ho;
      variables = e1;
      functions = e2;
      arguments = e3;
      status = e4;
      jobs = e5;
    },
    f,
  )

  ruleset walk = (
    pick_like,
    opt_like,
    l_done,
    l_print,
    l_cat,
    l_cat_on,
    l_head,
    l_wc,
    l_grep,
    l_seq,
    l_yes,
    l_read,
    l_list,
    l_and_or,
    l_pipeline,
    l_command,
    l_words,
    l_redirects,
    l_builtin,
    l_status,
    l_unwind,
    l_wait,
    l_rest,
    l_joined,
    l_not,
    l_if,
    l_condition,
    l_body,
    l_for,
    l_handles,
    l_arguments,
  )

  test_same : (s x : System) (as₁ : List (List ℕ)) → Q s x → test_status s as₁ ≡ test_status x as₁
  test_same s x [] f = refl
  test_same s x (a ∷ []) f = refl
  test_same s x (a ∷ b ∷ []) f = rw (qf s x f)
  test_same s x (a ∷ b ∷ c ∷ []) f = refl
  test_same s x (a ∷ b ∷ c ∷ d ∷ as₁) f = refl

  at_status_like : (n m : ℕ) → n ≡ m → LikeControl ρ false (at_status n) (at_status m)
  at_status_like n m e = subst (λ z. LikeControl ρ false (at_status n) (at_status z)) e l_status

  removed_like : (s x : System) (as₁ : List (List ℕ)) → Q s x → Q (remove_files s as₁) (remove_files x as₁)
  removed_like s x [] f = f
  removed_like s x (a ∷ as₁) f = removed_like (with_files s (remove_file s.files a)) (with_files x (remove_file x.files a)) as₁
      (subst (λ fs. Q (with_files s (remove_file s.files a)) (with_files x (remove_file fs a))) (qf s x f) (cf s x _ f))

  start_cat_like : (s x : System) (w : Process) (as₁ : List (List ℕ)) (p : ℕ) (c : Control) (k : List Frame) (i o : ℕ) → Q s x
      → LikeFrames ρ false w.frames k → ρ false w.stdin i → ρ false w.stdout o
      → LikeResult s x (start_cat s w as₁) (start_cat x (twin ρ w p c k i o) as₁)
  start_cat_like s x w [] p c k i o f hk hi ho = search walk
  start_cat_like s x w (a ∷ as₁) p c k i o f hk hi ho = search walk

  start_seq_like : (s x : System) (w : Process) (as₁ : List (List ℕ)) (p : ℕ) (c : Control) (k : List Frame) (i o : ℕ) → Q s x
      → LikeFrames ρ false w.frames k → ρ false w.stdin i → ρ false w.stdout o
      → LikeResult s x (start_seq s w as₁) (start_seq x (twin ρ w p c k i o) as₁)
  start_seq_like s x w [] p c k i o f hk hi ho = search walk
  start_seq_like s x w (a ∷ []) p c k i o f hk hi ho = search walk
  start_seq_like s x w (a ∷ b ∷ []) p c k i o f hk hi ho = search walk depth 9
  start_seq_like s x w (a ∷ b ∷ e ∷ as₁) p c k i o f hk hi ho = search walk

  run_builtin_like : (s x : System) (w : Process) (n : Name) (as₁ : List (List ℕ)) (p : ℕ) (c : Control) (k : List Frame) (i o : ℕ) → Q s x
      → LikeFrames ρ false w.frames k → ρ false w.stdin i → ρ false w.stdout o
      → LikeResult s x (run_builtin s w n as₁) (run_builtin x (twin ρ w p c k i o) n as₁)
  run_builtin_like s x w n as₁ p c k i o f hk hi ho = search (
    pick_like,
    opt_like,
    goes_to_like,
    start_cat_like,
    start_seq_like,
    test_same,
    at_status_like,
    removed_like,
    l_builtin,
    l_print,
    l_done,
    l_head,
    l_wc,
    l_grep,
    l_yes,
    l_read,
    l_unwind,
    l_wait,
    l_status,
  ) depth 30 fits 5000

  invoke_like : (s x : System) (w : Process) (as₁ : List (List ℕ)) (p : ℕ) (c : Control) (k : List Frame) (i o : ℕ) → Q s x
      → LikeFrames ρ false w.frames k → ρ false w.stdin i → ρ false w.stdout o
      → LikeResult s x (invoke s w as₁) (invoke x (twin ρ w p c k i o) as₁)
  invoke_like s x w [] p c k i o f hk hi ho = search walk
  invoke_like s x w (a ∷ as₁) p c k i o f hk hi ho = search (walk, run_builtin_like)

  assignments_like : (s x : System) (w : Process) (ss : Assignments) (ws : Words) (ts : Redirects) (p : ℕ) (c : Control) (k : List Frame) (i o : ℕ)
      → Q s x → LikeFrames ρ false w.frames k → ρ false w.stdin i → ρ false w.stdout o
      → LikeResult s x (step_assignments s w ss ws ts) (step_assignments x (twin ρ w p c k i o) ss ws ts)
  assignments_like s x w no_assignments ws ts p c k i o f hk hi ho = search walk
  assignments_like s x w (assign y v ss) ws ts p c k i o f hk hi ho = search walk

  arms_like : (s x : System) (w : Process) (y : List ℕ) (is : Arms) (p : ℕ) (c : Control) (k : List Frame) (i o : ℕ) → Q s x
      → LikeFrames ρ false w.frames k → ρ false w.stdin i → ρ false w.stdout o
      → LikeResult s x (step_arms s w y is) (step_arms x (twin ρ w p c k i o) y is)
  arms_like s x w y no_arms p c k i o f hk hi ho = search walk
  arms_like s x w y (arm v l is) p c k i o f hk hi ho = search walk

  for_like : (s x : System) (w : Process) (y : Name) (as₁ : List (List ℕ)) (l : CommandList) (p : ℕ) (c : Control) (k : List Frame) (i o : ℕ) → Q s x
      → LikeFrames ρ false w.frames k → ρ false w.stdin i → ρ false w.stdout o
      → LikeResult s x (step_for s w y as₁ l) (step_for x (twin ρ w p c k i o) y as₁ l)
  for_like s x w y [] l p c k i o f hk hi ho = search walk
  for_like s x w y (a ∷ as₁) l p c k i o f hk hi ho = search walk

  list_like : (s x : System) (w : Process) (l : CommandList) (p : ℕ) (c : Control) (k : List Frame) (i o : ℕ) → Q s x
      → LikeFrames ρ false w.frames k → ρ false w.stdin i → ρ false w.stdout o → Foreground l
      → LikeResult s x (step_list s w l) (step_list x (twin ρ w p c k i o) l)
  list_like s x w end p c k i o f hk hi ho h = search walk
  list_like s x w (next a false l) p c k i o f hk hi ho h = search walk
  list_like s x w (next a true l) p c k i o f hk hi ho h = absurd h

  and_or_like : (s x : System) (w : Process) (a : AndOr) (p : ℕ) (c : Control) (k : List Frame) (i o : ℕ) → Q s x → LikeFrames ρ false w.frames k
      → ρ false w.stdin i → ρ false w.stdout o → LikeResult s x (step_and_or s w a) (step_and_or x (twin ρ w p c k i o) a)
  and_or_like s x w (first n q) p c k i o f hk hi ho = search walk
  and_or_like s x w (joined a b n q) p c k i o f hk hi ho = search walk

  status_like : (s x : System) (w : Process) (n : ℕ) (j k : List Frame) (p : ℕ) (c : Control) (l : List Frame) (i o : ℕ) → Q s x
      → LikeFrames ρ false j k → ρ false w.stdin i → ρ false w.stdout o → LikeResult s x (step_status s w n j)
      (step_status x (twin ρ w p c l i o) n k)
  status_like s x w n j k p c l i o f l_nil hi ho = search walk
  status_like s x w n j k p c l i o f (l_rest {l = end} h) hi ho = search walk
  status_like s x w n j k p c l i o f (l_rest {l = next a b m} h) hi ho = search walk
  status_like s x w n j k p c l i o f (l_joined h) hi ho = search walk
  status_like s x w n j k p c l i o f (l_not h) hi ho = search walk
  status_like s x w n j k p c l i o f (l_if {b = no_else} h) hi ho = search walk
  status_like s x w n j k p c l i o f (l_if {b = else m} h) hi ho = search walk
  status_like s x w n j k p c l i o f (l_condition h) hi ho = search walk
  status_like s x w n j k p c l i o f (l_body h) hi ho = search walk
  status_like s x w n j k p c l i o f (l_for {as₁ = []} h) hi ho = search walk
  status_like s x w n j k p c l i o f (l_for {as₁ = a ∷ as₁} h) hi ho = search walk
  status_like s x w n j k p c l i o f (l_handles a b h) hi ho = search walk
  status_like s x w n j k p c l i o f (l_arguments h) hi ho = search walk

  unwind_like : (s x : System) (w : Process) (t : Unwind) (n : ℕ) (j k : List Frame) (p : ℕ) (c : Control) (l : List Frame) (i o : ℕ) → Q s x
      → LikeFrames ρ false j k → ρ false w.stdin i → ρ false w.stdout o → LikeResult s x (step_unwind s w t n j)
      (step_unwind x (twin ρ w p c l i o) t n k)
  unwind_like s x w t n j k p c l i o f l_nil hi ho = search walk
  unwind_like s x w t n j k p c l i o f (l_rest h) hi ho = search walk
  unwind_like s x w t n j k p c l i o f (l_joined h) hi ho = search walk
  unwind_like s x w t n j k p c l i o f (l_not h) hi ho = search walk
  unwind_like s x w t n j k p c l i o f (l_if h) hi ho = search walk
  unwind_like s x w break n j k p c l i o f (l_condition h) hi ho = search walk
  unwind_like s x w continue n j k p c l i o f (l_condition h) hi ho = search walk
  unwind_like s x w return n j k p c l i o f (l_condition h) hi ho = search walk
  unwind_like s x w exit n j k p c l i o f (l_condition h) hi ho = search walk
  unwind_like s x w break n j k p c l i o f (l_body h) hi ho = search walk
  unwind_like s x w continue n j k p c l i o f (l_body h) hi ho = search walk
  unwind_like s x w return n j k p c l i o f (l_body h) hi ho = search walk
  unwind_like s x w exit n j k p c l i o f (l_body h) hi ho = search walk
  unwind_like s x w break n j k p c l i o f (l_for h) hi ho = search walk
  unwind_like s x w continue n j k p c l i o f (l_for h) hi ho = search walk
  unwind_like s x w return n j k p c l i o f (l_for h) hi ho = search walk
  unwind_like s x w exit n j k p c l i o f (l_for h) hi ho = search walk
  unwind_like s x w t n j k p c l i o f (l_handles a b h) hi ho = search walk
  unwind_like s x w break n j k p c l i o f (l_arguments h) hi ho = search walk
  unwind_like s x w continue n j k p c l i o f (l_arguments h) hi ho = search walk
  unwind_like s x w return n j k p c l i o f (l_arguments h) hi ho = search walk
  unwind_like s x w exit n j k p c l i o f (l_arguments h) hi ho = search walk

  redirected_like : (s x : System) (w : Process) (ts : Redirects) (d : Command) (a b : StepResult) (p : ℕ) (c : Control) (k : List Frame) (i o : ℕ)
      → Q s x → LikeFrames ρ false w.frames k → ρ false w.stdin i → ρ false w.stdout o → LikeResult s x a b
      → LikeResult s x (redirected s w ts d a) (redirected x (twin ρ w p c k i o) ts d b)
  redirected_like s x w no_redirects d a b p c k i o f hk hi ho h = h
  redirected_like s x w (redirect n v ts) d a b p c k i o f hk hi ho h = search walk

  command_like : (s x : System) (w : Process) (d : Command) (p : ℕ) (c : Control) (k : List Frame) (i o : ℕ) → Q s x
      → LikeFrames ρ false w.frames k → ρ false w.stdin i → ρ false w.stdout o → InProcess d
      → LikeResult s x (step_command s w d) (step_command x (twin ρ w p c k i o) d)
  command_like s x w (simple ss ws ts) p c k i o f hk hi ho h = assignments_like s x w ss ws ts p c k i o f hk hi ho
  command_like s x w (group l ts) p c k i o f hk hi ho h = redirected_like s x w ts _ _ _ p c k i o f hk hi ho (search walk)
  command_like s x w (if a b e ts) p c k i o f hk hi ho h = redirected_like s x w ts _ _ _ p c k i o f hk hi ho (search walk)
  command_like s x w (while a b ts) p c k i o f hk hi ho h = redirected_like s x w ts _ _ _ p c k i o f hk hi ho (search walk)
  command_like s x w (for y ws l ts) p c k i o f hk hi ho h = redirected_like s x w ts _ _ _ p c k i o f hk hi ho (search walk)
  command_like s x w (case v is ts) p c k i o f hk hi ho h = redirected_like s x w ts _ _ _ p c k i o f hk hi ho (search walk)
  command_like s x w (subshell l ts) p c k i o f hk hi ho h = absurd h
  command_like s x w (function y l) p c k i o f hk hi ho h = absurd h

  pipeline_like : (s x : System) (w : Process) (n : Bool) (d : Command) (p : ℕ) (c : Control) (k : List Frame) (i o : ℕ) → Q s x
      → LikeFrames ρ false w.frames k → ρ false w.stdin i → ρ false w.stdout o
      → LikeResult s x (step_pipeline s w n (single d)) (step_pipeline x (twin ρ w p c k i o) n (single d))
  pipeline_like s x w true d p c k i o f hk hi ho = search walk
  pipeline_like s x w false d p c k i o f hk hi ho = search walk

  abbrev NotRedirect : Purpose → Type 0
  NotRedirect (to_assign x ss ws ts) = Unit {0}
  NotRedirect (to_invoke ts) = Unit {0}
  NotRedirect (to_redirect k ts t) = ⊥
  NotRedirect (to_loop x l) = Unit {0}
  NotRedirect (to_select is) = Unit {0}
  NotRedirect (to_match x l is) = Unit {0}

  expanded_like : (s x : System) (w : Process) (fs : List (List QuotedByte)) (y : Purpose) (p : ℕ) (c : Control) (k : List Frame) (i o : ℕ) → Q s x
      → LikeFrames ρ false w.frames k → ρ false w.stdin i → ρ false w.stdout o → NotRedirect y
      → LikeResult s x (expanded s w fs y) (expanded x (twin ρ w p c k i o) fs y)
  expanded_like s x w fs (to_assign a ss ws ts) p c k i o f hk hi ho h = assignments_like s x (with_variables w _) ss ws ts p c k i o f hk hi ho
  expanded_like s x w fs (to_invoke ts) p c k i o f hk hi ho h = subst (λ fs₁. LikeResult s x
      (goes_to s w (at_redirects ts (then_invoke (all_pathnames s.files fs))) (f_handles w.stdin w.stdout ∷ w.frames))
      (goes_to x (twin ρ w p c k i o) (at_redirects ts (then_invoke (all_pathnames fs₁ fs))) (f_handles i o ∷ k))) (qf s x f) (search walk)
  expanded_like s x w fs (to_redirect n ts e) p c k i o f hk hi ho h = absurd h
  expanded_like s x w fs (to_loop a l) p c k i o f hk hi ho h = subst (λ fs₁. LikeResult s x (step_for s w a (all_pathnames s.files fs) l)
      (step_for x (twin ρ w p c k i o) a (all_pathnames fs₁ fs) l)) (qf s x f) (for_like s x w a (all_pathnames s.files fs) l p c k i o f hk hi ho)
  expanded_like s x w fs (to_select is) p c k i o f hk hi ho h = arms_like s x w _ is p c k i o f hk hi ho
  expanded_like s x w fs (to_match a l is) p c k i o f hk hi ho h = search (walk, arms_like)

  redirects_like : (s x : System) (w : Process) (ts : Redirects) (t : AfterRedirects) (p : ℕ) (c : Control) (k : List Frame) (i o : ℕ) → Q s x
      → LikeFrames ρ false w.frames k → ρ false w.stdin i → ρ false w.stdout o
      → LikeResult s x (step_redirects s w ts t) (step_redirects x (twin ρ w p c k i o) ts t)
  redirects_like s x w no_redirects (then_invoke as₁) p c k i o f hk hi ho = invoke_like s x w as₁ p c k i o f hk hi ho
  redirects_like s x w no_redirects (then_command d) p c k i o f hk hi ho = search walk
  redirects_like s x w (redirect n v ts) t p c k i o f hk hi ho = search walk

  -- reading and writing with the same answer
  abbrev pub LikeRead : System → System → ReadByte → ReadByte → Type 0
  LikeRead s x (got b t) (got d y) = (b ≡ d) × Q t y
  LikeRead s x (got b t) at_end = ⊥
  LikeRead s x (got b t) must_wait = ⊥
  LikeRead s x at_end (got d y) = ⊥
  LikeRead s x at_end at_end = Q s x
  LikeRead s x at_end must_wait = ⊥
  LikeRead s x must_wait (got d y) = ⊥
  LikeRead s x must_wait at_end = ⊥
  LikeRead s x must_wait must_wait = Unit {0}

  abbrev pub LikeWrite : System → System → WriteByte → WriteByte → Type 0
  LikeWrite s x (wrote t) (wrote y) = Q t y
  LikeWrite s x (wrote t) pipe_full = ⊥
  LikeWrite s x (wrote t) no_reader = ⊥
  LikeWrite s x pipe_full (wrote y) = ⊥
  LikeWrite s x pipe_full pipe_full = Unit {0}
  LikeWrite s x pipe_full no_reader = ⊥
  LikeWrite s x no_reader (wrote y) = ⊥
  LikeWrite s x no_reader pipe_full = ⊥
  LikeWrite s x no_reader no_reader = Q s x

  abbrev pub LikeStep : Option StepResult → Option StepResult → Type 0
  LikeStep none none = Unit {0}
  LikeStep none (some o) = ⊥
  LikeStep (some o) none = ⊥
  LikeStep (some (continues w t)) (some (continues v y)) = (LikeProcess ρ false w v × Q t y) ⊎ (LikeProcess ρ true w v × Q' t y)
  LikeStep (some (continues w t)) (some (exits m y)) = ⊥
  LikeStep (some (exits n t)) (some (continues v y)) = ⊥
  LikeStep (some (exits n t)) (some (exits m y)) = (n ≡ m) × Q t y

  pick_like_step : (b : Bool) (o p o' p' : Option StepResult) → LikeStep o o' → LikeStep p p' → LikeStep (pick b o p) (pick b o' p')
  pick_like_step true o p o' p' h k = h
  pick_like_step false o p o' p' h k = k

  opt_like_step : {A : Type 0} (m : Option A) (o o' : Option StepResult) (f g : A → Option StepResult) → LikeStep o o'
      → ((a : A) → LikeStep (f a) (g a)) → LikeStep (opt m o f) (opt m o' g)
  opt_like_step none o o' f g h k = h
  opt_like_step (some a) o o' f g h k = k a

  goes_to_like_step : (t y : System) (w v : Process) (a b : Control) (j l : List Frame) → LikeControl ρ false a b → LikeFrames ρ false j l
      → ρ false w.stdin v.stdin → ρ false w.stdout v.stdout → v.variables ≡ w.variables → v.functions ≡ w.functions
      → v.arguments ≡ w.arguments → v.status ≡ w.status → v.jobs ≡ w.jobs → Q t y → LikeStep (some (goes_to t w a j)) (some (goes_to y v b l))
  goes_to_like_step t y w v a b j l hc hk hi ho e1 e2 e3 e4 e5 f = inl (
    record {
      control = hc;
      frames = hk;
      stdin = hi;
      stdout = ho;
      variables = e1;
      functions = e2;
      arguments = e3;
      status = e4;
      jobs = e5;
    },
    f,
  )

  ruleset step-rules = (
    pick_like_step,
    opt_like_step,
    goes_to_like_step,
    l_builtin,
    l_print,
    l_done,
    l_head,
    l_wc,
    l_grep,
    l_yes,
    l_read,
    l_seq,
    l_cat,
    l_cat_on,
    l_status,
    l_words,
  )

  weaken_frames : (k j : List Frame) → LikeFrames ρ false k j → LikeFrames ρ true k j
  weaken_frames k j l_nil = l_nil
  weaken_frames k j (l_rest h) = l_rest (weaken_frames _ _ h)
  weaken_frames k j (l_joined h) = l_joined (weaken_frames _ _ h)
  weaken_frames k j (l_not h) = l_not (weaken_frames _ _ h)
  weaken_frames k j (l_if h) = l_if (weaken_frames _ _ h)
  weaken_frames k j (l_condition h) = l_condition (weaken_frames _ _ h)
  weaken_frames k j (l_body h) = l_body (weaken_frames _ _ h)
  weaken_frames k j (l_for h) = l_for (weaken_frames _ _ h)
  weaken_frames k j (l_handles a b h) = l_handles (up _ _ a) (up _ _ b) (weaken_frames _ _ h)
  weaken_frames k j (l_arguments h) = l_arguments (weaken_frames _ _ h)

  open_like_step : (t y : System) (q : Handle) (w v : Process) (a b : Control) (j l : List Frame) → Private q → Q t y → LikeControl ρ true a b
      → LikeFrames ρ true j l → ρ true w.stdin v.stdin → ρ true w.stdout v.stdout → v.variables ≡ w.variables
      → v.functions ≡ w.functions → v.arguments ≡ w.arguments → v.status ≡ w.status → v.jobs ≡ w.jobs
      → LikeStep (some (goes_to (open_handle t q) w a j)) (some (goes_to (open_handle y q) v b l))
  open_like_step t y q w v a b j l po f hc hk hi ho e1 e2 e3 e4 e5 = inr (
    record {
      control = hc;
      frames = hk;
      stdin = hi;
      stdout = ho;
      variables = e1;
      functions = e2;
      arguments = e3;
      status = e4;
      jobs = e5;
    },
    oq t y q po f,
  )

  ruleset open-rules = (step-rules, open_like_step, weaken_frames)

  read_like : (s x : System) (d e : ℕ) (f g : System → ℕ → Option StepResult) (z z' : Option StepResult)
      → LikeRead s x (read_byte s d) (read_byte x e) → ((t y : System) (b : ℕ) → Q t y → LikeStep (f t b) (g y b)) → (Q s x → LikeStep z z')
      → LikeStep (read_or s d f z) (read_or x e g z')
  read_like s x d e f g z z' h k l = by (read_byte s d) (read_byte x e) h refl refl
    where
      by : (a b : ReadByte) → LikeRead s x a b → read_byte s d ≡ a → read_byte x e ≡ b → LikeStep (read_or s d f z) (read_or x e g z')
      by (got b t) (got c y) h p q = rw (p, q) (subst (λ n. LikeStep (f t b) (g y n)) h.0 (k t y b h.1))
      by (got b t) at_end h p q = absurd h
      by (got b t) must_wait h p q = absurd h
      by at_end (got c y) h p q = absurd h
      by at_end at_end h p q = rw (p, q) (l h)
      by at_end must_wait h p q = absurd h
      by must_wait (got c y) h p q = absurd h
      by must_wait at_end h p q = absurd h
      by must_wait must_wait h p q = rw (p, q) tt

  print_like : (s x : System) (w : Process) (b : ℕ) (bs : List ℕ) (u v : Builtin) (p : ℕ) (c : Control) (k : List Frame) (i o : ℕ)
      → LikeFrames ρ false w.frames k → ρ false w.stdin i → ρ false w.stdout o → LikeBuiltin ρ false u v
      → LikeWrite s x (write_byte s w.stdout b) (write_byte x o b) → LikeStep (print_byte s w (b ∷ bs) u)
      (print_byte x (twin ρ w p c k i o) (b ∷ bs) v)
  print_like s x w b bs u v p c k i o hk hi ho l h = by (write_byte s w.stdout b) (write_byte x o b) h refl refl
    where
      by : (g j : WriteByte) → LikeWrite s x g j → write_byte s w.stdout b ≡ g → write_byte x o b ≡ j
          → LikeStep (print_byte s w (b ∷ bs) u) (print_byte x (twin ρ w p c k i o) (b ∷ bs) v)
      by (wrote t) (wrote y) h q r = rw (q, r) (search step-rules)
      by (wrote t) pipe_full h q r = absurd h
      by (wrote t) no_reader h q r = absurd h
      by pipe_full (wrote y) h q r = absurd h
      by pipe_full pipe_full h q r = rw (q, r) tt
      by pipe_full no_reader h q r = absurd h
      by no_reader (wrote y) h q r = absurd h
      by no_reader pipe_full h q r = absurd h
      by no_reader no_reader h q r = rw (q, r) (refl, h)

  cat_next_like : (s x : System) (w : Process) (xs : List Name) (p : ℕ) (c : Control) (k : List Frame) (i o : ℕ) → Q s x
      → LikeFrames ρ false w.frames k → ρ false w.stdin i → ρ false w.stdout o
      → LikeStep (cat_next s w xs) (cat_next x (twin ρ w p c k i o) xs)
  cat_next_like s x w [] p c k i o f hk hi ho = search step-rules
  cat_next_like s x w (a ∷ xs) p c k i o f hk hi ho = subst (λ fs₁. LikeStep (cat_next s w (a ∷ xs))
      (opt (find_file fs₁ a) (builtin_at x (twin ρ w p c k i o) (b_done 1)) (λ b. builtin_at (open_handle x (file_read a 0)) (twin ρ w p c k i o)
      (b_cat xs (some (length x.handles)))))) (qf s x f) (search (open-rules, up, fr) depth 7)

  grep_last_like : (s x : System) (w : Process) (q l : List ℕ) (b : Bool) (p : ℕ) (c : Control) (k : List Frame) (i o : ℕ) → Q s x
      → LikeFrames ρ false w.frames k → ρ false w.stdin i → ρ false w.stdout o
      → LikeStep (grep_last s w q l b) (grep_last x (twin ρ w p c k i o) q l b)
  grep_last_like s x w q [] b p c k i o f hk hi ho = search step-rules
  grep_last_like s x w q (a ∷ l) b p c k i o f hk hi ho = search step-rules depth 7

  abbrev pub IoBuiltin : (s x : System) (w : Process) (i o : ℕ) (u v : Builtin) → LikeBuiltin ρ false u v → Type 0
  IoBuiltin s x w i o u v l_done = Q s x
  IoBuiltin s x w i o u v (l_print {bs = []} h) = Q s x
  IoBuiltin s x w i o u v (l_print {bs = b ∷ bs} h) = LikeWrite s x (write_byte s w.stdout b) (write_byte x o b)
  IoBuiltin s x w i o u v l_cat = Q s x
  IoBuiltin s x w i o u v (l_cat_on {d = d} {e = e} h) = LikeRead s x (read_byte s d) (read_byte x e)
  IoBuiltin s x w i o u v (l_head {n = zero}) = Q s x
  IoBuiltin s x w i o u v (l_head {n = suc n}) = LikeRead s x (read_byte s w.stdin) (read_byte x i)
  IoBuiltin s x w i o u v l_wc = LikeRead s x (read_byte s w.stdin) (read_byte x i)
  IoBuiltin s x w i o u v l_grep = LikeRead s x (read_byte s w.stdin) (read_byte x i)
  IoBuiltin s x w i o u v l_seq = Q s x
  IoBuiltin s x w i o u v l_yes = Q s x
  IoBuiltin s x w i o u v l_read = LikeRead s x (read_byte s w.stdin) (read_byte x i)

  builtin_like : (s x : System) (w : Process) (u v : Builtin) (p : ℕ) (c : Control) (k : List Frame) (i o : ℕ) → LikeFrames ρ false w.frames k
      → ρ false w.stdin i → ρ false w.stdout o → (l : LikeBuiltin ρ false u v) → IoBuiltin s x w i o u v l
      → LikeStep (step_builtin s w u) (step_builtin x (twin ρ w p c k i o) v)
  builtin_like s x w u v p c k i o hk hi ho l_done h = search step-rules
  builtin_like s x w u v p c k i o hk hi ho (l_print {bs = []} l) h = search step-rules
  builtin_like s x w u v p c k i o hk hi ho (l_print {bs = b ∷ bs} l) h = print_like s x w b bs _ _ p c k i o hk hi ho l h
  builtin_like s x w u v p c k i o hk hi ho (l_cat {xs = xs}) h = cat_next_like s x w xs p c k i o h hk hi ho
  builtin_like s x w u v p c k i o hk hi ho (l_cat_on l) h = read_like s x _ _ _ _ _ _ h (search step-rules depth 8) (search step-rules)
  builtin_like s x w u v p c k i o hk hi ho (l_head {n = zero}) h = search step-rules
  builtin_like s x w u v p c k i o hk hi ho (l_head {n = suc n}) h = read_like s x _ _ _ _ _ _ h (search step-rules depth 8) (search step-rules)
  builtin_like s x w u v p c k i o hk hi ho l_wc h = read_like s x _ _ _ _ _ _ h (search step-rules depth 8) (search step-rules depth 8)
  builtin_like s x w u v p c k i o hk hi ho (l_grep {p = q} {l = l} {b = b}) h = read_like s x _ _ _ _ _ _ h (search step-rules depth 8)
      (λ f. grep_last_like s x w q l b p c k i o f hk hi ho)
  builtin_like s x w u v p c k i o hk hi ho l_seq h = search step-rules depth 8
  builtin_like s x w u v p c k i o hk hi ho l_yes h = search step-rules depth 8
  builtin_like s x w u v p c k i o hk hi ho l_read h = read_like s x _ _ _ _ _ _ h (search step-rules depth 8) (search step-rules depth 8)

  of_result : (s x : System) (a b : StepResult) → LikeResult s x a b → LikeStep (some a) (some b)
  of_result s x (continues w t) (continues v y) h = inl (h.0, h.1)
  of_result s x (continues w t) (exits m y) h = absurd h
  of_result s x (exits n t) (continues v y) h = absurd h
  of_result s x (exits n t) (exits m y) h = (h.0, h.1)

  opt_some : {A : Type 0} (m : Option A) (o : StepResult) (g : A → StepResult) → some (opt m o g) ≡ opt m (some o) (λ a. some (g a))
  opt_some none o g = refl
  opt_some (some a) o g = refl

  apply_like : (s x : System) (w : Process) (n : RedirectKind) (a : List ℕ) (ts : Redirects) (t : AfterRedirects) (p : ℕ) (c : Control)
      (k : List Frame) (i o : ℕ) → Q s x → LikeFrames ρ false w.frames k → ρ false w.stdin i → ρ false w.stdout o
      → LikeStep (some (apply_redirect s w n a ts t)) (some (apply_redirect x (twin ρ w p c k i o) n a ts t))
  apply_like s x w input a ts t p c k i o f hk hi ho = subst (λ fs₁. LikeStep (some (apply_redirect s w input a ts t))
      (some (opt (find_file fs₁ a) (completes x (twin ρ w p c k i o) 1) (λ b. goes_to (open_handle x (file_read a 0))
      (with_io (twin ρ w p c k i o) (length x.handles) o) (at_redirects ts t) k)))) (qf s x f)
      (simp opt_some (search (open-rules, l_redirects, up, fr) depth 9 fits 3000))
  apply_like s x w output a ts t p c k i o f hk hi ho = subst (λ fs₁. LikeStep (some (apply_redirect s w output a ts t))
      (some (goes_to (open_handle (with_files x (set_file fs₁ a [])) (file_append a)) (with_io (twin ρ w p c k i o) i (length x.handles))
      (at_redirects ts t) k))) (qf s x f) (search (open-rules, l_redirects, up, fr, cf) depth 9 fits 3000)
  apply_like s x w append a ts t p c k i o f hk hi ho = subst (λ fs₁. LikeStep (some (apply_redirect s w append a ts t))
      (some (goes_to (open_handle (with_files x (set_file fs₁ a (opt (find_file fs₁ a) [] (λ b. b)))) (file_append a))
      (with_io (twin ρ w p c k i o) i (length x.handles)) (at_redirects ts t) k))) (qf s x f)
      (search (open-rules, l_redirects, up, fr, cf) depth 9 fits 3000)
  apply_like s x w here a ts t p c k i o f hk hi ho = search (open-rules, l_redirects, up, fr) depth 9 fits 3000

  expanded_step : (s x : System) (w : Process) (fs : List (List QuotedByte)) (y : Purpose) (p : ℕ) (c : Control) (k : List Frame) (i o : ℕ) → Q s x
      → LikeFrames ρ false w.frames k → ρ false w.stdin i → ρ false w.stdout o
      → LikeStep (some (expanded s w fs y)) (some (expanded x (twin ρ w p c k i o) fs y))
  expanded_step s x w fs (to_assign a ss ws ts) p c k i o f hk hi ho = of_result s x (expanded s w fs (to_assign a ss ws ts))
      (expanded x (twin ρ w p c k i o) fs (to_assign a ss ws ts)) (expanded_like s x w fs (to_assign a ss ws ts) p c k i o f hk hi ho tt)
  expanded_step s x w fs (to_invoke ts) p c k i o f hk hi ho = of_result s x (expanded s w fs (to_invoke ts))
      (expanded x (twin ρ w p c k i o) fs (to_invoke ts)) (expanded_like s x w fs (to_invoke ts) p c k i o f hk hi ho tt)
  expanded_step s x w fs (to_redirect m ts e) p c k i o f hk hi ho = apply_like s x w m (first_bytes fs) ts e p c k i o f hk hi ho
  expanded_step s x w fs (to_loop a l) p c k i o f hk hi ho = of_result s x (expanded s w fs (to_loop a l))
      (expanded x (twin ρ w p c k i o) fs (to_loop a l)) (expanded_like s x w fs (to_loop a l) p c k i o f hk hi ho tt)
  expanded_step s x w fs (to_select is) p c k i o f hk hi ho = of_result s x (expanded s w fs (to_select is))
      (expanded x (twin ρ w p c k i o) fs (to_select is)) (expanded_like s x w fs (to_select is) p c k i o f hk hi ho tt)
  expanded_step s x w fs (to_match a l is) p c k i o f hk hi ho = of_result s x (expanded s w fs (to_match a l is))
      (expanded x (twin ρ w p c k i o) fs (to_match a l is)) (expanded_like s x w fs (to_match a l is) p c k i o f hk hi ho tt)

  next_word_step : (s x : System) (w : Process) (a : Expansion) (vs : Words) (y : Purpose) (p : ℕ) (c : Control) (k : List Frame) (i o : ℕ) → Q s x
      → LikeFrames ρ false w.frames k → ρ false w.stdin i → ρ false w.stdout o
      → LikeStep (some (next_word s w a vs y)) (some (next_word x (twin ρ w p c k i o) a vs y))
  next_word_step s x w a no_words y p c k i o f hk hi ho = expanded_step s x w (close_word a.current a.complete) y p c k i o f hk hi ho
  next_word_step s x w a (and_word v vs) y p c k i o f hk hi ho = search (step-rules, l_words)

  expansion_step : (s x : System) (w : Process) (a : Expansion) (v : Word) (y : Purpose) (p : ℕ) (c : Control) (k : List Frame) (i o : ℕ) → Q s x
      → LikeFrames ρ false w.frames k → ρ false w.stdin i → ρ false w.stdout o → NoSubstitution v
      → LikeStep (some (step_expansion s w a v y)) (some (step_expansion x (twin ρ w p c k i o) a v y))
  expansion_step s x w a no_parts y p c k i o f hk hi ho g = next_word_step s x w a a.words y p c k i o f hk hi ho
  expansion_step s x w a (and_part (literal q bs) r) y p c k i o f hk hi ho g = search step-rules
  expansion_step s x w a (and_part (parameter q m) r) y p c k i o f hk hi ho g = search step-rules
  expansion_step s x w a (and_part (substitution q l) r) y p c k i o f hk hi ho g = absurd g

  -- what is read and written has the same answer
  abbrev pub IoControl : (s x : System) (w : Process) (i o : ℕ) (d e : Control) → LikeControl ρ false d e → Type 0
  IoControl s x w i o d e l_list = Q s x
  IoControl s x w i o d e l_and_or = Q s x
  IoControl s x w i o d e l_pipeline = Q s x
  IoControl s x w i o d e l_command = Q s x
  IoControl s x w i o d e l_words = Q s x
  IoControl s x w i o d e l_redirects = Q s x
  IoControl s x w i o d e (l_builtin {u = u} {v = v} l) = IoBuiltin s x w i o u v l
  IoControl s x w i o d e l_status = Q s x
  IoControl s x w i o d e l_unwind = Q s x
  IoControl s x w i o d e l_wait = Q s x
  IoControl s x w i o d e (l_capture {d = a} {e = b} h) = LikeRead s x (read_byte s a) (read_byte x b)

  pub step_like : (s x : System) (w : Process) (d e : Control) (p : ℕ) (c : Control) (k : List Frame) (i o : ℕ) → LikeFrames ρ false w.frames k
      → ρ false w.stdin i → ρ false w.stdout o → (l : LikeControl ρ false d e) → Sequential d → IoControl s x w i o d e l
      → LikeStep (step_control s w d) (step_control x (twin ρ w p c k i o) e)
  step_like s x w d e p c k i o hk hi ho (l_list {l = m}) q h = of_result s x (step_list s w m) (step_list x (twin ρ w p c k i o) m) (list_like s x w m p c k i o h hk hi ho q)
  step_like s x w d e p c k i o hk hi ho (l_and_or {a = a}) q h = of_result s x (step_and_or s w a) (step_and_or x (twin ρ w p c k i o) a)
      (and_or_like s x w a p c k i o h hk hi ho)
  step_like s x w d e p c k i o hk hi ho (l_pipeline {n = n} {p = single m}) q h = of_result s x (step_pipeline s w n (single m))
      (step_pipeline x (twin ρ w p c k i o) n (single m)) (pipeline_like s x w n m p c k i o h hk hi ho)
  step_like s x w d e p c k i o hk hi ho (l_pipeline {n = n} {p = piped m r}) q h = absurd q
  step_like s x w d e p c k i o hk hi ho (l_command {c = m}) q h = of_result s x (step_command s w m) (step_command x (twin ρ w p c k i o) m)
      (command_like s x w m p c k i o h hk hi ho q)
  step_like s x w d e p c k i o hk hi ho (l_words {x = a} {y = y}) q h = expansion_step s x w a a.parts y p c k i o h hk hi ho q
  step_like s x w d e p c k i o hk hi ho (l_redirects {ts = ts} {t = t}) q h = of_result s x (step_redirects s w ts t)
      (step_redirects x (twin ρ w p c k i o) ts t) (redirects_like s x w ts t p c k i o h hk hi ho)
  step_like s x w d e p c k i o hk hi ho (l_builtin {u = u} {v = v} l) q h = builtin_like s x w u v p c k i o hk hi ho l h
  step_like s x w d e p c k i o hk hi ho (l_status {n = n}) q h = of_result s x (step_status s (with_status w n) n w.frames)
      (step_status x (with_status (twin ρ w p c k i o) n) n k) (status_like s x (with_status w n) n w.frames k p c k i o h hk hi ho)
  step_like s x w d e p c k i o hk hi ho (l_unwind {t = t} {n = n}) q h = of_result s x (step_unwind s w t n w.frames)
      (step_unwind x (twin ρ w p c k i o) t n k) (unwind_like s x w t n w.frames k p c k i o h hk hi ho)
  step_like s x w d e p c k i o hk hi ho (l_wait {ps = []}) q h = search step-rules
  step_like s x w d e p c k i o hk hi ho (l_wait {ps = r ∷ ps}) q h = absurd q
  step_like s x w d e p c k i o hk hi ho (l_capture g) q h = read_like s x _ _ _ _ _ _ h (search (step-rules, l_capture)) (search step-rules)
