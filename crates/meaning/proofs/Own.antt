-- A process's move leaves every other process as it was.
use mathlib.Core.Path.{◌≡◌, refl, sym, ◌∙◌, ap}
use mathlib.Core.Bool.{Bool, true, false}
use mathlib.Core.List.{List, [], ◌∷◌, ◌++◌}
use mathlib.Core.Option.{Option, some, none}
use Prim.Native.Nat.{ℕ, zero, suc}
use native.Mathlib.Omega.{arith}
use lib.ListN.{length}
use lib.Dec.{eqb, ltb}
use Rattle.syntax.specs.Base.{pick, opt, on_some, nth, put, Name}
use Rattle.syntax.specs.Tree.{literal, parameter, substitution, Word, no_parts, and_part, Words, no_words, and_word, Assignments, no_assignments, assign, RedirectKind, input, output, append, here, Redirects, no_redirects, redirect, Command, simple, group, subshell, if, while, for, case, function, ElsePart, no_else, else, Arms, no_arms, arm, Pipeline, single, piped, AndOr, first, joined, CommandList, end, next}
use Rattle.meaning.specs.System.{QuotedByte, Handle, file_read, file_append, pipe_read, pipe_write, host_input, host_paper, here_text, Builtin, b_done, b_print, b_cat, b_head, b_wc, b_grep, b_seq, b_yes, b_read, Expansion, AfterRedirects, then_invoke, then_command, Purpose, to_assign, to_invoke, to_redirect, to_loop, to_select, to_match, Unwind, break, continue, return, exit, Control, at_list, at_and_or, at_pipeline, at_command, at_words, at_redirects, at_builtin, at_status, at_unwind, at_wait, at_capture, Frame, f_list, f_and_or, f_not, f_if, f_condition, f_body, f_for, f_handles, f_arguments, Process, System, with_files, remove_file, ReadByte, got, at_end, must_wait, read_byte, read_input, read_text, read_handle, read_pipe, WriteByte, wrote, pipe_full, no_reader, write_byte, write_handle, write_pipe, held, writes_pipe, reads_pipe, find_file, with_handles, find_process, replace, without, exit_status}
use Rattle.meaning.specs.Words.{first_bytes, close_word}
use Rattle.meaning.specs.Step.{with_status, with_variables, StepResult, continues, exits, spawn, new_pipe, spawn_pipeline, start_cat, start_seq, remove_files, run_builtin, invoke, print_byte, read_or, cat_next, grep_last, step_builtin, apply_redirect, step_assignments, step_arms, step_for, expanded, next_word, step_expansion, step_redirects, redirected, step_command, step_pipeline, step_and_or, step_list, step_else, step_status, step_unwind, step_wait, step_control, step, settle}
use Rattle.meaning.specs.Statements.{Isolated}

abbrev pub Kept : List Process → List Process → Type 0
Kept ws vs = (q : ℕ) (x : Process) → find_process ws q ≡ some x → find_process vs q ≡ some x

abbrev pub Keeps : System → Process → StepResult → Type 0
Keeps s w (continues v t) = (v.pid ≡ w.pid) × Kept s.processes t.processes
Keeps s w (exits n t) = Kept s.processes t.processes

abbrev pub Keeps? : System → Process → Option StepResult → Type 0
Keeps? s w none = Unit {0}
Keeps? s w (some o) = Keeps s w o

abbrev AsIs : System → System → Type 0
AsIs s t = t.processes ≡ s.processes

kept : (ws vs : List Process) → vs ≡ ws → Kept ws vs
kept ws vs e q x h = ap (λ us. find_process us q) e ∙ h

pick_keeps : (s : System) (w : Process) (b : Bool) (x y : StepResult) → Keeps s w x → Keeps s w y → Keeps s w (pick b x y)
pick_keeps s w true x y h k = h
pick_keeps s w false x y h k = k

opt_keeps : {A : Type 0} (s : System) (w : Process) (o : Option A) (x : StepResult) (f : A → StepResult) → Keeps s w x → ((a : A) → Keeps s w (f a)) → Keeps s w (opt o x f)
opt_keeps s w none x f h k = h
opt_keeps s w (some a) x f h k = k a

pick_keeps? : (s : System) (w : Process) (b : Bool) (x y : Option StepResult) → Keeps? s w x → Keeps? s w y → Keeps? s w (pick b x y)
pick_keeps? s w true x y h k = h
pick_keeps? s w false x y h k = k

opt_keeps? : {A : Type 0} (s : System) (w : Process) (o : Option A) (x : Option StepResult) (f : A → Option StepResult) → Keeps? s w x → ((a : A) → Keeps? s w (f a)) → Keeps? s w (opt o x f)
opt_keeps? s w none x f h k = h
opt_keeps? s w (some a) x f h k = k a

ruleset walk = (pick_keeps, opt_keeps, pick_keeps?, opt_keeps?, kept)

-- commands by their names
cat_keeps : (s : System) (w : Process) (as₁ : List (List ℕ)) → Keeps s w (start_cat s w as₁)
cat_keeps s w [] = search walk
cat_keeps s w (a ∷ as₁) = search walk

seq_keeps : (s : System) (w : Process) (as₁ : List (List ℕ)) → Keeps s w (start_seq s w as₁)
seq_keeps s w [] = search walk
seq_keeps s w (a ∷ []) = search walk
seq_keeps s w (a ∷ b ∷ []) = search walk
seq_keeps s w (a ∷ b ∷ c ∷ as₁) = search walk

pub removed_as_is : (s : System) (as₁ : List (List ℕ)) → (remove_files s as₁).processes ≡ s.processes
removed_as_is s [] = refl
removed_as_is s (a ∷ as₁) = removed_as_is (with_files s (remove_file s.files a)) as₁

run_builtin_keeps : (s : System) (w : Process) (x : Name) (as₁ : List (List ℕ)) → Keeps s w (run_builtin s w x as₁)
run_builtin_keeps s w x as₁ = search (walk, cat_keeps, seq_keeps, removed_as_is) depth 30 fits 3000

invoke_keeps : (s : System) (w : Process) (as₁ : List (List ℕ)) → Keeps s w (invoke s w as₁)
invoke_keeps s w [] = search walk
invoke_keeps s w (a ∷ as₁) = search (walk, run_builtin_keeps)

-- one more at the end
end_kept : (ws vs : List Process) → Kept ws (ws ++ vs)
end_kept [] vs q x e = cc
end_kept (w ∷ ws) vs q x e = at (eqb w.pid q) (end_kept ws vs q x) e
  where
    at : (b : Bool) → (find_process ws q ≡ some x → find_process (ws ++ vs) q ≡ some x) → pick b (some w) (find_process ws q) ≡ some x → pick b (some w) (find_process (ws ++ vs) q) ≡ some x
    at true k h = h
    at false k h = k h

piped_kept : (s : System) (w : Process) (p : Pipeline) (i : ℕ) → Kept s.processes (spawn_pipeline s w p i).processes
piped_kept s w (single c) i q x e = end_kept s.processes _ q x e
piped_kept s w (piped c p) i q x e = piped_kept (spawn (new_pipe s) w (at_command c) i (suc (length s.handles))) w p (length s.handles) q x (end_kept s.processes _ q x e)

-- reading and writing
abbrev pub ReadsAsIs : System → ReadByte → Type 0
ReadsAsIs s (got b t) = t.processes ≡ s.processes
ReadsAsIs s at_end = Unit {0}
ReadsAsIs s must_wait = Unit {0}

pub read_as_is : (s : System) (d : ℕ) → ReadsAsIs s (read_byte s d)
read_as_is s d = by (nth s.handles d)
  where
    text : (bs : List ℕ) → ReadsAsIs s (read_text s d bs)
    text [] = tt
    text (b ∷ bs) = refl

    input1 : (bs : List ℕ) → ReadsAsIs s (read_input s bs)
    input1 [] = tt
    input1 (b ∷ bs) = refl

    from : (p : ℕ) (bs : List ℕ) → ReadsAsIs s (read_pipe s p bs)
    from p [] = waits (held s.handles (writes_pipe p) s.processes)
      where
        waits : (b : Bool) → ReadsAsIs s (pick b must_wait at_end)
        waits true = tt
        waits false = tt
    from p (b ∷ bs) = refl

    in_file : (x : Name) (n : ℕ) (o : Option ℕ) → ReadsAsIs s (opt o at_end (λ b. got b (with_handles s (put s.handles d (file_read x (suc n))))))
    in_file x n none = tt
    in_file x n (some b) = refl

    in_pipe : (p : ℕ) (o : Option (List ℕ)) → ReadsAsIs s (opt o at_end (read_pipe s p))
    in_pipe p none = tt
    in_pipe p (some bs) = from p bs

    by_open : (o : Handle) → ReadsAsIs s (read_handle s d o)
    by_open (file_read x n) = in_file x n (on_some (find_file s.files x) (λ bs. nth bs n))
    by_open (file_append x) = tt
    by_open (pipe_read p) = in_pipe p (nth s.pipes p)
    by_open (pipe_write p) = tt
    by_open host_input = input1 s.input
    by_open host_paper = tt
    by_open (here_text bs) = text bs

    by : (o : Option Handle) → ReadsAsIs s (opt o at_end (read_handle s d))
    by none = tt
    by (some o) = by_open o

abbrev pub WritesAsIs : System → WriteByte → Type 0
WritesAsIs s (wrote t) = t.processes ≡ s.processes
WritesAsIs s pipe_full = Unit {0}
WritesAsIs s no_reader = Unit {0}

pub write_as_is : (s : System) (d b : ℕ) → WritesAsIs s (write_byte s d b)
write_as_is s d b = by (nth s.handles d)
  where
    room : (t : Bool) (u : System) → u.processes ≡ s.processes → WritesAsIs s (pick t (wrote u) pipe_full)
    room true u e = e
    room false u e = tt

    can_read : (t : Bool) (g : WriteByte) → WritesAsIs s g → WritesAsIs s (pick t g no_reader)
    can_read true g h = h
    can_read false g h = tt

    in_pipe : (p : ℕ) (o : Option (List ℕ)) → WritesAsIs s (opt o no_reader (write_pipe s p b))
    in_pipe p none = tt
    in_pipe p (some bs) = can_read (held s.handles (reads_pipe p) s.processes) _ (room (ltb (length bs) 512) _ refl)

    by_open : (o : Handle) → WritesAsIs s (write_handle s b o)
    by_open (file_read x n) = refl
    by_open (file_append x) = refl
    by_open (pipe_read p) = refl
    by_open (pipe_write p) = in_pipe p (nth s.pipes p)
    by_open host_input = refl
    by_open host_paper = refl
    by_open (here_text bs) = refl

    by : (o : Option Handle) → WritesAsIs s (opt o no_reader (write_handle s b))
    by none = tt
    by (some o) = by_open o

read_keeps : (s : System) (w : Process) (d : ℕ) (f : System → ℕ → Option StepResult) (z : Option StepResult) → ((t : System) (b : ℕ) → t.processes ≡ s.processes → Keeps? s w (f t b)) → Keeps? s w z → Keeps? s w (read_or s d f z)
read_keeps s w d f z k h = by (read_byte s d) (read_as_is s d) refl
  where
    by : (g : ReadByte) → ReadsAsIs s g → read_byte s d ≡ g → Keeps? s w (read_or s d f z)
    by (got b t) a e = rw e (k t b a)
    by at_end a e = rw e h
    by must_wait a e = rw e tt

print_keeps : (s : System) (w : Process) (bs : List ℕ) (u : Builtin) → Keeps? s w (print_byte s w bs u)
print_keeps s w [] u = search walk
print_keeps s w (b ∷ bs) u = by (write_byte s w.stdout b) (write_as_is s w.stdout b) refl
  where
    by : (g : WriteByte) → WritesAsIs s g → write_byte s w.stdout b ≡ g → Keeps? s w (print_byte s w (b ∷ bs) u)
    by (wrote t) a e = rw e (search walk)
    by pipe_full a e = rw e tt
    by no_reader a e = rw e (search walk)

-- every kind of step
cat_next_keeps : (s : System) (w : Process) (xs : List Name) → Keeps? s w (cat_next s w xs)
cat_next_keeps s w [] = search walk
cat_next_keeps s w (x ∷ xs) = search walk

grep_last_keeps : (s : System) (w : Process) (p l : List ℕ) (f : Bool) → Keeps? s w (grep_last s w p l f)
grep_last_keeps s w p [] f = search walk
grep_last_keeps s w p (c ∷ cs) f = search walk

builtin_keeps : (s : System) (w : Process) (u : Builtin) → Keeps? s w (step_builtin s w u)
builtin_keeps s w (b_done n) = search walk
builtin_keeps s w (b_print bs u) = print_keeps s w bs u
builtin_keeps s w (b_cat xs none) = cat_next_keeps s w xs
builtin_keeps s w (b_cat xs (some d)) = read_keeps s w d _ _ (search walk) (search walk)
builtin_keeps s w (b_head zero) = search walk
builtin_keeps s w (b_head (suc n)) = read_keeps s w _ _ _ (search walk) (search walk)
builtin_keeps s w (b_wc l n) = read_keeps s w _ _ _ (search walk) (search walk)
builtin_keeps s w (b_grep p l f) = read_keeps s w _ _ _ (search walk) (grep_last_keeps s w p l f)
builtin_keeps s w (b_seq a b) = search walk
builtin_keeps s w (b_yes l) = search walk
builtin_keeps s w (b_read x l) = read_keeps s w _ _ _ (search walk) (search walk)

assignments_keeps : (s : System) (w v : Process) (ss : Assignments) (ws : Words) (ts : Redirects) → v.pid ≡ w.pid → Keeps s w (step_assignments s v ss ws ts)
assignments_keeps s w v no_assignments ws ts e = search walk
assignments_keeps s w v (assign x y ss) ws ts e = search walk

arms_keeps : (s : System) (w : Process) (x : List ℕ) (is : Arms) → Keeps s w (step_arms s w x is)
arms_keeps s w x no_arms = search walk
arms_keeps s w x (arm p l is) = search walk

for_keeps : (s : System) (w : Process) (x : Name) (as₁ : List (List ℕ)) (l : CommandList) → Keeps s w (step_for s w x as₁ l)
for_keeps s w x [] l = search walk
for_keeps s w x (a ∷ as₁) l = search walk

apply_keeps : (s : System) (w : Process) (k : RedirectKind) (x : List ℕ) (ts : Redirects) (t : AfterRedirects) → Keeps s w (apply_redirect s w k x ts t)
apply_keeps s w input x ts t = search walk
apply_keeps s w output x ts t = search walk
apply_keeps s w append x ts t = search walk
apply_keeps s w here x ts t = search walk

expanded_keeps : (s : System) (w : Process) (fs : List (List QuotedByte)) (y : Purpose) → Keeps s w (expanded s w fs y)
expanded_keeps s w fs (to_assign x ss ws ts) = assignments_keeps s w (with_variables w _) ss ws ts refl
expanded_keeps s w fs (to_invoke ts) = search walk
expanded_keeps s w fs (to_redirect k ts t) = apply_keeps s w k (first_bytes fs) ts t
expanded_keeps s w fs (to_loop x l) = for_keeps s w x _ l
expanded_keeps s w fs (to_select is) = arms_keeps s w _ is
expanded_keeps s w fs (to_match x l is) = search (walk, arms_keeps)

next_word_keeps : (s : System) (w : Process) (x : Expansion) (vs : Words) (y : Purpose) → Keeps s w (next_word s w x vs y)
next_word_keeps s w x no_words y = expanded_keeps s w (close_word x.current x.complete) y
next_word_keeps s w x (and_word v vs) y = search walk

expansion_keeps : (s : System) (w : Process) (x : Expansion) (v : Word) (y : Purpose) → Keeps s w (step_expansion s w x v y)
expansion_keeps s w x no_parts y = next_word_keeps s w x _ y
expansion_keeps s w x (and_part (literal q bs) r) y = search walk
expansion_keeps s w x (and_part (parameter q n) r) y = search walk
expansion_keeps s w x (and_part (substitution q l) r) y = search (walk, end_kept)

redirects_keeps : (s : System) (w : Process) (ts : Redirects) (t : AfterRedirects) → Keeps s w (step_redirects s w ts t)
redirects_keeps s w no_redirects (then_invoke as₁) = invoke_keeps s w as₁
redirects_keeps s w no_redirects (then_command c) = search walk
redirects_keeps s w (redirect k v ts) t = search walk

first_keeps : (s : System) (w : Process) (ts : Redirects) (c : Command) (o : StepResult) → Keeps s w o → Keeps s w (redirected s w ts c o)
first_keeps s w no_redirects c o h = h
first_keeps s w (redirect k v ts) c o h = search walk

command_keeps : (s : System) (w : Process) (c : Command) → Keeps s w (step_command s w c)
command_keeps s w (simple ss ws ts) = assignments_keeps s w w ss ws ts refl
command_keeps s w (group l ts) = first_keeps s w ts _ _ (search walk)
command_keeps s w (subshell l ts) = first_keeps s w ts _ _ (search (walk, end_kept))
command_keeps s w (if a b c ts) = first_keeps s w ts _ _ (search walk)
command_keeps s w (while a b ts) = first_keeps s w ts _ _ (search walk)
command_keeps s w (for x ws l ts) = first_keeps s w ts _ _ (search walk)
command_keeps s w (case v is ts) = first_keeps s w ts _ _ (search walk)
command_keeps s w (function x l) = search walk

pipeline_keeps : (s : System) (w : Process) (n : Bool) (p : Pipeline) → Keeps s w (step_pipeline s w n p)
pipeline_keeps s w n (single c) = search walk
pipeline_keeps s w n (piped c p) = (refl, piped_kept s w (piped c p) w.stdin)

and_or_keeps : (s : System) (w : Process) (a : AndOr) → Keeps s w (step_and_or s w a)
and_or_keeps s w (first n p) = search walk
and_or_keeps s w (joined a b n p) = search walk

list_keeps : (s : System) (w : Process) (l : CommandList) → Keeps s w (step_list s w l)
list_keeps s w end = search walk
list_keeps s w (next a false l) = search walk
list_keeps s w (next a true l) = search (walk, end_kept)

else_keeps : (s : System) (w v : Process) (l : ElsePart) (k : List Frame) → v.pid ≡ w.pid → Keeps s w (step_else s v l k)
else_keeps s w v no_else k e = search walk
else_keeps s w v (else l) k e = search walk

status_keeps : (s : System) (w : Process) (n : ℕ) (k : List Frame) → Keeps s w (step_status s (with_status w n) n k)
status_keeps s w n [] = search walk
status_keeps s w n (f_list end ∷ k) = search walk
status_keeps s w n (f_list (next a b l) ∷ k) = search walk
status_keeps s w n (f_and_or b m p ∷ k) = search walk
status_keeps s w n (f_not ∷ k) = search walk
status_keeps s w n (f_if a b ∷ k) = search (walk, else_keeps)
status_keeps s w n (f_condition a b ∷ k) = search walk
status_keeps s w n (f_body a b ∷ k) = search walk
status_keeps s w n (f_for x [] l ∷ k) = search walk
status_keeps s w n (f_for x (a ∷ as₁) l ∷ k) = search walk
status_keeps s w n (f_handles i o ∷ k) = search walk
status_keeps s w n (f_arguments as₁ ∷ k) = search walk

unwind_keeps : (s : System) (w : Process) (t : Unwind) (n : ℕ) (k : List Frame) → Keeps s w (step_unwind s w t n k)
unwind_keeps s w t n [] = search walk
unwind_keeps s w t n (f_list l ∷ k) = search walk
unwind_keeps s w t n (f_and_or b m p ∷ k) = search walk
unwind_keeps s w t n (f_not ∷ k) = search walk
unwind_keeps s w t n (f_if a b ∷ k) = search walk
unwind_keeps s w break n (f_condition a b ∷ k) = search walk
unwind_keeps s w continue n (f_condition a b ∷ k) = search walk
unwind_keeps s w return n (f_condition a b ∷ k) = search walk
unwind_keeps s w exit n (f_condition a b ∷ k) = search walk
unwind_keeps s w break n (f_body a b ∷ k) = search walk
unwind_keeps s w continue n (f_body a b ∷ k) = search walk
unwind_keeps s w return n (f_body a b ∷ k) = search walk
unwind_keeps s w exit n (f_body a b ∷ k) = search walk
unwind_keeps s w break n (f_for x as₁ l ∷ k) = search walk
unwind_keeps s w continue n (f_for x as₁ l ∷ k) = search walk
unwind_keeps s w return n (f_for x as₁ l ∷ k) = search walk
unwind_keeps s w exit n (f_for x as₁ l ∷ k) = search walk
unwind_keeps s w t n (f_handles i o ∷ k) = search walk
unwind_keeps s w break n (f_arguments as₁ ∷ k) = search walk
unwind_keeps s w continue n (f_arguments as₁ ∷ k) = search walk
unwind_keeps s w return n (f_arguments as₁ ∷ k) = search walk
unwind_keeps s w exit n (f_arguments as₁ ∷ k) = search walk

wait_keeps : (s : System) (w : Process) (n : ℕ) (ps : List ℕ) → Keeps? s w (step_wait s w n ps)
wait_keeps s w n [] = search walk
wait_keeps s w n (p ∷ ps) = opt_keeps? s w (exit_status s.exited p) none _ tt (λ m. wait_keeps s w m ps)

pub step_keeps : (s : System) (w : Process) (c : Control) → Keeps? s w (step_control s w c)
step_keeps s w (at_list l) = list_keeps s w l
step_keeps s w (at_and_or a) = and_or_keeps s w a
step_keeps s w (at_pipeline n p) = pipeline_keeps s w n p
step_keeps s w (at_command c) = command_keeps s w c
step_keeps s w (at_words x y) = expansion_keeps s w x x.parts y
step_keeps s w (at_redirects ts t) = redirects_keeps s w ts t
step_keeps s w (at_builtin u) = builtin_keeps s w u
step_keeps s w (at_status n) = status_keeps s w n w.frames
step_keeps s w (at_unwind t n) = unwind_keeps s w t n w.frames
step_keeps s w (at_wait ps) = wait_keeps s w 0 ps
step_keeps s w (at_capture d bs q x y) = read_keeps s w d _ _ (search walk) (search walk)

-- another's place in the list
pub other_left : (ws : List Process) (n q : ℕ) → (q ≡ n → ⊥) → find_process (without ws n) q ≡ find_process ws q
other_left [] n q d = refl
other_left (w ∷ ws) n q d = by (eqb w.pid n) refl (other_left ws n q d)
  where
    by : (b : Bool) → eqb w.pid n ≡ b → find_process (without ws n) q ≡ find_process ws q → find_process (pick b ws (w ∷ without ws n)) q ≡ find_process (w ∷ ws) q
    by true e h = grind arith
    by false e h = rw h

pub other_there : (ws : List Process) (n q : ℕ) (v : Process) → (q ≡ n → ⊥) → v.pid ≡ n → find_process (replace ws n v) q ≡ find_process ws q
other_there [] n q v d p = refl
other_there (w ∷ ws) n q v d p = by (eqb w.pid n) refl (other_there ws n q v d p)
  where
    by : (b : Bool) → eqb w.pid n ≡ b → find_process (replace ws n v) q ≡ find_process ws q → find_process (pick b (v ∷ ws) (w ∷ replace ws n v)) q ≡ find_process (w ∷ ws) q
    by true e h = grind arith
    by false e h = rw h

pub found_pid : (ws : List Process) (n : ℕ) (w : Process) → find_process ws n ≡ some w → w.pid ≡ n
found_pid [] n w e = cc
found_pid (v ∷ ws) n w e = by (eqb v.pid n) refl (found_pid ws n w) e
  where
    by : (b : Bool) → eqb v.pid n ≡ b → (find_process ws n ≡ some w → w.pid ≡ n) → pick b (some v) (find_process ws n) ≡ some w → w.pid ≡ n
    by true e h g = grind arith
    by false e h g = h g

pub inside : {A : Type 0} {x y : A} → some x ≡ some y → x ≡ y
inside {x = x} e = ap (λ o. opt o x (λ z. z)) e

pub isolated : Isolated
isolated s u n q w e d f = by (find_process s.processes n) refl e
  where
    out : (v : Process) (o : Option StepResult) → v.pid ≡ n → Keeps? s v o → on_some o (λ o. some (settle v o)) ≡ some u → find_process u.processes q ≡ some w
    out v none p k g = cc
    out v (some (continues x t)) p k g = ap (λ z. find_process z.processes q) (sym (inside g)) ∙ other_there t.processes v.pid q x (λ h. d (h ∙ p)) k.0 ∙ k.1 q w f
    out v (some (exits m t)) p k g = ap (λ z. find_process z.processes q) (sym (inside g)) ∙ other_left t.processes v.pid q (λ h. d (h ∙ p)) ∙ k q w f

    by : (o : Option Process) → find_process s.processes n ≡ o → on_some o (λ w. on_some (step s w) (λ o. some (settle w o))) ≡ some u → find_process u.processes q ≡ some w
    by none p g = cc
    by (some v) p g = out v (step s v) (found_pid s.processes n v p) (step_keeps s v v.control) g
