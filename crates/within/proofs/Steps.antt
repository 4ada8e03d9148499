-- Every step of a process within what the machine has leads to such a process, and makes no other.
use mathlib.Core.Path.{◌≡◌, refl, sym, subst}
use mathlib.Core.Bool.{Bool, true, false}
use mathlib.Core.List.{List, [], ◌∷◌}
use mathlib.Core.Option.{Option, some, none}
use Prim.Native.Nat.{ℕ, zero, suc}
use Rattle.syntax.specs.Base.{pick, opt, Name}
use Rattle.syntax.specs.Tree.{literal, parameter, substitution, Word, no_parts, and_part, Words, no_words, and_word, Assignments, no_assignments, assign, Redirects, no_redirects, redirect, Command, simple, group, subshell, if, while, for, case, function, ElsePart, no_else, else, Pipeline, single, piped, AndOr, first, joined, CommandList, end, next}
use Rattle.meaning.specs.System.{function_body, Builtin, b_done, b_print, b_cat, b_head, b_wc, b_grep, b_seq, b_yes, b_read, Expansion, AfterRedirects, then_invoke, then_command, Purpose, to_assign, to_invoke, to_redirect, to_loop, to_select, to_match, Unwind, break, continue, return, exit, Control, at_list, at_and_or, at_pipeline, at_command, at_words, at_redirects, at_builtin, at_status, at_unwind, at_wait, at_capture, Frame, f_list, f_and_or, f_not, f_if, f_condition, f_body, f_for, f_handles, f_arguments, Process, System, ReadByte, got, at_end, must_wait, read_byte, WriteByte, wrote, pipe_full, no_reader, write_byte, exit_status}
use Rattle.meaning.specs.Step.{with_status, with_arguments, StepResult, continues, exits, goes_to, start_cat, start_seq, run_builtin, invoke, print_byte, read_or, cat_next, grep_last, step_builtin, step_assignments, next_word, step_expansion, step_redirects, step_command, step_pipeline, step_and_or, step_list, step_else, step_status, step_unwind, step_wait, step_control}
use Rattle.meaning.proofs.Own.{ReadsAsIs, read_as_is, WritesAsIs, write_as_is, removed_as_is}
use Rattle.within.proofs.Covered.{CoveredSimple, CoveredCommand, CoveredElse, CoveredPipeline, CoveredAndOr, CoveredList}
use Rattle.within.proofs.Expands.{Runs, Expands, begins, no_words_begin, with_literal, with_next, runs}

-- words are expanded to be invoked, and for nothing else
abbrev pub Invokes : Purpose → Type 0
Invokes (to_assign x ss ws ts) = ⊥
Invokes (to_invoke no_redirects) = Unit {0}
Invokes (to_invoke (redirect k w ts)) = ⊥
Invokes (to_redirect k ts t) = ⊥
Invokes (to_loop x l) = ⊥
Invokes (to_select is) = ⊥
Invokes (to_match x l is) = ⊥

abbrev pub Invoked : Redirects → AfterRedirects → Type 0
Invoked no_redirects (then_invoke as₁) = Runs as₁
Invoked no_redirects (then_command c) = ⊥
Invoked (redirect k w ts) t = ⊥

abbrev pub WithinControl : Control → Type 0
WithinControl (at_list l) = CoveredList l
WithinControl (at_and_or a) = CoveredAndOr a
WithinControl (at_pipeline n p) = CoveredPipeline p
WithinControl (at_command c) = CoveredCommand c
WithinControl (at_words x y) = Invokes y × Expands x.complete x.current x.parts x.words
WithinControl (at_redirects ts t) = Invoked ts t
WithinControl (at_builtin u) = Unit {0}
WithinControl (at_status n) = Unit {0}
WithinControl (at_unwind t n) = Unit {0}
WithinControl (at_wait ps) = Unit {0}
WithinControl (at_capture d bs q x y) = ⊥

abbrev pub WithinFrames : List Frame → Type 0
WithinFrames [] = Unit {0}
WithinFrames (f_list l ∷ k) = CoveredList l × WithinFrames k
WithinFrames (f_and_or b n p ∷ k) = CoveredPipeline p × WithinFrames k
WithinFrames (f_not ∷ k) = WithinFrames k
WithinFrames (f_if a e ∷ k) = CoveredList a × CoveredElse e × WithinFrames k
WithinFrames (f_condition a b ∷ k) = CoveredList a × CoveredList b × WithinFrames k
WithinFrames (f_body a b ∷ k) = CoveredList a × CoveredList b × WithinFrames k
WithinFrames (f_for x as₁ l ∷ k) = ⊥
WithinFrames (f_handles i o ∷ k) = (o ≡ 1) × WithinFrames k
WithinFrames (f_arguments as₁ ∷ k) = ⊥

-- no functions, and the output is the paper
abbrev pub Within : Process → Type 0
Within w = WithinControl w.control × WithinFrames w.frames × (w.functions ≡ []) × (w.stdout ≡ 1)

-- after a step: the same process, and nobody else
abbrev pub Stays : System → Process → StepResult → Type 0
Stays s w (continues v t) = (v.pid ≡ w.pid) × (t.processes ≡ s.processes) × Within v
Stays s w (exits n t) = t.processes ≡ s.processes

abbrev pub Stays? : System → Process → Option StepResult → Type 0
Stays? s w none = Unit {0}
Stays? s w (some o) = Stays s w o

pick_stays : (s : System) (w : Process) (b : Bool) (x y : StepResult) → Stays s w x → Stays s w y → Stays s w (pick b x y)
pick_stays s w true x y h k = h
pick_stays s w false x y h k = k

opt_stays : {A : Type 0} (s : System) (w : Process) (o : Option A) (x : StepResult) (f : A → StepResult) → Stays s w x → ((a : A) → Stays s w (f a)) → Stays s w (opt o x f)
opt_stays s w none x f h k = h
opt_stays s w (some a) x f h k = k a

pick_stays? : (s : System) (w : Process) (b : Bool) (x y : Option StepResult) → Stays? s w x → Stays? s w y → Stays? s w (pick b x y)
pick_stays? s w true x y h k = h
pick_stays? s w false x y h k = k

opt_stays? : {A : Type 0} (s : System) (w : Process) (o : Option A) (x : Option StepResult) (f : A → Option StepResult) → Stays? s w x → ((a : A) → Stays? s w (f a)) → Stays? s w (opt o x f)
opt_stays? s w none x f h k = h
opt_stays? s w (some a) x f h k = k a

ruleset walk = (pick_stays, opt_stays, pick_stays?, opt_stays?)

cat_stays : (s : System) (w : Process) (as₁ : List (List ℕ)) → WithinFrames w.frames → w.functions ≡ [] → w.stdout ≡ 1 → Stays s w (start_cat s w as₁)
cat_stays s w [] k f o = search walk
cat_stays s w (a ∷ as₁) k f o = search walk

seq_stays : (s : System) (w : Process) (as₁ : List (List ℕ)) → WithinFrames w.frames → w.functions ≡ [] → w.stdout ≡ 1 → Stays s w (start_seq s w as₁)
seq_stays s w [] k f o = search walk
seq_stays s w (a ∷ []) k f o = search walk
seq_stays s w (a ∷ b ∷ []) k f o = search walk
seq_stays s w (a ∷ b ∷ c ∷ as₁) k f o = search walk

run_builtin_stays : (s : System) (w : Process) (x : Name) (as₁ : List (List ℕ)) → WithinFrames w.frames → w.functions ≡ [] → w.stdout ≡ 1 → Stays s w (run_builtin s w x as₁)
run_builtin_stays s w x as₁ k f o = search (walk, cat_stays, seq_stays, removed_as_is) depth 30 fits 3000

invoke_stays : (s : System) (w : Process) (as₁ : List (List ℕ)) → WithinFrames w.frames → w.functions ≡ [] → w.stdout ≡ 1 → Stays s w (invoke s w as₁)
invoke_stays s w [] k f o = search walk
invoke_stays s w (a ∷ as₁) k f o = subst (λ fs. Stays s w (opt (function_body fs a) (run_builtin s w a as₁) (λ l. goes_to s (with_arguments w as₁) (at_list l) (f_arguments w.arguments ∷ w.frames)))) (sym f) (run_builtin_stays s w a as₁ k f o)

read_stays : (s : System) (w : Process) (d : ℕ) (f : System → ℕ → Option StepResult) (z : Option StepResult) → ((t : System) (b : ℕ) → t.processes ≡ s.processes → Stays? s w (f t b)) → Stays? s w z → Stays? s w (read_or s d f z)
read_stays s w d f z k h = by (read_byte s d) (read_as_is s d) refl
  where
    by : (g : ReadByte) → ReadsAsIs s g → read_byte s d ≡ g → Stays? s w (read_or s d f z)
    by (got b t) a e = rw e (k t b a)
    by at_end a e = rw e h
    by must_wait a e = rw e tt

print_stays : (s : System) (w : Process) (bs : List ℕ) (u : Builtin) → WithinFrames w.frames → w.functions ≡ [] → w.stdout ≡ 1 → Stays? s w (print_byte s w bs u)
print_stays s w [] u k f o = search walk
print_stays s w (b ∷ bs) u k f o = by (write_byte s w.stdout b) (write_as_is s w.stdout b) refl
  where
    by : (g : WriteByte) → WritesAsIs s g → write_byte s w.stdout b ≡ g → Stays? s w (print_byte s w (b ∷ bs) u)
    by (wrote t) a e = rw e (search walk)
    by pipe_full a e = rw e tt
    by no_reader a e = rw e (search walk)

cat_next_stays : (s : System) (w : Process) (xs : List Name) → WithinFrames w.frames → w.functions ≡ [] → w.stdout ≡ 1 → Stays? s w (cat_next s w xs)
cat_next_stays s w [] k f o = search walk
cat_next_stays s w (x ∷ xs) k f o = search walk

grep_last_stays : (s : System) (w : Process) (p l : List ℕ) (b : Bool) → WithinFrames w.frames → w.functions ≡ [] → w.stdout ≡ 1 → Stays? s w (grep_last s w p l b)
grep_last_stays s w p [] b k f o = search walk
grep_last_stays s w p (c ∷ cs) b k f o = search walk

builtin_stays : (s : System) (w : Process) (u : Builtin) → WithinFrames w.frames → w.functions ≡ [] → w.stdout ≡ 1 → Stays? s w (step_builtin s w u)
builtin_stays s w (b_done n) k f o = search walk
builtin_stays s w (b_print bs u) k f o = print_stays s w bs u k f o
builtin_stays s w (b_cat xs none) k f o = cat_next_stays s w xs k f o
builtin_stays s w (b_cat xs (some d)) k f o = read_stays s w d _ _ (search walk) (search walk)
builtin_stays s w (b_head zero) k f o = search walk
builtin_stays s w (b_head (suc n)) k f o = read_stays s w _ _ _ (search walk) (search walk)
builtin_stays s w (b_wc l n) k f o = read_stays s w _ _ _ (search walk) (search walk)
builtin_stays s w (b_grep p l b) k f o = read_stays s w _ _ _ (search walk) (grep_last_stays s w p l b k f o)
builtin_stays s w (b_seq a b) k f o = search walk
builtin_stays s w (b_yes l) k f o = search walk
builtin_stays s w (b_read x l) k f o = read_stays s w _ _ _ (search walk) (search walk)

assignments_stays : (s : System) (w : Process) (ss : Assignments) (ws : Words) (ts : Redirects) → CoveredSimple ss ws ts → WithinFrames w.frames → w.functions ≡ [] → w.stdout ≡ 1 → Stays s w (step_assignments s w ss ws ts)
assignments_stays s w no_assignments no_words no_redirects h k f o = (refl, refl, ((tt, no_words_begin), k, f, o))
assignments_stays s w no_assignments (and_word v vs) no_redirects h k f o = (refl, refl, ((tt, begins v vs h.0 h.1), k, f, o))
assignments_stays s w no_assignments ws (redirect n v ts) h k f o = absurd h
assignments_stays s w (assign x v ss) ws ts h k f o = absurd h

next_word_stays : (s : System) (w : Process) (x : Expansion) (vs : Words) (y : Purpose) → Invokes y → Expands x.complete x.current no_parts vs → WithinFrames w.frames → w.functions ≡ [] → w.stdout ≡ 1 → Stays s w (next_word s w x vs y)
next_word_stays s w x no_words (to_invoke no_redirects) i h k f o = (refl, refl, (runs s.files x.complete x.current h, (o, k), f, o))
next_word_stays s w x no_words (to_invoke (redirect n v ts)) i h k f o = absurd i
next_word_stays s w x no_words (to_assign n ss ws ts) i h k f o = absurd i
next_word_stays s w x no_words (to_redirect m ts t) i h k f o = absurd i
next_word_stays s w x no_words (to_loop n l) i h k f o = absurd i
next_word_stays s w x no_words (to_select is) i h k f o = absurd i
next_word_stays s w x no_words (to_match n l is) i h k f o = absurd i
next_word_stays s w x (and_word v vs) y i h k f o = (refl, refl, ((i, with_next x.complete x.current v vs h), k, f, o))

expansion_stays : (s : System) (w : Process) (x : Expansion) (v : Word) (y : Purpose) → Invokes y → Expands x.complete x.current v x.words → WithinFrames w.frames → w.functions ≡ [] → w.stdout ≡ 1 → Stays s w (step_expansion s w x v y)
expansion_stays s w x no_parts y i h k f o = next_word_stays s w x x.words y i h k f o
expansion_stays s w x (and_part (literal q bs) r) y i h k f o = (refl, refl, ((i, with_literal x.complete x.current q bs r x.words h), k, f, o))
expansion_stays s w x (and_part (parameter q n) r) y i h k f o = absurd h.parts
expansion_stays s w x (and_part (substitution q l) r) y i h k f o = absurd h.parts

redirects_stays : (s : System) (w : Process) (ts : Redirects) (t : AfterRedirects) → Invoked ts t → WithinFrames w.frames → w.functions ≡ [] → w.stdout ≡ 1 → Stays s w (step_redirects s w ts t)
redirects_stays s w no_redirects (then_invoke as₁) h k f o = invoke_stays s w as₁ k f o
redirects_stays s w no_redirects (then_command c) h k f o = absurd h
redirects_stays s w (redirect n v ts) t h k f o = absurd h

command_stays : (s : System) (w : Process) (c : Command) → CoveredCommand c → WithinFrames w.frames → w.functions ≡ [] → w.stdout ≡ 1 → Stays s w (step_command s w c)
command_stays s w (simple ss ws ts) h k f o = assignments_stays s w ss ws ts h k f o
command_stays s w (group l no_redirects) h k f o = search walk
command_stays s w (group l (redirect n v ts)) h k f o = absurd h.0
command_stays s w (subshell l ts) h k f o = absurd h
command_stays s w (if a b c no_redirects) h k f o = search walk
command_stays s w (if a b c (redirect n v ts)) h k f o = absurd h.0
command_stays s w (while a b no_redirects) h k f o = search walk
command_stays s w (while a b (redirect n v ts)) h k f o = absurd h.0
command_stays s w (for x ws l ts) h k f o = absurd h
command_stays s w (case v is ts) h k f o = absurd h
command_stays s w (function x l) h k f o = absurd h

pipeline_stays : (s : System) (w : Process) (n : Bool) (p : Pipeline) → CoveredPipeline p → WithinFrames w.frames → w.functions ≡ [] → w.stdout ≡ 1 → Stays s w (step_pipeline s w n p)
pipeline_stays s w true (single c) h k f o = search walk
pipeline_stays s w false (single c) h k f o = search walk
pipeline_stays s w n (piped c p) h k f o = absurd h

and_or_stays : (s : System) (w : Process) (a : AndOr) → CoveredAndOr a → WithinFrames w.frames → w.functions ≡ [] → w.stdout ≡ 1 → Stays s w (step_and_or s w a)
and_or_stays s w (first n p) h k f o = search walk
and_or_stays s w (joined a b n p) h k f o = search walk

list_stays : (s : System) (w : Process) (l : CommandList) → CoveredList l → WithinFrames w.frames → w.functions ≡ [] → w.stdout ≡ 1 → Stays s w (step_list s w l)
list_stays s w end h k f o = search walk
list_stays s w (next a false l) h k f o = search walk
list_stays s w (next a true l) h k f o = absurd h

else_stays : (s : System) (w v : Process) (l : ElsePart) (k : List Frame) → v.pid ≡ w.pid → CoveredElse l → WithinFrames k → v.functions ≡ [] → v.stdout ≡ 1 → Stays s w (step_else s v l k)
else_stays s w v no_else k e h c f o = search walk
else_stays s w v (else l) k e h c f o = search walk

status_stays : (s : System) (w : Process) (n : ℕ) (k : List Frame) → WithinFrames k → w.functions ≡ [] → w.stdout ≡ 1 → Stays s w (step_status s (with_status w n) n k)
status_stays s w n [] c f o = search walk
status_stays s w n (f_list end ∷ k) c f o = search walk
status_stays s w n (f_list (next a b l) ∷ k) c f o = search walk
status_stays s w n (f_and_or b m p ∷ k) c f o = search walk
status_stays s w n (f_not ∷ k) c f o = search walk
status_stays s w n (f_if a b ∷ k) c f o = search (walk, else_stays)
status_stays s w n (f_condition a b ∷ k) c f o = search walk
status_stays s w n (f_body a b ∷ k) c f o = search walk
status_stays s w n (f_for x as₁ l ∷ k) c f o = absurd c
status_stays s w n (f_handles i j ∷ k) c f o = search walk
status_stays s w n (f_arguments as₁ ∷ k) c f o = absurd c

unwind_stays : (s : System) (w : Process) (t : Unwind) (n : ℕ) (k : List Frame) → WithinFrames k → w.functions ≡ [] → w.stdout ≡ 1 → Stays s w (step_unwind s w t n k)
unwind_stays s w t n [] c f o = search walk
unwind_stays s w t n (f_list l ∷ k) c f o = search walk
unwind_stays s w t n (f_and_or b m p ∷ k) c f o = search walk
unwind_stays s w t n (f_not ∷ k) c f o = search walk
unwind_stays s w t n (f_if a b ∷ k) c f o = search walk
unwind_stays s w break n (f_condition a b ∷ k) c f o = search walk
unwind_stays s w continue n (f_condition a b ∷ k) c f o = search walk
unwind_stays s w return n (f_condition a b ∷ k) c f o = search walk
unwind_stays s w exit n (f_condition a b ∷ k) c f o = search walk
unwind_stays s w break n (f_body a b ∷ k) c f o = search walk
unwind_stays s w continue n (f_body a b ∷ k) c f o = search walk
unwind_stays s w return n (f_body a b ∷ k) c f o = search walk
unwind_stays s w exit n (f_body a b ∷ k) c f o = search walk
unwind_stays s w t n (f_for x as₁ l ∷ k) c f o = absurd c
unwind_stays s w t n (f_handles i j ∷ k) c f o = search walk
unwind_stays s w t n (f_arguments as₁ ∷ k) c f o = absurd c

wait_stays : (s : System) (w : Process) (n : ℕ) (ps : List ℕ) → WithinFrames w.frames → w.functions ≡ [] → w.stdout ≡ 1 → Stays? s w (step_wait s w n ps)
wait_stays s w n [] k f o = search walk
wait_stays s w n (p ∷ ps) k f o = opt_stays? s w (exit_status s.exited p) none _ tt (λ m. wait_stays s w m ps k f o)

pub step_stays : (s : System) (w : Process) (c : Control) → WithinControl c → WithinFrames w.frames → w.functions ≡ [] → w.stdout ≡ 1 → Stays? s w (step_control s w c)
step_stays s w (at_list l) h k f o = list_stays s w l h k f o
step_stays s w (at_and_or a) h k f o = and_or_stays s w a h k f o
step_stays s w (at_pipeline n p) h k f o = pipeline_stays s w n p h k f o
step_stays s w (at_command c) h k f o = command_stays s w c h k f o
step_stays s w (at_words x y) h k f o = expansion_stays s w x x.parts y h.0 h.1 k f o
step_stays s w (at_redirects ts t) h k f o = redirects_stays s w ts t h k f o
step_stays s w (at_builtin u) h k f o = builtin_stays s w u k f o
step_stays s w (at_status n) h k f o = status_stays s w n w.frames k f o
step_stays s w (at_unwind t n) h k f o = unwind_stays s w t n w.frames k f o
step_stays s w (at_wait ps) h k f o = wait_stays s w 0 ps k f o
step_stays s w (at_capture d bs q x y) h k f o = absurd h
