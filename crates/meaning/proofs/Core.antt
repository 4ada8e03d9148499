-- With the core's forms alone there is one process, so one order.
use mathlib.Core.Path.{◌≡◌, refl, sym, ◌∙◌, ap, subst}
use mathlib.Core.Bool.{Bool, true, false, ◌&&◌, not}
use mathlib.Core.List.{List, [], ◌∷◌, ◌++◌}
use mathlib.Core.Option.{Option, some, none}
use Prim.Native.Nat.{ℕ, zero, suc, ◌+◌, ◌*◌, ◌≤◌, ◌<◌}
use native.Mathlib.Omega.{arith}
use lib.ListN.{length}
use lib.Dec.{eqb}
use Rattle.syntax.specs.Base.{pick, opt, on_some, Name}
use Rattle.syntax.specs.Tree.{literal, parameter, substitution, Word, no_parts, and_part, Words, no_words, and_word, Assignments, no_assignments, assign, RedirectKind, input, output, append, here, Redirects, no_redirects, redirect, Command, simple, group, subshell, if, while, for, case, function, ElsePart, no_else, else, Pipeline, single, piped, AndOr, first, joined, CommandList, end, next}
use Rattle.syntax.specs.Stage.{else_stage, word_stage, words_stage, assignments_stage, redirects_stage, command_stage, pipeline_stage, and_or_stage, list_stage}
use Rattle.meaning.specs.System.{QuotedByte, function_body, Builtin, b_done, b_print, b_cat, b_head, b_wc, b_grep, b_seq, b_yes, b_read, Expansion, AfterRedirects, then_invoke, then_command, Purpose, to_assign, to_invoke, to_redirect, to_loop, to_select, to_match, Unwind, break, continue, return, exit, Control, at_list, at_and_or, at_pipeline, at_command, at_words, at_redirects, at_builtin, at_status, at_unwind, at_wait, at_capture, Frame, f_list, f_and_or, f_not, f_if, f_condition, f_body, f_for, f_handles, f_arguments, Process, System, ReadByte, got, at_end, must_wait, read_byte, WriteByte, wrote, pipe_full, no_reader, write_byte, find_process, replace, without, exit_status}
use Rattle.meaning.specs.Words.{first_bytes, close_word, insert_value, with_parts, parameter_value}
use Rattle.meaning.specs.Step.{with_status, with_variables, with_arguments, StepResult, continues, exits, goes_to, start_cat, start_seq, run_builtin, invoke, print_byte, read_or, cat_next, grep_last, step_builtin, apply_redirect, step_assignments, expanded, next_word, step_expansion, step_redirects, redirected, step_command, step_pipeline, step_and_or, step_list, step_else, step_status, step_unwind, step_wait, step_control, step, settle, move, moves, initial}
use Rattle.meaning.specs.Statements.{Confluent, Fair, Able, enabled_count, Among, at_head, CoreFair}
use Rattle.meaning.proofs.Own.{inside, ReadsAsIs, read_as_is, WritesAsIs, write_as_is, removed_as_is}

abbrev CoreT : AfterRedirects → Type 0
CoreT (then_invoke as₁) = Unit {0}
CoreT (then_command c) = command_stage c ≤ 0

abbrev CoreY : Purpose → Type 0
CoreY (to_assign x ss ws ts) = (assignments_stage ss ≤ 0) × (words_stage ws ≤ 0) × (redirects_stage ts ≤ 0)
CoreY (to_invoke ts) = redirects_stage ts ≤ 0
CoreY (to_redirect k ts t) = (redirects_stage ts ≤ 0) × CoreT t
CoreY (to_loop x l) = ⊥
CoreY (to_select is) = ⊥
CoreY (to_match x l is) = ⊥

abbrev CoreC : Control → Type 0
CoreC (at_list l) = list_stage l ≤ 0
CoreC (at_and_or a) = and_or_stage a ≤ 0
CoreC (at_pipeline n p) = pipeline_stage p ≤ 0
CoreC (at_command c) = command_stage c ≤ 0
CoreC (at_words x y) = (words_stage x.words ≤ 0) × (word_stage x.parts ≤ 0) × CoreY y
CoreC (at_redirects ts t) = (redirects_stage ts ≤ 0) × CoreT t
CoreC (at_builtin u) = Unit {0}
CoreC (at_status n) = Unit {0}
CoreC (at_unwind t n) = Unit {0}
CoreC (at_wait ps) = Unit {0}
CoreC (at_capture d bs q x y) = ⊥

abbrev CoreK : List Frame → Type 0
CoreK [] = Unit {0}
CoreK (f_list l ∷ k) = (list_stage l ≤ 0) × CoreK k
CoreK (f_and_or b n p ∷ k) = (pipeline_stage p ≤ 0) × CoreK k
CoreK (f_not ∷ k) = CoreK k
CoreK (f_if a e ∷ k) = (list_stage a ≤ 0) × (else_stage e ≤ 0) × CoreK k
CoreK (f_condition a b ∷ k) = (list_stage a ≤ 0) × (list_stage b ≤ 0) × CoreK k
CoreK (f_body a b ∷ k) = (list_stage a ≤ 0) × (list_stage b ≤ 0) × CoreK k
CoreK (f_for x as₁ l ∷ k) = ⊥
CoreK (f_handles i o ∷ k) = CoreK k
CoreK (f_arguments as₁ ∷ k) = ⊥

abbrev Core : Process → Type 0
Core w = CoreC w.control × CoreK w.frames × (w.functions ≡ [])

-- after a step: the same process, and nobody else
abbrev Stays : System → Process → StepResult → Type 0
Stays s w (continues v t) = (v.pid ≡ w.pid) × (t.processes ≡ s.processes) × Core v
Stays s w (exits n t) = t.processes ≡ s.processes

abbrev Stays? : System → Process → Option StepResult → Type 0
Stays? s w none = Unit {0}
Stays? s w (some o) = Stays s w o

pick_stays : (s : System) (w : Process) (b : Bool) (x y : StepResult) → Stays s w x → Stays s w y → Stays s w (pick b x y)
pick_stays s w true x y h k = h
pick_stays s w false x y h k = k

opt_stays : {A : Type 0} (s : System) (w : Process) (o : Option A) (x : StepResult) (f : A → StepResult) → Stays s w x → ((a : A) → Stays s w (f a)) → Stays s w (opt o x f)
opt_stays s w none x f h k = h
opt_stays s w (some a) x f h k = k a

pick_stays? : (s : System) (w : Process) (b : Bool) (x y : Option StepResult) → Stays? s w x → Stays? s w y → Stays? s w (pick b x y)
pick_stays? s w true x y h k = h
pick_stays? s w false x y h k = k

opt_stays? : {A : Type 0} (s : System) (w : Process) (o : Option A) (x : Option StepResult) (f : A → Option StepResult) → Stays? s w x → ((a : A) → Stays? s w (f a)) → Stays? s w (opt o x f)
opt_stays? s w none x f h k = h
opt_stays? s w (some a) x f h k = k a

ruleset walk = (pick_stays, opt_stays, pick_stays?, opt_stays?, arith)

cat_stays : (s : System) (w : Process) (as₁ : List (List ℕ)) → CoreK w.frames → w.functions ≡ [] → Stays s w (start_cat s w as₁)
cat_stays s w [] k f = search walk
cat_stays s w (a ∷ as₁) k f = search walk

seq_stays : (s : System) (w : Process) (as₁ : List (List ℕ)) → CoreK w.frames → w.functions ≡ [] → Stays s w (start_seq s w as₁)
seq_stays s w [] k f = search walk
seq_stays s w (a ∷ []) k f = search walk
seq_stays s w (a ∷ b ∷ []) k f = search walk
seq_stays s w (a ∷ b ∷ c ∷ as₁) k f = search walk

run_builtin_stays : (s : System) (w : Process) (x : Name) (as₁ : List (List ℕ)) → CoreK w.frames → w.functions ≡ [] → Stays s w (run_builtin s w x as₁)
run_builtin_stays s w x as₁ k f = search (walk, cat_stays, seq_stays, removed_as_is) depth 30 fits 3000

invoke_stays : (s : System) (w : Process) (as₁ : List (List ℕ)) → CoreK w.frames → w.functions ≡ [] → Stays s w (invoke s w as₁)
invoke_stays s w [] k f = search walk
invoke_stays s w (a ∷ as₁) k f = subst (λ fs. Stays s w (opt (function_body fs a) (run_builtin s w a as₁) (λ l. goes_to s (with_arguments w as₁) (at_list l) (f_arguments w.arguments ∷ w.frames)))) (sym f) (run_builtin_stays s w a as₁ k f)

read_stays : (s : System) (w : Process) (d : ℕ) (f : System → ℕ → Option StepResult) (z : Option StepResult) → ((t : System) (b : ℕ) → t.processes ≡ s.processes → Stays? s w (f t b)) → Stays? s w z → Stays? s w (read_or s d f z)
read_stays s w d f z k h = by (read_byte s d) (read_as_is s d) refl
  where
    by : (g : ReadByte) → ReadsAsIs s g → read_byte s d ≡ g → Stays? s w (read_or s d f z)
    by (got b t) a e = rw e (k t b a)
    by at_end a e = rw e h
    by must_wait a e = rw e tt

print_stays : (s : System) (w : Process) (bs : List ℕ) (u : Builtin) → CoreK w.frames → w.functions ≡ [] → Stays? s w (print_byte s w bs u)
print_stays s w [] u k f = search walk
print_stays s w (b ∷ bs) u k f = by (write_byte s w.stdout b) (write_as_is s w.stdout b) refl
  where
    by : (g : WriteByte) → WritesAsIs s g → write_byte s w.stdout b ≡ g → Stays? s w (print_byte s w (b ∷ bs) u)
    by (wrote t) a e = rw e (search walk)
    by pipe_full a e = rw e tt
    by no_reader a e = rw e (search walk)

cat_next_stays : (s : System) (w : Process) (xs : List Name) → CoreK w.frames → w.functions ≡ [] → Stays? s w (cat_next s w xs)
cat_next_stays s w [] k f = search walk
cat_next_stays s w (x ∷ xs) k f = search walk

grep_last_stays : (s : System) (w : Process) (p l : List ℕ) (b : Bool) → CoreK w.frames → w.functions ≡ [] → Stays? s w (grep_last s w p l b)
grep_last_stays s w p [] b k f = search walk
grep_last_stays s w p (c ∷ cs) b k f = search walk

builtin_stays : (s : System) (w : Process) (u : Builtin) → CoreK w.frames → w.functions ≡ [] → Stays? s w (step_builtin s w u)
builtin_stays s w (b_done n) k f = search walk
builtin_stays s w (b_print bs u) k f = print_stays s w bs u k f
builtin_stays s w (b_cat xs none) k f = cat_next_stays s w xs k f
builtin_stays s w (b_cat xs (some d)) k f = read_stays s w d _ _ (search walk) (search walk)
builtin_stays s w (b_head zero) k f = search walk
builtin_stays s w (b_head (suc n)) k f = read_stays s w _ _ _ (search walk) (search walk)
builtin_stays s w (b_wc l n) k f = read_stays s w _ _ _ (search walk) (search walk)
builtin_stays s w (b_grep p l b) k f = read_stays s w _ _ _ (search walk) (grep_last_stays s w p l b k f)
builtin_stays s w (b_seq a b) k f = search walk
builtin_stays s w (b_yes l) k f = search walk
builtin_stays s w (b_read x l) k f = read_stays s w _ _ _ (search walk) (search walk)

assignments_stays : (s : System) (w v : Process) (ss : Assignments) (ws : Words) (ts : Redirects) → v.pid ≡ w.pid → assignments_stage ss ≤ 0 → words_stage ws ≤ 0 → redirects_stage ts ≤ 0 → CoreK v.frames → v.functions ≡ [] → Stays s w (step_assignments s v ss ws ts)
assignments_stays s w v no_assignments no_words ts e a b c k f = search walk
assignments_stays s w v no_assignments (and_word x ws) ts e a b c k f = search walk
assignments_stays s w v (assign x y ss) ws ts e a b c k f = search walk

apply_stays : (s : System) (w : Process) (k : RedirectKind) (x : List ℕ) (ts : Redirects) (t : AfterRedirects) → redirects_stage ts ≤ 0 → CoreT t → CoreK w.frames → w.functions ≡ [] → Stays s w (apply_redirect s w k x ts t)
apply_stays s w input x ts t h g c f = search walk
apply_stays s w output x ts t h g c f = search walk
apply_stays s w append x ts t h g c f = search walk
apply_stays s w here x ts t h g c f = search walk

expanded_stays : (s : System) (w : Process) (fs : List (List QuotedByte)) (y : Purpose) → CoreY y → CoreK w.frames → w.functions ≡ [] → Stays s w (expanded s w fs y)
expanded_stays s w fs (to_assign x ss ws ts) h k f = assignments_stays s w (with_variables w _) ss ws ts refl h.0 h.1 h.2 k f
expanded_stays s w fs (to_invoke ts) h k f = search walk
expanded_stays s w fs (to_redirect m ts t) h k f = apply_stays s w m (first_bytes fs) ts t h.0 h.1 k f
expanded_stays s w fs (to_loop x l) h k f = absurd h
expanded_stays s w fs (to_select is) h k f = absurd h
expanded_stays s w fs (to_match x l is) h k f = absurd h

next_word_stays : (s : System) (w : Process) (x : Expansion) (vs : Words) (y : Purpose) → words_stage vs ≤ 0 → CoreY y → CoreK w.frames → w.functions ≡ [] → Stays s w (next_word s w x vs y)
next_word_stays s w x no_words y a h k f = expanded_stays s w (close_word x.current x.complete) y h k f
next_word_stays s w x (and_word v vs) y a h k f = search walk

pick_both : {A : Type 0} (P : A → Type 0) (b : Bool) (x y : A) → P x → P y → P (pick b x y)
pick_both P true x y h k = h
pick_both P false x y h k = k

comes_words : (P : Words → Word → Type 0) (x : Expansion) (q : Bool) (v : List ℕ) → P x.words x.parts → P (insert_value x q v).words (insert_value x q v).parts
comes_words P x q v h = pick_both (λ (z : Expansion). P z.words z.parts) (x.split && not q) _ _ h h

expansion_stays : (s : System) (w : Process) (x : Expansion) (v : Word) (y : Purpose) → words_stage x.words ≤ 0 → word_stage v ≤ 0 → CoreY y → CoreK w.frames → w.functions ≡ [] → Stays s w (step_expansion s w x v y)
expansion_stays s w x no_parts y a b h k f = next_word_stays s w x x.words y a h k f
expansion_stays s w x (and_part (literal q bs) r) y a b h k f = search walk
expansion_stays s w x (and_part (parameter q n) r) y a b h k f = (refl, refl, (comes_words (λ vs v. (words_stage vs ≤ 0) × (word_stage v ≤ 0) × CoreY y) (with_parts x r) q (parameter_value w n) (search walk), k, f))
expansion_stays s w x (and_part (substitution q l) r) y a b h k f = absurd (omega arith)

redirects_stays : (s : System) (w : Process) (ts : Redirects) (t : AfterRedirects) → redirects_stage ts ≤ 0 → CoreT t → CoreK w.frames → w.functions ≡ [] → Stays s w (step_redirects s w ts t)
redirects_stays s w no_redirects (then_invoke as₁) a h k f = invoke_stays s w as₁ k f
redirects_stays s w no_redirects (then_command c) a h k f = search walk
redirects_stays s w (redirect n v ts) t a h k f = search walk

first_stays : (s : System) (w : Process) (ts : Redirects) (c : Command) (o : StepResult) → redirects_stage ts ≤ 0 → command_stage c ≤ 0 → CoreK w.frames → w.functions ≡ [] → Stays s w o → Stays s w (redirected s w ts c o)
first_stays s w no_redirects c o a b k f h = h
first_stays s w (redirect n v ts) c o a b k f h = search walk

command_stays : (s : System) (w : Process) (c : Command) → command_stage c ≤ 0 → CoreK w.frames → w.functions ≡ [] → Stays s w (step_command s w c)
command_stays s w (simple ss ws ts) h k f = assignments_stays s w w ss ws ts refl (omega arith) (omega arith) (omega arith) k f
command_stays s w (group l ts) h k f = first_stays s w ts (group l no_redirects) _ (omega arith) (omega arith) k f (search walk)
command_stays s w (subshell l ts) h k f = absurd (omega arith)
command_stays s w (if a b c ts) h k f = first_stays s w ts (if a b c no_redirects) _ (omega arith) (omega arith) k f (search walk)
command_stays s w (while a b ts) h k f = first_stays s w ts (while a b no_redirects) _ (omega arith) (omega arith) k f (search walk)
command_stays s w (for x ws l ts) h k f = absurd (omega arith)
command_stays s w (case v is ts) h k f = absurd (omega arith)
command_stays s w (function x l) h k f = absurd (omega arith)

pipeline_stays : (s : System) (w : Process) (n : Bool) (p : Pipeline) → pipeline_stage p ≤ 0 → CoreK w.frames → w.functions ≡ [] → Stays s w (step_pipeline s w n p)
pipeline_stays s w true (single c) h k f = search walk
pipeline_stays s w false (single c) h k f = search walk
pipeline_stays s w n (piped c p) h k f = absurd (omega arith)

and_or_stays : (s : System) (w : Process) (a : AndOr) → and_or_stage a ≤ 0 → CoreK w.frames → w.functions ≡ [] → Stays s w (step_and_or s w a)
and_or_stays s w (first n p) h k f = search walk
and_or_stays s w (joined a b n p) h k f = search walk

list_stays : (s : System) (w : Process) (l : CommandList) → list_stage l ≤ 0 → CoreK w.frames → w.functions ≡ [] → Stays s w (step_list s w l)
list_stays s w end h k f = search walk
list_stays s w (next a false l) h k f = search walk
list_stays s w (next a true l) h k f = absurd (omega arith)

else_stays : (s : System) (w v : Process) (l : ElsePart) (k : List Frame) → v.pid ≡ w.pid → else_stage l ≤ 0 → CoreK k → v.functions ≡ [] → Stays s w (step_else s v l k)
else_stays s w v no_else k e h c f = search walk
else_stays s w v (else l) k e h c f = search walk

status_stays : (s : System) (w : Process) (n : ℕ) (k : List Frame) → CoreK k → w.functions ≡ [] → Stays s w (step_status s (with_status w n) n k)
status_stays s w n [] c f = search walk
status_stays s w n (f_list end ∷ k) c f = search walk
status_stays s w n (f_list (next a b l) ∷ k) c f = search walk
status_stays s w n (f_and_or b m p ∷ k) c f = search walk
status_stays s w n (f_not ∷ k) c f = search walk
status_stays s w n (f_if a b ∷ k) c f = search (walk, else_stays)
status_stays s w n (f_condition a b ∷ k) c f = search walk
status_stays s w n (f_body a b ∷ k) c f = search walk
status_stays s w n (f_for x as₁ l ∷ k) c f = absurd c
status_stays s w n (f_handles i o ∷ k) c f = search walk
status_stays s w n (f_arguments as₁ ∷ k) c f = absurd c

unwind_stays : (s : System) (w : Process) (t : Unwind) (n : ℕ) (k : List Frame) → CoreK k → w.functions ≡ [] → Stays s w (step_unwind s w t n k)
unwind_stays s w t n [] c f = search walk
unwind_stays s w t n (f_list l ∷ k) c f = search walk
unwind_stays s w t n (f_and_or b m p ∷ k) c f = search walk
unwind_stays s w t n (f_not ∷ k) c f = search walk
unwind_stays s w t n (f_if a b ∷ k) c f = search walk
unwind_stays s w break n (f_condition a b ∷ k) c f = search walk
unwind_stays s w continue n (f_condition a b ∷ k) c f = search walk
unwind_stays s w return n (f_condition a b ∷ k) c f = search walk
unwind_stays s w exit n (f_condition a b ∷ k) c f = search walk
unwind_stays s w break n (f_body a b ∷ k) c f = search walk
unwind_stays s w continue n (f_body a b ∷ k) c f = search walk
unwind_stays s w return n (f_body a b ∷ k) c f = search walk
unwind_stays s w exit n (f_body a b ∷ k) c f = search walk
unwind_stays s w t n (f_for x as₁ l ∷ k) c f = absurd c
unwind_stays s w t n (f_handles i o ∷ k) c f = search walk
unwind_stays s w t n (f_arguments as₁ ∷ k) c f = absurd c

wait_stays : (s : System) (w : Process) (n : ℕ) (ps : List ℕ) → CoreK w.frames → w.functions ≡ [] → Stays? s w (step_wait s w n ps)
wait_stays s w n [] k f = search walk
wait_stays s w n (p ∷ ps) k f = opt_stays? s w (exit_status s.exited p) none _ tt (λ m. wait_stays s w m ps k f)

pub step_stays : (s : System) (w : Process) (c : Control) → CoreC c → CoreK w.frames → w.functions ≡ [] → Stays? s w (step_control s w c)
step_stays s w (at_list l) h k f = list_stays s w l h k f
step_stays s w (at_and_or a) h k f = and_or_stays s w a h k f
step_stays s w (at_pipeline n p) h k f = pipeline_stays s w n p h k f
step_stays s w (at_command c) h k f = command_stays s w c h k f
step_stays s w (at_words x y) h k f = expansion_stays s w x x.parts y h.0 h.1 h.2 k f
step_stays s w (at_redirects ts t) h k f = redirects_stays s w ts t h.0 h.1 k f
step_stays s w (at_builtin u) h k f = builtin_stays s w u k f
step_stays s w (at_status n) h k f = status_stays s w n w.frames k f
step_stays s w (at_unwind t n) h k f = unwind_stays s w t n w.frames k f
step_stays s w (at_wait ps) h k f = wait_stays s w 0 ps k f
step_stays s w (at_capture d bs q x y) h k f = absurd h

-- no process, or one that has the number 0
abbrev pub Alone : List Process → Type 0
Alone [] = Unit {0}
Alone (w ∷ []) = (w.pid ≡ 0) × Core w
Alone (w ∷ v ∷ vs) = ⊥

abbrev pub IsNone : {A : Type 0} → Option A → Type 0
IsNone none = Unit {0}
IsNone (some x) = ⊥

pub no_some : {A : Type 0} {x : A} → none ≡ some x → ⊥
no_some e = subst IsNone e tt

change_one : (w v : Process) → replace (w ∷ []) w.pid v ≡ v ∷ []
change_one w v = grind arith

without_one : (w : Process) → without (w ∷ []) w.pid ≡ []
without_one w = grind arith

find_one : (w v : Process) (n : ℕ) → find_process (w ∷ []) n ≡ some v → (w.pid ≡ n) × (w ≡ v)
find_one w v n e = by (eqb w.pid n) refl e
  where
    by : (b : Bool) → eqb w.pid n ≡ b → pick b (some w) none ≡ some v → (w.pid ≡ n) × (w ≡ v)
    by true p h = (grind arith, inside h)
    by false p h = absurd (no_some h)

-- a move is made by 0, and leaves it alone
pub move_alone : (s t : System) (n : ℕ) → Alone s.processes → move s n ≡ some t → (n ≡ 0) × Alone t.processes
move_alone s t n a e = by s.processes refl a
  where
    out : (w : Process) (o : Option StepResult) → s.processes ≡ w ∷ [] → w.pid ≡ 0 → Stays? s w o → on_some o (λ o. some (settle w o)) ≡ some t → Alone t.processes
    out w none p z k g = absurd (no_some g)
    out w (some (continues v u)) p z k g = subst Alone (sym (change_one w v) ∙ ap (λ vs. replace vs w.pid v) (sym (k.1 ∙ p)) ∙ ap (λ z. z.processes) (inside g)) (k.0 ∙ z, k.2)
    out w (some (exits m u)) p z k g = subst Alone (sym (without_one w) ∙ ap (λ vs. without vs w.pid) (sym (k ∙ p)) ∙ ap (λ z. z.processes) (inside g)) tt

    found : (w : Process) (o : Option Process) → s.processes ≡ w ∷ [] → w.pid ≡ 0 → Core w → find_process (w ∷ []) n ≡ o → on_some o (λ w. on_some (step s w) (λ o. some (settle w o))) ≡ some t → (n ≡ 0) × Alone t.processes
    found w none p z c f g = absurd (no_some g)
    found w (some v) p z c f g =
        let i = find_one w v n f in
        (sym i.0 ∙ z, out w (step s w) p z (step_stays s w w.control c.0 c.1 c.2) (subst (λ v. on_some (step s v) (λ o. some (settle v o)) ≡ some t) (sym i.1) g))

    by : (ws : List Process) → s.processes ≡ ws → Alone ws → (n ≡ 0) × Alone t.processes
    by [] p h = absurd (no_some (subst (λ ws. on_some (find_process ws n) (λ w. on_some (step s w) (λ o. some (settle w o))) ≡ some t) p e))
    by (w ∷ []) p h = found w (find_process (w ∷ []) n) p h.0 h.1 refl (subst (λ ws. on_some (find_process ws n) (λ w. on_some (step s w) (λ o. some (settle w o))) ≡ some t) p e)
    by (w ∷ v ∷ vs) p h = absurd h

-- nobody left: no move
still_none : (s t : System) (n : ℕ) → s.processes ≡ [] → move s n ≡ some t → ⊥
still_none s t n p e = no_some (subst (λ ws. on_some (find_process ws n) (λ w. on_some (step s w) (λ o. some (settle w o))) ≡ some t) p e)

pub split_moves : (s t : System) (n : ℕ) (a : List ℕ) → moves s (n ∷ a) ≡ some t → (r : System) × (move s n ≡ some r) × (moves r a ≡ some t)
split_moves s t n a e = by (move s n) refl e
  where
    by : (o : Option System) → move s n ≡ o → on_some o (λ u. moves u a) ≡ some t → (r : System) × (move s n ≡ some r) × (moves r a ≡ some t)
    by none p g = absurd (no_some g)
    by (some r) p g = (r, p, g)

-- one order
one_end : (a b : List ℕ) (s t u : System) → Alone s.processes → moves s a ≡ some t → moves s b ≡ some u → t.processes ≡ [] → u.processes ≡ [] → t ≡ u
one_end [] [] s t u h p q y z = sym (inside p) ∙ inside q
one_end [] (m ∷ b) s t u h p q y z = absurd (still_none s _ m (ap (λ r. r.processes) (inside p) ∙ y) (split_moves s u m b q).1)
one_end (n ∷ a) [] s t u h p q y z = absurd (still_none s _ n (ap (λ r. r.processes) (inside q) ∙ z) (split_moves s t n a p).1)
one_end (n ∷ a) (m ∷ b) s t u h p q y z =
    let f = split_moves s t n a p in
    let g = split_moves s u m b q in
    let i = move_alone s f.0 n h f.1 in
    let j = move_alone s g.0 m h g.1 in
    let e : f.0 ≡ g.0 = inside (sym f.1 ∙ ap (move s) (i.0 ∙ sym j.0) ∙ g.1) in
    one_end a b f.0 t u i.1 f.2 (subst (λ r. moves r b ≡ some u) (sym e) g.2) y z

pub confluent_core : Confluent 0
confluent_core l a b s t g c p q y z =
    let e = one_end a b (initial l [] []) s t (refl, (g, tt, refl)) p q y z in
    (ap (λ r. r.paper) e, ap (λ r. exit_status r.exited 0) e)

-- and it is fair
moves_alone : (a : List ℕ) (s t : System) → Alone s.processes → moves s a ≡ some t → Alone t.processes
moves_alone [] s t h e = subst (λ r. Alone r.processes) (inside e) h
moves_alone (n ∷ a) s t h e =
    let f = split_moves s t n a e in
    moves_alone a f.0 t (move_alone s f.0 n h f.1).1 f.2

moves_after : (a b : List ℕ) (s t u : System) → moves s a ≡ some t → moves s (a ++ b) ≡ some u → moves t b ≡ some u
moves_after [] b s t u p q = subst (λ r. moves r b ≡ some u) (inside p) q
moves_after (n ∷ a) b s t u p q =
    let f = split_moves s t n a p in
    let g = split_moves s u n (a ++ b) q in
    moves_after a b f.0 t u f.2 (subst (λ r. moves r (a ++ b) ≡ some u) (inside (sym g.1 ∙ f.1)) g.2)

found_alone : (ws : List Process) (q : ℕ) (w : Process) → Alone ws → find_process ws q ≡ some w → q ≡ 0
found_alone [] q w h e = absurd (no_some e)
found_alone (v ∷ []) q w h e = sym (find_one v w q e).0 ∙ h.0
found_alone (v ∷ x ∷ vs) q w h e = absurd h

pub fair_alone : (l : List ℕ) (s z : System) → Alone s.processes → moves s l ≡ some z → Fair s l
fair_alone l s z h e = record { served = λ a b c t q p m k n. by a b c t q p m k n }
  where
    by : (a b c : List ℕ) (t : System) (q : ℕ) → l ≡ a ++ (b ++ c) → moves s a ≡ some t → ((d e : List ℕ) (u : System) → b ≡ d ++ e → moves t d ≡ some u → Able u q) → 4096 * (1 + enabled_count t t.processes) < length b → Among q b
    by a [] c t q p m k n = absurd (omega arith)
    by a (x ∷ b) c t q p m k n =
        let o = moves_alone a s t h m in
        let f = split_moves t z x (b ++ c) (moves_after a (x ∷ (b ++ c)) s t z m (subst (λ l. moves s l ≡ some z) p e)) in
        let w = k [] (x ∷ b) t refl refl in
        subst (λ n. Among q (n ∷ b)) (found_alone t.processes q w.0 o w.1 ∙ sym (move_alone t f.0 x o f.1).0) at_head

pub core_fair : CoreFair
core_fair l i ms s g e = fair_alone ms (initial l i []) s (refl, (g, tt, refl)) e
