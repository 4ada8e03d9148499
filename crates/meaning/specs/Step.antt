-- What processes do, one move at a time, in any order.
use Rattle.std.specs.Prelude.{Bool, true, false, ◌||◌, not, List, [], ◌∷◌, ◌++◌, ℕ, zero, suc, ◌%◌, codes, length, eqb, leb}
use Rattle.std.proofs.Math.Option.{Option, some, none}
use Rattle.syntax.specs.Base.{pick, opt, on_some, Name, same, valid_name}
use Rattle.syntax.specs.Tree.{literal, parameter, substitution, Word, no_parts, and_part, Words, no_words, and_word, Assignments, no_assignments, assign, RedirectKind, input, output, append, here, Redirects, no_redirects, redirect, Command, simple, group, subshell, if, while, for, case, function, ElsePart, no_else, else, Arms, no_arms, arm, Pipeline, single, piped, AndOr, first, joined, CommandList, end, next}
use Rattle.meaning.specs.System.{QuotedByte, Handle, file_read, file_append, pipe_read, pipe_write, host_input, host_paper, here_text, File, Variable, Function, Builtin, b_done, b_print, b_cat, b_head, b_wc, b_grep, b_seq, b_yes, b_read, Expansion, AfterRedirects, then_invoke, then_command, Purpose, to_assign, to_invoke, to_redirect, to_loop, to_select, to_match, Unwind, break, continue, return, exit, Control, at_list, at_and_or, at_pipeline, at_command, at_words, at_redirects, at_builtin, at_status, at_unwind, at_wait, at_capture, Frame, f_list, f_and_or, f_not, f_if, f_condition, f_body, f_for, f_handles, f_arguments, Process, System, with_processes, with_handles, with_files, find_file, set_file, remove_file, ReadByte, got, at_end, must_wait, read_byte, WriteByte, wrote, pipe_full, no_reader, write_byte, find_process, replace, without, exit_status, set_variable, function_body}
use Rattle.meaning.specs.Words.{decimal, number, quote_bytes, so_far, close_word, matches, all_pathnames, parameter_value, expand_words, expand_word, insert_value, with_parts, first_bytes, first_quoted, join_words, as_line, contains, first_or, tail_of, status_of, test_status}

-- the builtin commands
abbrev pub name_echo : Name
name_echo = codes "echo"

abbrev pub name_cat : Name
name_cat = codes "cat"

abbrev pub name_head : Name
name_head = codes "head"

abbrev pub name_wc : Name
name_wc = codes "wc"

abbrev pub name_grep : Name
name_grep = codes "grep"

abbrev pub name_seq : Name
name_seq = codes "seq"

abbrev pub name_rm : Name
name_rm = codes "rm"

abbrev pub name_yes : Name
name_yes = codes "yes"

abbrev pub name_true : Name
name_true = codes "true"

abbrev pub name_false : Name
name_false = codes "false"

abbrev pub name_test : Name
name_test = codes "test"

abbrev pub name_read : Name
name_read = codes "read"

abbrev pub name_exit : Name
name_exit = codes "exit"

abbrev pub name_return : Name
name_return = codes "return"

abbrev pub name_break : Name
name_break = codes "break"

abbrev pub name_continue : Name
name_continue = codes "continue"

abbrev pub name_shift : Name
name_shift = codes "shift"

abbrev pub name_wait : Name
name_wait = codes "wait"

-- a process with another part changed
abbrev pub with_control : Process → Control → List Frame → Process
with_control w c k = record { pid = w.pid; control = c; frames = k; stdin = w.stdin; stdout = w.stdout; variables = w.variables; functions = w.functions; arguments = w.arguments; status = w.status; jobs = w.jobs }

abbrev pub with_io : Process → ℕ → ℕ → Process
with_io w i o = record { pid = w.pid; control = w.control; frames = w.frames; stdin = i; stdout = o; variables = w.variables; functions = w.functions; arguments = w.arguments; status = w.status; jobs = w.jobs }

abbrev pub with_variables : Process → List Variable → Process
with_variables w vs = record { pid = w.pid; control = w.control; frames = w.frames; stdin = w.stdin; stdout = w.stdout; variables = vs; functions = w.functions; arguments = w.arguments; status = w.status; jobs = w.jobs }

abbrev pub with_functions : Process → List Function → Process
with_functions w fs = record { pid = w.pid; control = w.control; frames = w.frames; stdin = w.stdin; stdout = w.stdout; variables = w.variables; functions = fs; arguments = w.arguments; status = w.status; jobs = w.jobs }

abbrev pub with_arguments : Process → List (List ℕ) → Process
with_arguments w as₁ = record { pid = w.pid; control = w.control; frames = w.frames; stdin = w.stdin; stdout = w.stdout; variables = w.variables; functions = w.functions; arguments = as₁; status = w.status; jobs = w.jobs }

abbrev pub with_status : Process → ℕ → Process
with_status w n = record { pid = w.pid; control = w.control; frames = w.frames; stdin = w.stdin; stdout = w.stdout; variables = w.variables; functions = w.functions; arguments = w.arguments; status = n; jobs = w.jobs }

abbrev pub with_jobs : Process → List ℕ → Process
with_jobs w ps = record { pid = w.pid; control = w.control; frames = w.frames; stdin = w.stdin; stdout = w.stdout; variables = w.variables; functions = w.functions; arguments = w.arguments; status = w.status; jobs = ps }

-- what a step leads to: the process goes on in this system, or it has exited with this status
pub data StepResult : Type 0 where
  continues : Process → System → StepResult
  exits : ℕ → System → StepResult

abbrev pub goes_to : System → Process → Control → List Frame → StepResult
goes_to s w c k = continues (with_control w c k) s

-- the command is done, with this status
abbrev pub completes : System → Process → ℕ → StepResult
completes s w n = goes_to s w (at_status n) w.frames

-- a new process: like this one, with other things to do and other handles. It begins with the variables, functions,
-- arguments and last status as they are, and with no jobs
abbrev pub spawn : System → Process → Control → ℕ → ℕ → System
spawn s w c i o = record { processes = s.processes ++ (record { pid = s.next_pid; control = c; frames = []; stdin = i; stdout = o; variables = w.variables; functions = w.functions; arguments = w.arguments; status = w.status; jobs = [] } ∷ []); next_pid = suc s.next_pid; handles = s.handles; pipes = s.pipes; files = s.files; input = s.input; paper = s.paper; exited = s.exited }

-- a pipe and its two ends, the one that is read first
abbrev pub new_pipe : System → System
new_pipe s = record { processes = s.processes; next_pid = s.next_pid; handles = s.handles ++ (pipe_read (length s.pipes) ∷ pipe_write (length s.pipes) ∷ []); pipes = s.pipes ++ ([] ∷ []); files = s.files; input = s.input; paper = s.paper; exited = s.exited }

abbrev pub open_handle : System → Handle → System
open_handle s o = with_handles s (s.handles ++ (o ∷ []))

-- what $( ) stands for: what was printed, without the ends of lines at its end
abbrev pub trim : List ℕ → List ℕ
trim [] = []
trim (b ∷ bs) = keep b (trim bs)
  where
    keep : ℕ → List ℕ → List ℕ
    keep b [] = pick (eqb b 10) [] (b ∷ [])
    keep b (c ∷ cs) = b ∷ c ∷ cs

-- a process for each command of a pipeline, all at once, each reading the pipe that the one before writes
abbrev pub spawn_pipeline : System → Process → Pipeline → ℕ → System
spawn_pipeline s w (single c) i = spawn s w (at_command c) i w.stdout
spawn_pipeline s w (piped c p) i =
    let t = new_pipe s in
    spawn_pipeline (spawn t w (at_command c) i (suc (length s.handles))) w p (length s.handles)

abbrev pub pipeline_length : Pipeline → ℕ
pipeline_length (single c) = 1
pipeline_length (piped c p) = suc (pipeline_length p)

abbrev pub pids_from : ℕ → ℕ → List ℕ
pids_from n zero = []
pids_from n (suc k) = n ∷ pids_from (suc n) k

-- commands by their first word
abbrev pub start_builtin : System → Process → Builtin → StepResult
start_builtin s w u = goes_to s w (at_builtin u) w.frames

-- rm: a file that isn't there is no error
abbrev pub remove_files : System → List (List ℕ) → System
remove_files s [] = s
remove_files s (a ∷ as₁) = remove_files (with_files s (remove_file s.files a)) as₁

-- cat copies the files that it is given, or what it reads
abbrev pub start_cat : System → Process → List (List ℕ) → StepResult
start_cat s w [] = start_builtin s w (b_cat [] (some w.stdin))
start_cat s w (a ∷ as₁) = start_builtin s w (b_cat (a ∷ as₁) none)

-- seq n counts from 1, seq a b from a
abbrev pub start_seq : System → Process → List (List ℕ) → StepResult
start_seq s w [] = completes s w 2
start_seq s w (a ∷ []) = opt (number a) (completes s w 2) (λ n. start_builtin s w (b_seq 1 n))
start_seq s w (a ∷ b ∷ []) = opt (number a) (completes s w 2) (λ m. opt (number b) (completes s w 2) (λ n. start_builtin s w (b_seq m n)))
start_seq s w (a ∷ b ∷ c ∷ as₁) = completes s w 2

-- exit n and return n, modulo 256; without a word the last status
abbrev pub start_unwind : System → Process → Unwind → List (List ℕ) → StepResult
start_unwind s w t as₁ = opt (number (first_or (decimal w.status) as₁)) (completes s w 2) (λ n. goes_to s w (at_unwind t (n % 256)) w.frames)

-- a builtin with a number that has a default
abbrev pub start_counted : System → Process → List (List ℕ) → ℕ → (ℕ → Builtin) → StepResult
start_counted s w as₁ d f = opt (number (first_or (decimal d) as₁)) (completes s w 2) (λ n. start_builtin s w (f n))

-- read x: a line into a variable; status 2 if that is no name
abbrev pub start_read : System → Process → List ℕ → StepResult
start_read s w x = pick (valid_name x) (start_builtin s w (b_read x [])) (completes s w 2)

abbrev pub run_builtin : System → Process → Name → List (List ℕ) → StepResult
run_builtin s w x as₁ =
    pick (same x name_echo) (start_builtin s w (b_print (as_line (join_words as₁)) (b_done 0)))
    (pick (same x name_cat) (start_cat s w as₁)
    (pick (same x name_head) (start_counted s w as₁ 10 b_head)
    (pick (same x name_wc) (start_builtin s w (b_wc 0 0))
    (pick (same x name_grep) (start_builtin s w (b_grep (first_or [] as₁) [] false))
    (pick (same x name_seq) (start_seq s w as₁)
    (pick (same x name_rm) (completes (remove_files s as₁) w 0)
    (pick (same x name_yes) (start_builtin s w (b_yes (as_line (first_or (codes "y") as₁))))
    (pick (same x name_true) (completes s w 0)
    (pick (same x name_false) (completes s w 1)
    (pick (same x name_test) (completes s w (test_status s as₁))
    (pick (same x name_read) (start_read s w (first_or (codes "x") as₁))
    (pick (same x name_exit) (start_unwind s w exit as₁)
    (pick (same x name_return) (start_unwind s w return as₁)
    (pick (same x name_break) (goes_to s w (at_unwind break 0) w.frames)
    (pick (same x name_continue) (goes_to s w (at_unwind continue 0) w.frames)
    (pick (same x name_shift) (completes s (with_arguments w (tail_of w.arguments)) 0)
    (pick (same x name_wait) (goes_to s (with_jobs w []) (at_wait w.jobs) w.frames)
    (completes s w 127))))))))))))))))))

-- the first word names a function, or else a builtin; anything else has status 127, no words at all have status 0
abbrev pub invoke : System → Process → List (List ℕ) → StepResult
invoke s w [] = completes s w 0
invoke s w (x ∷ as₁) = opt (function_body w.functions x) (run_builtin s w x as₁) (λ l. goes_to s (with_arguments w as₁) (at_list l) (f_arguments w.arguments ∷ w.frames))

-- a builtin at work. A step that has to wait for a byte or for room in a pipe is none
abbrev pub builtin_at : System → Process → Builtin → Option StepResult
builtin_at s w u = some (goes_to s w (at_builtin u) w.frames)

-- writing to a pipe that nobody can read ends the process with 141
abbrev pub print_byte : System → Process → List ℕ → Builtin → Option StepResult
print_byte s w [] u = builtin_at s w u
print_byte s w (b ∷ bs) u = by (write_byte s w.stdout b)
  where
    by : WriteByte → Option StepResult
    by (wrote t) = builtin_at t w (b_print bs u)
    by pipe_full = none
    by no_reader = some (exits 141 s)

-- f of the next byte, z at the end
abbrev pub read_or : System → ℕ → (System → ℕ → Option StepResult) → Option StepResult → Option StepResult
read_or s d f z = by (read_byte s d)
  where
    by : ReadByte → Option StepResult
    by (got b t) = f t b
    by at_end = z
    by must_wait = none

-- cat stops at the first file that isn't there, with status 1
abbrev pub cat_next : System → Process → List Name → Option StepResult
cat_next s w [] = builtin_at s w (b_done 0)
cat_next s w (x ∷ xs) = opt (find_file s.files x) (builtin_at s w (b_done 1)) (λ b. builtin_at (open_handle s (file_read x 0)) w (b_cat xs (some (length s.handles))))

abbrev pub grep_line : System → Process → List ℕ → List ℕ → Bool → Builtin → Option StepResult
grep_line s w p l f u = pick (contains p l) (builtin_at s w (b_print (as_line l) u)) (builtin_at s w u)

-- a last line without an end is a line, if there is anything of it
abbrev pub grep_last : System → Process → List ℕ → List ℕ → Bool → Option StepResult
grep_last s w p [] f = builtin_at s w (b_done (status_of f))
grep_last s w p (c ∷ cs) f = grep_line s w p (c ∷ cs) f (b_done (status_of (f || contains p (c ∷ cs))))

abbrev pub step_builtin : System → Process → Builtin → Option StepResult
step_builtin s w (b_done n) = some (completes s w n)
step_builtin s w (b_print bs u) = print_byte s w bs u
step_builtin s w (b_cat xs none) = cat_next s w xs
step_builtin s w (b_cat xs (some d)) = read_or s d (λ t b. builtin_at t w (b_print (b ∷ []) (b_cat xs (some d)))) (builtin_at s w (b_cat xs none))
step_builtin s w (b_head zero) = some (completes s w 0)
step_builtin s w (b_head (suc n)) = read_or s w.stdin (λ t b. builtin_at t w (b_print (b ∷ []) (b_head (pick (eqb b 10) n (suc n))))) (some (completes s w 0))
step_builtin s w (b_wc l n) = read_or s w.stdin (λ t b. builtin_at t w (b_wc (pick (eqb b 10) (suc l) l) (suc n))) (builtin_at s w (b_print (as_line (decimal l ++ (32 ∷ decimal n))) (b_done 0)))
step_builtin s w (b_grep p l f) = read_or s w.stdin (λ t b. pick (eqb b 10) (grep_line t w p l f (b_grep p [] (f || contains p l))) (builtin_at t w (b_grep p (l ++ (b ∷ [])) f))) (grep_last s w p l f)
step_builtin s w (b_seq a b) = pick (leb a b) (builtin_at s w (b_print (as_line (decimal a)) (b_seq (suc a) b))) (some (completes s w 0))
step_builtin s w (b_yes l) = builtin_at s w (b_print l (b_yes l))
-- the status is 1 if the input ends in the line
step_builtin s w (b_read x l) = read_or s w.stdin (λ t b. pick (eqb b 10) (some (completes t (with_variables w (set_variable w.variables x l)) 0)) (builtin_at t w (b_read x (l ++ (b ∷ []))))) (some (completes s (with_variables w (set_variable w.variables x l)) 1))

-- a redirection's word is expanded: its file is opened. A file that is read has to be there, else the command is not
-- done and has status 1; those that are written are made if need be
abbrev pub apply_redirect : System → Process → RedirectKind → List ℕ → Redirects → AfterRedirects → StepResult
apply_redirect s w input x ts t = opt (find_file s.files x) (completes s w 1) (λ b. goes_to (open_handle s (file_read x 0)) (with_io w (length s.handles) w.stdout) (at_redirects ts t) w.frames)
apply_redirect s w output x ts t = goes_to (open_handle (with_files s (set_file s.files x [])) (file_append x)) (with_io w w.stdin (length s.handles)) (at_redirects ts t) w.frames
apply_redirect s w append x ts t = goes_to (open_handle (with_files s (set_file s.files x (opt (find_file s.files x) [] (λ b. b)))) (file_append x)) (with_io w w.stdin (length s.handles)) (at_redirects ts t) w.frames
apply_redirect s w here x ts t = goes_to (open_handle s (here_text x)) (with_io w (length s.handles) w.stdout) (at_redirects ts t) w.frames

-- name=word from the left, each holding from then on; then the words
abbrev pub step_assignments : System → Process → Assignments → Words → Redirects → StepResult
step_assignments s w no_assignments ws ts = goes_to s w (at_words (expand_words ws true) (to_invoke ts)) w.frames
step_assignments s w (assign x v ss) ws ts = goes_to s w (at_words (expand_word v) (to_assign x ss ws ts)) w.frames

-- the arms of a case, until one matches; status 0 if none does
abbrev pub step_arms : System → Process → List ℕ → Arms → StepResult
step_arms s w x no_arms = completes s w 0
step_arms s w x (arm p l is) = goes_to s w (at_words (expand_word p) (to_match x l is)) w.frames

-- the first round of a for; status 0 if there is none
abbrev pub step_for : System → Process → Name → List (List ℕ) → CommandList → StepResult
step_for s w x [] l = completes s w 0
step_for s w x (a ∷ as₁) l = goes_to s (with_variables w (set_variable w.variables x a)) (at_list l) (f_for x as₁ l ∷ w.frames)

-- all words are expanded: what they are for
abbrev pub expanded : System → Process → List (List QuotedByte) → Purpose → StepResult
expanded s w fs (to_assign x ss ws ts) = step_assignments s (with_variables w (set_variable w.variables x (first_bytes fs))) ss ws ts
expanded s w fs (to_invoke ts) = goes_to s w (at_redirects ts (then_invoke (all_pathnames s.files fs))) (f_handles w.stdin w.stdout ∷ w.frames)
expanded s w fs (to_redirect k ts t) = apply_redirect s w k (first_bytes fs) ts t
expanded s w fs (to_loop x l) = step_for s w x (all_pathnames s.files fs) l
expanded s w fs (to_select is) = step_arms s w (first_bytes fs) is
expanded s w fs (to_match x l is) = pick (matches (first_quoted fs) x) (goes_to s w (at_list l) w.frames) (step_arms s w x is)

abbrev pub next_word : System → Process → Expansion → Words → Purpose → StepResult
next_word s w x no_words y = expanded s w (close_word x.current x.complete) y
next_word s w x (and_word v vs) y = goes_to s w (at_words (record { words = vs; parts = v; current = none; complete = close_word x.current x.complete; split = x.split }) y) w.frames

-- one part of a word; a $( ) is a process of its own that writes to a pipe
abbrev pub step_expansion : System → Process → Expansion → Word → Purpose → StepResult
step_expansion s w x no_parts y = next_word s w x x.words y
step_expansion s w x (and_part (literal q bs) r) y = goes_to s w (at_words (with_parts (record { words = x.words; parts = x.parts; current = some (so_far x.current ++ quote_bytes q bs); complete = x.complete; split = x.split }) r) y) w.frames
step_expansion s w x (and_part (parameter q n) r) y = goes_to s w (at_words (insert_value (with_parts x r) q (parameter_value w n)) y) w.frames
step_expansion s w x (and_part (substitution q l) r) y =
    let t = new_pipe s in
    goes_to (spawn t w (at_list l) w.stdin (suc (length s.handles))) w (at_capture (length s.handles) [] q (with_parts x r) y) w.frames

-- redirections from the left, then what they are for
abbrev pub step_redirects : System → Process → Redirects → AfterRedirects → StepResult
step_redirects s w no_redirects (then_invoke as₁) = invoke s w as₁
step_redirects s w no_redirects (then_command c) = goes_to s w (at_command c) w.frames
step_redirects s w (redirect k v ts) t = goes_to s w (at_words (expand_word v) (to_redirect k ts t)) w.frames

-- a command that isn't simple makes its redirections first; what was open before is open again after it
abbrev pub redirected : System → Process → Redirects → Command → StepResult → StepResult
redirected s w no_redirects c o = o
redirected s w (redirect k v ts) c o = goes_to s w (at_redirects (redirect k v ts) (then_command c)) (f_handles w.stdin w.stdout ∷ w.frames)

abbrev pub step_command : System → Process → Command → StepResult
step_command s w (simple ss ws ts) = step_assignments s w ss ws ts
step_command s w (group l ts) = redirected s w ts (group l no_redirects) (goes_to s w (at_list l) w.frames)
step_command s w (subshell l ts) = redirected s w ts (subshell l no_redirects) (goes_to (spawn s w (at_list l) w.stdin w.stdout) w (at_wait (s.next_pid ∷ [])) w.frames)
step_command s w (if a b e ts) = redirected s w ts (if a b e no_redirects) (goes_to s w (at_list a) (f_if b e ∷ w.frames))
step_command s w (while a b ts) = redirected s w ts (while a b no_redirects) (goes_to s w (at_list a) (f_condition a b ∷ w.frames))
step_command s w (for x ws l ts) = redirected s w ts (for x ws l no_redirects) (goes_to s w (at_words (expand_words ws true) (to_loop x l)) w.frames)
step_command s w (case v is ts) = redirected s w ts (case v is no_redirects) (goes_to s w (at_words (expand_word v) (to_select is)) w.frames)
step_command s w (function x l) = completes s (with_functions w (record { name = x; body = l } ∷ w.functions)) 0

-- a command alone is done by this process, those between pipes by processes of their own that it waits for
abbrev pub step_pipeline : System → Process → Bool → Pipeline → StepResult
step_pipeline s w n (single c) = goes_to s w (at_command c) (pick n (f_not ∷ w.frames) w.frames)
step_pipeline s w n (piped c p) = goes_to (spawn_pipeline s w (piped c p) w.stdin) w (at_wait (pids_from s.next_pid (pipeline_length (piped c p)))) (pick n (f_not ∷ w.frames) w.frames)

abbrev pub step_and_or : System → Process → AndOr → StepResult
step_and_or s w (first n p) = goes_to s w (at_pipeline n p) w.frames
step_and_or s w (joined a b n p) = goes_to s w (at_and_or a) (f_and_or b n p ∷ w.frames)

-- an empty list has the last status; what is begun with & has status 0 at first
abbrev pub step_list : System → Process → CommandList → StepResult
step_list s w end = completes s w w.status
step_list s w (next a false l) = goes_to s w (at_and_or a) (f_list l ∷ w.frames)
step_list s w (next a true l) = goes_to (spawn s w (at_and_or a) w.stdin w.stdout) (with_status (with_jobs w (w.jobs ++ (s.next_pid ∷ []))) 0) (at_list l) w.frames

-- an if of which no branch is taken has status 0; an else that is there is a branch
abbrev pub step_else : System → Process → ElsePart → List Frame → StepResult
step_else s w no_else k = goes_to s w (at_status 0) k
step_else s w (else l) k = goes_to s w (at_list l) k

-- a command is done with status n: the innermost frame
abbrev pub step_status : System → Process → ℕ → List Frame → StepResult
step_status s w n [] = exits n s
step_status s w n (f_list end ∷ k) = goes_to s w (at_status n) k
step_status s w n (f_list (next a b l) ∷ k) = goes_to s w (at_list (next a b l)) k
step_status s w n (f_and_or b m p ∷ k) = pick (pick b (eqb n 0) (not (eqb n 0))) (goes_to s w (at_pipeline m p) k) (goes_to s w (at_status n) k)
step_status s w n (f_not ∷ k) = goes_to s w (at_status (pick (eqb n 0) 1 0)) k
step_status s w n (f_if a e ∷ k) = pick (eqb n 0) (goes_to s w (at_list a) k) (step_else s w e k)
step_status s w n (f_condition a b ∷ k) = pick (eqb n 0) (goes_to s w (at_list b) (f_body a b ∷ k)) (goes_to s w (at_status 0) k)
step_status s w n (f_body a b ∷ k) = goes_to s w (at_list a) (f_condition a b ∷ k)
step_status s w n (f_for x [] l ∷ k) = goes_to s w (at_status n) k
step_status s w n (f_for x (a ∷ as₁) l ∷ k) = continues (with_control (with_variables w (set_variable w.variables x a)) (at_list l) (f_for x as₁ l ∷ k)) s
step_status s w n (f_handles i o ∷ k) = continues (with_control (with_io w i o) (at_status n) k) s
step_status s w n (f_arguments as₁ ∷ k) = continues (with_control (with_arguments w as₁) (at_status n) k) s

-- break, continue, return, exit go outward: break and continue to the innermost loop, or out of a function if that is
-- nearer; return out of the innermost function. Where there is nothing to go out of, the process ends
abbrev pub step_unwind : System → Process → Unwind → ℕ → List Frame → StepResult
step_unwind s w t n [] = exits n s
step_unwind s w t n (f_list l ∷ k) = goes_to s w (at_unwind t n) k
step_unwind s w t n (f_and_or b m p ∷ k) = goes_to s w (at_unwind t n) k
step_unwind s w t n (f_not ∷ k) = goes_to s w (at_unwind t n) k
step_unwind s w t n (f_if a b ∷ k) = goes_to s w (at_unwind t n) k
step_unwind s w t n (f_condition a b ∷ k) = in_loop t
  where
    in_loop : Unwind → StepResult
    in_loop break = goes_to s w (at_status 0) k
    in_loop continue = goes_to s w (at_list a) (f_condition a b ∷ k)
    in_loop return = goes_to s w (at_unwind return n) k
    in_loop exit = goes_to s w (at_unwind exit n) k
step_unwind s w t n (f_body a b ∷ k) = in_loop t
  where
    in_loop : Unwind → StepResult
    in_loop break = goes_to s w (at_status 0) k
    in_loop continue = goes_to s w (at_list a) (f_condition a b ∷ k)
    in_loop return = goes_to s w (at_unwind return n) k
    in_loop exit = goes_to s w (at_unwind exit n) k
step_unwind s w t n (f_for x as₁ l ∷ k) = in_loop t
  where
    in_loop : Unwind → StepResult
    in_loop break = goes_to s w (at_status 0) k
    in_loop continue = goes_to s w (at_status 0) (f_for x as₁ l ∷ k)
    in_loop return = goes_to s w (at_unwind return n) k
    in_loop exit = goes_to s w (at_unwind exit n) k
step_unwind s w t n (f_handles i o ∷ k) = continues (with_control (with_io w i o) (at_unwind t n) k) s
step_unwind s w t n (f_arguments as₁ ∷ k) = at_call t
  where
    at_call : Unwind → StepResult
    at_call break = continues (with_control (with_arguments w as₁) (at_status n) k) s
    at_call continue = continues (with_control (with_arguments w as₁) (at_status n) k) s
    at_call return = continues (with_control (with_arguments w as₁) (at_status n) k) s
    at_call exit = continues (with_control (with_arguments w as₁) (at_unwind exit n) k) s

-- waiting for others: a step only if all have exited; then the last one's status
abbrev pub step_wait : System → Process → ℕ → List ℕ → Option StepResult
step_wait s w n [] = some (completes s w n)
step_wait s w n (p ∷ ps) = opt (exit_status s.exited p) none (λ m. step_wait s w m ps)

-- $( ) is read until nobody can write to it any more
abbrev pub step_capture : System → Process → ℕ → List ℕ → Bool → Expansion → Purpose → Option StepResult
step_capture s w d bs q x y = read_or s d (λ t b. some (goes_to t w (at_capture d (bs ++ (b ∷ [])) q x y) w.frames)) (some (goes_to s w (at_words (insert_value x q (trim bs)) y) w.frames))

abbrev pub step_control : System → Process → Control → Option StepResult
step_control s w (at_list l) = some (step_list s w l)
step_control s w (at_and_or a) = some (step_and_or s w a)
step_control s w (at_pipeline n p) = some (step_pipeline s w n p)
step_control s w (at_command c) = some (step_command s w c)
step_control s w (at_words x y) = some (step_expansion s w x x.parts y)
step_control s w (at_redirects ts t) = some (step_redirects s w ts t)
step_control s w (at_builtin u) = step_builtin s w u
step_control s w (at_status n) = some (step_status s (with_status w n) n w.frames)
step_control s w (at_unwind t n) = some (step_unwind s w t n w.frames)
step_control s w (at_wait ps) = step_wait s w 0 ps
step_control s w (at_capture d bs q x y) = step_capture s w d bs q x y

-- the step of a process, if it can take one now
abbrev pub step : System → Process → Option StepResult
step s w = step_control s w w.control

abbrev pub enabled : System → Process → Bool
enabled s w = opt (step s w) false (λ o. true)

abbrev pub settle : Process → StepResult → System
settle w (continues v s) = with_processes s (replace s.processes w.pid v)
settle w (exits n s) = record { processes = without s.processes w.pid; next_pid = s.next_pid; handles = s.handles; pipes = s.pipes; files = s.files; input = s.input; paper = s.paper; exited = record { pid = w.pid; status = n } ∷ s.exited }

-- one move: a step of the process with this number, if it can take one
abbrev pub move : System → ℕ → Option System
move s n = on_some (find_process s.processes n) (λ w. on_some (step s w) (λ o. some (settle w o)))

abbrev pub moves : System → List ℕ → Option System
moves s [] = some s
moves s (n ∷ ns) = on_some (move s n) (λ t. moves t ns)

abbrev pub any_enabled : System → List Process → Bool
any_enabled s [] = false
any_enabled s (w ∷ ws) = enabled s w || any_enabled s ws

-- at first one process, number 0, reads the host's input (handle 0) and writes the paper (handle 1)
abbrev pub initial : CommandList → List ℕ → List File → System
initial l i fs = record { processes = record { pid = 0; control = at_list l; frames = []; stdin = 0; stdout = 1; variables = []; functions = []; arguments = []; status = 0; jobs = [] } ∷ []; next_pid = 1; handles = host_input ∷ host_paper ∷ []; pipes = []; files = fs; input = i; paper = []; exited = [] }
