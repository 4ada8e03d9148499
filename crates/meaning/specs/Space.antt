-- What a state needs, in words, generously: the bytes of words, names and values, files with their names, texts, pipes,
-- and what waits. A promise that memory runs out only when so much is needed rests on this.
use Rattle.std.specs.Prelude.{Bool, false, ◌||◌, List, [], ◌∷◌, ℕ, suc, ◌+◌, ◌*◌, length, eqb}
use Rattle.std.proofs.Math.Option.{some, none}
use Rattle.syntax.specs.Base.{pick, opt}
use Rattle.meaning.specs.System.{Handle, file_read, file_append, pipe_read, pipe_write, host_input, host_paper, here_text, File, Variable, Builtin, b_done, b_print, b_cat, b_head, b_wc, b_grep, b_seq, b_yes, b_read, Expansion, AfterRedirects, then_invoke, then_command, Purpose, to_assign, to_invoke, to_redirect, to_loop, to_select, to_match, Control, at_list, at_and_or, at_pipeline, at_command, at_words, at_redirects, at_builtin, at_status, at_unwind, at_wait, at_capture, Frame, f_list, f_and_or, f_not, f_if, f_condition, f_body, f_for, f_handles, f_arguments, Process, Exited, System, writes_pipe, reads_pipe, held}

-- a list of lists: 4 words for each, and their elements
abbrev pub words_size : {A : Type 0} → List (List A) → ℕ
words_size [] = 0
words_size (x ∷ xs) = (4 + length x) + words_size xs

abbrev pub builtin_size : Builtin → ℕ
builtin_size (b_done n) = 4
builtin_size (b_print bs u) = (4 + length bs) + builtin_size u
builtin_size (b_cat xs d) = 4 + words_size xs
builtin_size (b_head n) = 4
builtin_size (b_wc a b) = 4
builtin_size (b_grep p l b) = 4 + (length p + length l)
builtin_size (b_seq a b) = 4
builtin_size (b_yes l) = 4 + length l
builtin_size (b_read x l) = 4 + (length x + length l)

abbrev pub expansion_size : Expansion → ℕ
expansion_size x = 8 + (opt x.current 0 length + words_size x.complete)

abbrev pub after_size : AfterRedirects → ℕ
after_size (then_invoke as₁) = words_size as₁
after_size (then_command c) = 4

abbrev pub purpose_size : Purpose → ℕ
purpose_size (to_assign x ss ws ts) = 4
purpose_size (to_invoke ts) = 4
purpose_size (to_redirect k ts t) = 4 + after_size t
purpose_size (to_loop x l) = 4
purpose_size (to_select is) = 4
purpose_size (to_match b l is) = 4 + length b

abbrev pub control_size : Control → ℕ
control_size (at_list l) = 4
control_size (at_and_or a) = 4
control_size (at_pipeline n p) = 4
control_size (at_command c) = 4
control_size (at_words x y) = expansion_size x + purpose_size y
control_size (at_redirects ts t) = 4 + after_size t
control_size (at_builtin u) = builtin_size u
control_size (at_status n) = 4
control_size (at_unwind s n) = 4
control_size (at_wait ps) = 4 + length ps
control_size (at_capture d bs q x y) = (4 + length bs) + (expansion_size x + purpose_size y)

abbrev pub frames_size : List Frame → ℕ
frames_size [] = 0
frames_size (f_list l ∷ ks) = 4 + frames_size ks
frames_size (f_and_or a n p ∷ ks) = 4 + frames_size ks
frames_size (f_not ∷ ks) = 4 + frames_size ks
frames_size (f_if a b ∷ ks) = 4 + frames_size ks
frames_size (f_condition a b ∷ ks) = 4 + frames_size ks
frames_size (f_body a b ∷ ks) = 4 + frames_size ks
frames_size (f_for x as₁ l ∷ ks) = (4 + words_size as₁) + frames_size ks
frames_size (f_handles i o ∷ ks) = 4 + frames_size ks
frames_size (f_arguments as₁ ∷ ks) = (4 + words_size as₁) + frames_size ks

abbrev pub variables_size : List Variable → ℕ
variables_size [] = 0
variables_size (v ∷ vs) = (8 + (length v.name + length v.value)) + variables_size vs

abbrev pub processes_size : List Process → ℕ
processes_size [] = 0
processes_size (w ∷ ws) = (32 + (control_size w.control + frames_size w.frames)) + ((variables_size w.variables + 4 * length w.functions) + ((words_size w.arguments + length w.jobs) + processes_size ws))

-- who has a handle open or will have it open again; who waits for a process or began it as a job
abbrev pub among : ℕ → List ℕ → Bool
among x [] = false
among x (y ∷ ys) = eqb x y || among x ys

abbrev pub builtin_refers : ℕ → Builtin → Bool
builtin_refers d (b_done n) = false
builtin_refers d (b_print bs u) = builtin_refers d u
builtin_refers d (b_cat xs none) = false
builtin_refers d (b_cat xs (some e)) = eqb d e
builtin_refers d (b_head n) = false
builtin_refers d (b_wc a b) = false
builtin_refers d (b_grep p l b) = false
builtin_refers d (b_seq a b) = false
builtin_refers d (b_yes l) = false
builtin_refers d (b_read x l) = false

abbrev pub control_refers : ℕ → Control → Bool
control_refers d (at_list l) = false
control_refers d (at_and_or a) = false
control_refers d (at_pipeline n p) = false
control_refers d (at_command c) = false
control_refers d (at_words x y) = false
control_refers d (at_redirects t n) = false
control_refers d (at_builtin u) = builtin_refers d u
control_refers d (at_status n) = false
control_refers d (at_unwind s n) = false
control_refers d (at_wait ps) = false
control_refers d (at_capture e bs q x y) = eqb d e

abbrev pub frames_refer : ℕ → List Frame → Bool
frames_refer d [] = false
frames_refer d (f_list l ∷ ks) = frames_refer d ks
frames_refer d (f_and_or a n p ∷ ks) = frames_refer d ks
frames_refer d (f_not ∷ ks) = frames_refer d ks
frames_refer d (f_if a b ∷ ks) = frames_refer d ks
frames_refer d (f_condition a b ∷ ks) = frames_refer d ks
frames_refer d (f_body a b ∷ ks) = frames_refer d ks
frames_refer d (f_for x as₁ l ∷ ks) = frames_refer d ks
frames_refer d (f_handles i o ∷ ks) = (eqb d i || eqb d o) || frames_refer d ks
frames_refer d (f_arguments as₁ ∷ ks) = frames_refer d ks

abbrev pub referenced : ℕ → List Process → Bool
referenced d [] = false
referenced d (w ∷ ws) = ((eqb d w.stdin || eqb d w.stdout) || (frames_refer d w.frames || control_refers d w.control)) || referenced d ws

abbrev pub awaits : ℕ → Control → Bool
awaits p (at_list l) = false
awaits p (at_and_or a) = false
awaits p (at_pipeline n q) = false
awaits p (at_command c) = false
awaits p (at_words x y) = false
awaits p (at_redirects t n) = false
awaits p (at_builtin u) = false
awaits p (at_status n) = false
awaits p (at_unwind s n) = false
awaits p (at_wait ps) = among p ps
awaits p (at_capture d bs q x y) = false

abbrev pub wanted : ℕ → List Process → Bool
wanted p [] = eqb p 0
wanted p (w ∷ ws) = (among p w.jobs || awaits p w.control) || wanted p ws

abbrev pub handle_size : Handle → ℕ
handle_size (file_read x n) = 8 + length x
handle_size (file_append x) = 8 + length x
handle_size (pipe_read p) = 8
handle_size (pipe_write p) = 8
handle_size host_input = 8
handle_size host_paper = 8
handle_size (here_text bs) = 8 + length bs

abbrev pub handles_size : ℕ → List Process → List Handle → ℕ
handles_size d ws [] = 0
handles_size d ws (o ∷ os) = pick (referenced d ws) (handle_size o) 0 + handles_size (suc d) ws os

abbrev pub pipes_size : ℕ → System → List (List ℕ) → ℕ
pipes_size p s [] = 0
pipes_size p s (b ∷ bs) = pick (held s.handles (writes_pipe p) s.processes || held s.handles (reads_pipe p) s.processes) (8 + length b) 0 + pipes_size (suc p) s bs

abbrev pub exited_size : List Process → List Exited → ℕ
exited_size ws [] = 0
exited_size ws (g ∷ gs) = pick (wanted g.pid ws) 4 0 + exited_size ws gs

abbrev pub files_size : List File → ℕ
files_size [] = 0
files_size (f ∷ fs) = (8 + (length f.name + length f.bytes)) + files_size fs

-- what a state needs, in words. Handles that nobody has, pipes of which nobody has an end, and statuses that nobody
-- waits for don't count
abbrev pub needs : System → ℕ
needs s = (processes_size s.processes + handles_size 0 s.processes s.handles) + ((pipes_size 0 s s.pipes + files_size s.files) + exited_size s.processes s.exited)
