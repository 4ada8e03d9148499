-- A system: processes, what they have open, files, pipes, and reading and writing a byte.
use Rattle.std.specs.Prelude.{Bool, false, ◌||◌, List, [], ◌∷◌, ◌++◌, ℕ, suc, length, eqb, ltb}
use Rattle.std.proofs.Math.Option.{Option, some, none}
use Rattle.syntax.specs.Base.{pick, opt, on_some, nth, put, Name, same}
use Rattle.syntax.specs.Tree.{RedirectKind, Word, Words, Assignments, Redirects, Command, ElsePart, Arms, Pipeline, AndOr, CommandList}

-- a byte of a word, and whether it comes from quotes
pub record QuotedByte : Type 0 where
  pub byte : ℕ
  pub quoted : Bool

-- what is open: a file by its name, read from a place; a file that is written behind what is there; the two ends of
-- a pipe; the host's input; the paper; what is left of a text given by <<
pub data Handle : Type 0 where
  file_read : Name → ℕ → Handle
  file_append : Name → Handle
  pipe_read : ℕ → Handle
  pipe_write : ℕ → Handle
  host_input : Handle
  host_paper : Handle
  here_text : List ℕ → Handle

pub record File : Type 0 where
  pub name : Name
  pub bytes : List ℕ

pub record Variable : Type 0 where
  pub name : Name
  pub value : List ℕ

pub record Function : Type 0 where
  pub name : Name
  pub body : CommandList

-- a builtin command at work, byte by byte
pub data Builtin : Type 0 where
  -- it is done, with this status
  b_done : ℕ → Builtin
  -- these bytes are printed, then it goes on
  b_print : List ℕ → Builtin → Builtin
  -- the names of files still to be copied; the handle that is read now
  b_cat : List Name → Option ℕ → Builtin
  -- so many lines still
  b_head : ℕ → Builtin
  -- ends of lines and bytes so far
  b_wc : ℕ → ℕ → Builtin
  -- what is looked for, the line so far, whether it was found before
  b_grep : List ℕ → List ℕ → Bool → Builtin
  -- from, to
  b_seq : ℕ → ℕ → Builtin
  b_yes : List ℕ → Builtin
  -- into this variable; the line so far
  b_read : Name → List ℕ → Builtin

-- words being expanded: the words to come; the parts to come of this one; what there is of it so far, if anything is;
-- the words that are complete; whether values are split at blanks
pub record Expansion : Type 0 where
  pub words : Words
  pub parts : Word
  pub current : Option (List QuotedByte)
  pub complete : List (List QuotedByte)
  pub split : Bool

-- what follows when all redirections are made: these words are invoked, or this command is done
pub data AfterRedirects : Type 0 where
  then_invoke : List (List ℕ) → AfterRedirects
  then_command : Command → AfterRedirects

-- what words are expanded for
pub data Purpose : Type 0 where
  to_assign : Name → Assignments → Words → Redirects → Purpose
  to_invoke : Redirects → Purpose
  to_redirect : RedirectKind → Redirects → AfterRedirects → Purpose
  to_loop : Name → CommandList → Purpose
  to_select : Arms → Purpose
  to_match : List ℕ → CommandList → Arms → Purpose

pub data Unwind : Type 0 where
  break continue return exit : Unwind

-- what a process does next
pub data Control : Type 0 where
  at_list : CommandList → Control
  at_and_or : AndOr → Control
  at_pipeline : Bool → Pipeline → Control
  at_command : Command → Control
  at_words : Expansion → Purpose → Control
  at_redirects : Redirects → AfterRedirects → Control
  at_builtin : Builtin → Control
  -- a command is done, with this status
  at_status : ℕ → Control
  at_unwind : Unwind → ℕ → Control
  -- it waits until these processes have exited, and has the last one's status
  at_wait : List ℕ → Control
  -- what a process prints is read from a handle until it ends; whether that stands in quotes
  at_capture : ℕ → List ℕ → Bool → Expansion → Purpose → Control

-- what it does after that, innermost first
pub data Frame : Type 0 where
  -- the rest of a list
  f_list : CommandList → Frame
  -- && (true) or ||, and the pipeline behind it, with its !
  f_and_or : Bool → Bool → Pipeline → Frame
  f_not : Frame
  -- the lists of then and else
  f_if : CommandList → ElsePart → Frame
  -- a while whose condition is at work, and one whose body is: condition and body
  f_condition : CommandList → CommandList → Frame
  f_body : CommandList → CommandList → Frame
  -- the words still to come of a for
  f_for : Name → List (List ℕ) → CommandList → Frame
  -- the two handles that are open again after this
  f_handles : ℕ → ℕ → Frame
  -- the arguments that hold again after a function
  f_arguments : List (List ℕ) → Frame

pub record Process : Type 0 where
  pub pid : ℕ
  pub control : Control
  pub frames : List Frame
  -- the handles that it reads from and writes to, by number
  pub stdin : ℕ
  pub stdout : ℕ
  pub variables : List Variable
  pub functions : List Function
  pub arguments : List (List ℕ)
  -- the last status, $?
  pub status : ℕ
  -- the processes begun with & since the last wait
  pub jobs : List ℕ

pub record Exited : Type 0 where
  pub pid : ℕ
  pub status : ℕ

-- handles and pipes are numbered in the order in which they were made, files stand oldest first, those who have
-- exited newest first
pub record System : Type 0 where
  pub processes : List Process
  pub next_pid : ℕ
  pub handles : List Handle
  pub pipes : List (List ℕ)
  pub files : List File
  pub input : List ℕ
  pub paper : List ℕ
  pub exited : List Exited

abbrev pub with_processes : System → List Process → System
with_processes s ws = record { processes = ws; next_pid = s.next_pid; handles = s.handles; pipes = s.pipes; files = s.files; input = s.input; paper = s.paper; exited = s.exited }

abbrev pub with_handles : System → List Handle → System
with_handles s os = record { processes = s.processes; next_pid = s.next_pid; handles = os; pipes = s.pipes; files = s.files; input = s.input; paper = s.paper; exited = s.exited }

abbrev pub with_pipes : System → List (List ℕ) → System
with_pipes s ps = record { processes = s.processes; next_pid = s.next_pid; handles = s.handles; pipes = ps; files = s.files; input = s.input; paper = s.paper; exited = s.exited }

abbrev pub with_files : System → List File → System
with_files s fs = record { processes = s.processes; next_pid = s.next_pid; handles = s.handles; pipes = s.pipes; files = fs; input = s.input; paper = s.paper; exited = s.exited }

abbrev pub with_input : System → List ℕ → System
with_input s i = record { processes = s.processes; next_pid = s.next_pid; handles = s.handles; pipes = s.pipes; files = s.files; input = i; paper = s.paper; exited = s.exited }

abbrev pub with_paper : System → List ℕ → System
with_paper s p = record { processes = s.processes; next_pid = s.next_pid; handles = s.handles; pipes = s.pipes; files = s.files; input = s.input; paper = p; exited = s.exited }

-- files by name
abbrev pub find_file : List File → Name → Option (List ℕ)
find_file [] x = none
find_file (f ∷ fs) x = pick (same f.name x) (some f.bytes) (find_file fs x)

-- a file keeps its place when it is written; a new one is the newest
abbrev pub set_file : List File → Name → List ℕ → List File
set_file [] x bs = record { name = x; bytes = bs } ∷ []
set_file (f ∷ fs) x bs = pick (same f.name x) (record { name = x; bytes = bs } ∷ fs) (f ∷ set_file fs x bs)

abbrev pub remove_file : List File → Name → List File
remove_file [] x = []
remove_file (f ∷ fs) x = pick (same f.name x) fs (f ∷ remove_file fs x)

-- the end of pipe p that is written to, or read from
abbrev pub writes_pipe : ℕ → Handle → Bool
writes_pipe p (file_read x n) = false
writes_pipe p (file_append x) = false
writes_pipe p (pipe_read q) = false
writes_pipe p (pipe_write q) = eqb p q
writes_pipe p host_input = false
writes_pipe p host_paper = false
writes_pipe p (here_text bs) = false

abbrev pub reads_pipe : ℕ → Handle → Bool
reads_pipe p (file_read x n) = false
reads_pipe p (file_append x) = false
reads_pipe p (pipe_read q) = eqb p q
reads_pipe p (pipe_write q) = false
reads_pipe p host_input = false
reads_pipe p host_paper = false
reads_pipe p (here_text bs) = false

-- somebody has such a handle open, or will have it open again: as its input or output, saved in a frame, in a cat
-- or in a $( )
abbrev pub handle_is : List Handle → (Handle → Bool) → ℕ → Bool
handle_is os f n = opt (nth os n) false f

abbrev pub in_frames : List Handle → (Handle → Bool) → List Frame → Bool
in_frames os f [] = false
in_frames os f (f_list l ∷ ks) = in_frames os f ks
in_frames os f (f_and_or a n p ∷ ks) = in_frames os f ks
in_frames os f (f_not ∷ ks) = in_frames os f ks
in_frames os f (f_if a b ∷ ks) = in_frames os f ks
in_frames os f (f_condition a b ∷ ks) = in_frames os f ks
in_frames os f (f_body a b ∷ ks) = in_frames os f ks
in_frames os f (f_for x ws l ∷ ks) = in_frames os f ks
in_frames os f (f_handles i o ∷ ks) = handle_is os f i || (handle_is os f o || in_frames os f ks)
in_frames os f (f_arguments as₁ ∷ ks) = in_frames os f ks

abbrev pub in_control : List Handle → (Handle → Bool) → Control → Bool
in_control os f (at_list l) = false
in_control os f (at_and_or a) = false
in_control os f (at_pipeline n p) = false
in_control os f (at_command c) = false
in_control os f (at_words x y) = false
in_control os f (at_redirects t n) = false
in_control os f (at_builtin u) = in_builtin u
  where
    in_builtin : Builtin → Bool
    in_builtin (b_done n) = false
    in_builtin (b_print bs v) = in_builtin v
    in_builtin (b_cat xs none) = false
    in_builtin (b_cat xs (some d)) = handle_is os f d
    in_builtin (b_head n) = false
    in_builtin (b_wc a b) = false
    in_builtin (b_grep p l b) = false
    in_builtin (b_seq a b) = false
    in_builtin (b_yes l) = false
    in_builtin (b_read x l) = false
in_control os f (at_status n) = false
in_control os f (at_unwind s n) = false
in_control os f (at_wait ps) = false
in_control os f (at_capture d bs q x y) = handle_is os f d

abbrev pub held : List Handle → (Handle → Bool) → List Process → Bool
held os f [] = false
held os f (w ∷ ws) = (handle_is os f w.stdin || handle_is os f w.stdout) || ((in_frames os f w.frames || in_control os f w.control) || held os f ws)

-- reading a byte from a handle: a byte and the system behind it; there are no more; there may be more later
pub data ReadByte : Type 0 where
  got : ℕ → System → ReadByte
  at_end : ReadByte
  must_wait : ReadByte

-- an empty pipe ends when nobody holds its other end any more
abbrev pub read_pipe : System → ℕ → List ℕ → ReadByte
read_pipe s p [] = pick (held s.handles (writes_pipe p) s.processes) must_wait at_end
read_pipe s p (b ∷ bs) = got b (with_pipes s (put s.pipes p bs))

abbrev pub read_input : System → List ℕ → ReadByte
read_input s [] = at_end
read_input s (b ∷ bs) = got b (with_input s bs)

abbrev pub read_text : System → ℕ → List ℕ → ReadByte
read_text s d [] = at_end
read_text s d (b ∷ bs) = got b (with_handles s (put s.handles d (here_text bs)))

-- a file that is read is a name and a place: where there is no such file now, or nothing at that place, it ends.
-- From what is open for writing there is nothing to read
abbrev pub read_handle : System → ℕ → Handle → ReadByte
read_handle s d (file_read x n) = opt (on_some (find_file s.files x) (λ bs. nth bs n)) at_end (λ b. got b (with_handles s (put s.handles d (file_read x (suc n)))))
read_handle s d (file_append x) = at_end
read_handle s d (pipe_read p) = opt (nth s.pipes p) at_end (read_pipe s p)
read_handle s d (pipe_write p) = at_end
read_handle s d host_input = read_input s s.input
read_handle s d host_paper = at_end
read_handle s d (here_text bs) = read_text s d bs

abbrev pub read_byte : System → ℕ → ReadByte
read_byte s d = opt (nth s.handles d) at_end (read_handle s d)

-- writing a byte to a handle: it is written; the pipe is full; nobody can read the pipe any more
pub data WriteByte : Type 0 where
  wrote : System → WriteByte
  pipe_full : WriteByte
  no_reader : WriteByte

-- a pipe holds up to 512 bytes
abbrev pub write_pipe : System → ℕ → ℕ → List ℕ → WriteByte
write_pipe s p b bs = pick (held s.handles (reads_pipe p) s.processes) (pick (ltb (length bs) 512) (wrote (with_pipes s (put s.pipes p (bs ++ (b ∷ []))))) pipe_full) no_reader

-- who writes to a file writes behind what is there, and makes it again if it was removed.
-- What is written to something that is open for reading is lost
abbrev pub write_handle : System → ℕ → Handle → WriteByte
write_handle s b (file_read x n) = wrote s
write_handle s b (file_append x) = wrote (with_files s (set_file s.files x (opt (find_file s.files x) [] (λ bs. bs) ++ (b ∷ []))))
write_handle s b (pipe_read p) = wrote s
write_handle s b (pipe_write p) = opt (nth s.pipes p) no_reader (write_pipe s p b)
write_handle s b host_input = wrote s
write_handle s b host_paper = wrote (with_paper s (s.paper ++ (b ∷ [])))
write_handle s b (here_text bs) = wrote s

abbrev pub write_byte : System → ℕ → ℕ → WriteByte
write_byte s d b = opt (nth s.handles d) no_reader (write_handle s b)

-- processes by number
abbrev pub find_process : List Process → ℕ → Option Process
find_process [] n = none
find_process (w ∷ ws) n = pick (eqb w.pid n) (some w) (find_process ws n)

abbrev pub replace : List Process → ℕ → Process → List Process
replace [] n v = []
replace (w ∷ ws) n v = pick (eqb w.pid n) (v ∷ ws) (w ∷ replace ws n v)

abbrev pub without : List Process → ℕ → List Process
without [] n = []
without (w ∷ ws) n = pick (eqb w.pid n) ws (w ∷ without ws n)

abbrev pub exit_status : List Exited → ℕ → Option ℕ
exit_status [] n = none
exit_status (g ∷ gs) n = pick (eqb g.pid n) (some g.status) (exit_status gs n)

-- a variable that was never set stands for nothing
abbrev pub variable : List Variable → Name → List ℕ
variable [] x = []
variable (v ∷ vs) x = pick (same v.name x) v.value (variable vs x)

abbrev pub set_variable : List Variable → Name → List ℕ → List Variable
set_variable [] x b = record { name = x; value = b } ∷ []
set_variable (v ∷ vs) x b = pick (same v.name x) (record { name = x; value = b } ∷ vs) (v ∷ set_variable vs x b)

abbrev pub function_body : List Function → Name → Option CommandList
function_body [] x = none
function_body (f ∷ fs) x = pick (same f.name x) (some f.body) (function_body fs x)
