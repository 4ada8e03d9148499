-- A process in a system of its own, where its handles have numbers of their own, in the order in which it got them, and
-- where it reads from and writes to the outside through the host's input and paper. It is deterministic: its next action
-- is to take a step, to read a byte or the end, to write a byte, or to exit. A table gives the system's number of each of
-- its handles.
use mathlib.Core.Path.{◌≡◌, refl}
use mathlib.Core.Bool.{Bool, false, true}
use mathlib.Core.List.{[], ◌∷◌, List}
use mathlib.Core.Option.{none, Option, some}
use Prim.Native.Nat.{◌<◌, ◌≤◌, suc, zero, ℕ}
use native.Mathlib.Omega.{arith}
use lib.ListN.{length}
use Rattle.syntax.specs.Base.{nth, pick}
use Rattle.meaning.specs.System.{at_and_or, at_builtin, at_capture, at_command, at_list, at_pipeline, at_redirects, at_status, at_unwind, at_wait, at_words, b_cat, b_done, b_grep, b_head, b_print, b_read, b_seq, b_wc, b_yes, Builtin, Control, file_append, file_read, Handle, here_text, host_input, host_paper, pipe_read, pipe_write, Process, System, with_input}
use Rattle.meaning.specs.Step.{continues, exits, step, StepResult}
use Rattle.confluence.proofs.Chain.{Action, finished, reading, silent, writing}

-- local numbers are places in a table of the system's numbers
abbrev pub Table : List ℕ → Bool → ℕ → ℕ → Type 0
Table table z i a = nth table a ≡ some i

-- what is open under the two numbers: the same, or the outside's ends
abbrev pub Alike : Handle → Handle → Option Handle → Option Handle → Type 0
Alike i o none none = Unit {0}
Alike i o none (some q) = ⊥
Alike i o (some p) none = ⊥
Alike i o (some p) (some (file_read x n)) = p ≡ file_read x n
Alike i o (some p) (some (file_append x)) = p ≡ file_append x
Alike i o (some p) (some (pipe_read n)) = ⊥
Alike i o (some p) (some (pipe_write n)) = ⊥
Alike i o (some p) (some host_input) = p ≡ i
Alike i o (some p) (some host_paper) = p ≡ o
Alike i o (some p) (some (here_text bs)) = p ≡ here_text bs

-- handles that no read and no write changes
abbrev pub Fixed : Option Handle → Type 0
Fixed none = Unit {0}
Fixed (some (file_read x n)) = ⊥
Fixed (some (file_append x)) = Unit {0}
Fixed (some (pipe_read n)) = Unit {0}
Fixed (some (pipe_write n)) = Unit {0}
Fixed (some host_input) = Unit {0}
Fixed (some host_paper) = Unit {0}
Fixed (some (here_text bs)) = ⊥

pub record Agrees (i0 o0 : Handle) (table : List ℕ) (s x : System) : Type 0 where
  pub lengths : length table ≡ length x.handles
  pub within : (a i : ℕ) → nth table a ≡ some i → i < length s.handles
  pub once : (a b i : ℕ) → nth table a ≡ some i → nth table b ≡ some i → a ≡ b
  pub alike : (a i : ℕ) → nth table a ≡ some i → Alike i0 o0 (nth s.handles i) (nth x.handles a)
  pub files : s.files ≡ x.files

pub record Preserves (table : List ℕ) (s t : System) : Type 0 where
  pub processes : t.processes ≡ s.processes
  pub next1 : t.next_pid ≡ s.next_pid
  pub pipes : t.pipes ≡ s.pipes
  pub input : t.input ≡ s.input
  pub paper : t.paper ≡ s.paper
  pub exited : t.exited ≡ s.exited
  pub longer : length s.handles ≤ length t.handles
  pub others : (i : ℕ) → i < length s.handles → ((a : ℕ) → nth table a ≡ some i → Fixed (nth s.handles i)) → nth t.handles i ≡ nth s.handles i

abbrev pub InputHandle : Handle → Type 0
InputHandle (file_read x n) = ⊥
InputHandle (file_append x) = ⊥
InputHandle (pipe_read p) = Unit {0}
InputHandle (pipe_write p) = ⊥
InputHandle host_input = Unit {0}
InputHandle host_paper = ⊥
InputHandle (here_text bs) = ⊥

abbrev pub OutputHandle : Handle → Type 0
OutputHandle (file_read x n) = ⊥
OutputHandle (file_append x) = ⊥
OutputHandle (pipe_read p) = ⊥
OutputHandle (pipe_write p) = Unit {0}
OutputHandle host_input = ⊥
OutputHandle host_paper = Unit {0}
OutputHandle (here_text bs) = ⊥

pub preserves_self : (table : List ℕ) (s : System) → Preserves table s s
preserves_self table s = record { processes = refl; next1 = refl; pipes = refl; input = refl; paper = refl; exited = refl; longer = omega arith; others = λ i h g. refl }

-- what a local process asks of the outside: nothing, a byte to read, a byte to be written
pub data Request : Type 0 where
  r_none : Request
  r_read : Request
  r_write : ℕ → Request

abbrev pub is_host_input : Option Handle → Bool
is_host_input none = false
is_host_input (some (file_read x n)) = false
is_host_input (some (file_append x)) = false
is_host_input (some (pipe_read p)) = false
is_host_input (some (pipe_write p)) = false
is_host_input (some host_input) = true
is_host_input (some host_paper) = false
is_host_input (some (here_text bs)) = false

abbrev pub is_host_paper : Option Handle → Bool
is_host_paper none = false
is_host_paper (some (file_read x n)) = false
is_host_paper (some (file_append x)) = false
is_host_paper (some (pipe_read p)) = false
is_host_paper (some (pipe_write p)) = false
is_host_paper (some host_input) = false
is_host_paper (some host_paper) = true
is_host_paper (some (here_text bs)) = false

abbrev pub builtin_request : System → Process → Builtin → Request
builtin_request x v (b_done n) = r_none
builtin_request x v (b_print [] u) = r_none
builtin_request x v (b_print (b ∷ bs) u) = pick (is_host_paper (nth x.handles v.stdout)) (r_write b) r_none
builtin_request x v (b_cat xs none) = r_none
builtin_request x v (b_cat xs (some d)) = pick (is_host_input (nth x.handles d)) r_read r_none
builtin_request x v (b_head zero) = r_none
builtin_request x v (b_head (suc n)) = pick (is_host_input (nth x.handles v.stdin)) r_read r_none
builtin_request x v (b_wc l n) = pick (is_host_input (nth x.handles v.stdin)) r_read r_none
builtin_request x v (b_grep p l f) = pick (is_host_input (nth x.handles v.stdin)) r_read r_none
builtin_request x v (b_seq a b) = r_none
builtin_request x v (b_yes l) = r_none
builtin_request x v (b_read n l) = pick (is_host_input (nth x.handles v.stdin)) r_read r_none

abbrev pub request : System → Process → Control → Request
request x v (at_list l) = r_none
request x v (at_and_or a) = r_none
request x v (at_pipeline n p) = r_none
request x v (at_command c) = r_none
request x v (at_words a y) = r_none
request x v (at_redirects ts t) = r_none
request x v (at_builtin u) = builtin_request x v u
request x v (at_status n) = r_none
request x v (at_unwind t n) = r_none
request x v (at_wait ps) = r_none
request x v (at_capture d bs q a y) = pick (is_host_input (nth x.handles d)) r_read r_none

-- the handle that is read
abbrev pub builtin_source : Process → Builtin → ℕ
builtin_source w (b_done n) = w.stdin
builtin_source w (b_print bs u) = w.stdin
builtin_source w (b_cat xs none) = w.stdin
builtin_source w (b_cat xs (some d)) = d
builtin_source w (b_head n) = w.stdin
builtin_source w (b_wc l n) = w.stdin
builtin_source w (b_grep p l f) = w.stdin
builtin_source w (b_seq a b) = w.stdin
builtin_source w (b_yes l) = w.stdin
builtin_source w (b_read x l) = w.stdin

abbrev pub control_source : Process → Control → ℕ
control_source w (at_list l) = 0
control_source w (at_and_or a) = 0
control_source w (at_pipeline n p) = 0
control_source w (at_command c) = 0
control_source w (at_words a y) = 0
control_source w (at_redirects ts t) = 0
control_source w (at_builtin u) = builtin_source w u
control_source w (at_status n) = 0
control_source w (at_unwind t n) = 0
control_source w (at_wait ps) = 0
control_source w (at_capture d bs q a y) = d

pub record Local : Type 0 where
  pub system : System
  pub process : Process

abbrev pub as_input : Option ℕ → List ℕ
as_input none = []
as_input (some b) = b ∷ []

abbrev pub after_step : Local → Option StepResult → Local
after_step y none = y
after_step y (some (continues v x)) = record { system = x; process = v }
after_step y (some (exits n x)) = y

abbrev pub own_action : Option StepResult → Action Local
own_action none = finished 0
own_action (some (continues v x)) = silent (record { system = x; process = v })
own_action (some (exits n x)) = finished n

abbrev pub respond : Local → Request → Action Local
respond y r_none = own_action (step y.system y.process)
respond y r_read = reading (λ r. after_step y (step (with_input y.system (as_input r)) y.process))
respond y (r_write b) = writing b (after_step y (step y.system y.process))

abbrev pub local_step : Local → Action Local
local_step y = respond y (request y.system y.process y.process.control)
