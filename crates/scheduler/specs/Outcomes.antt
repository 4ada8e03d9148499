-- What a run came to.
use Rattle.std.specs.Prelude.{◌≡◌, ℕ, ◌+◌, ◌*◌, ◌<◌, ◌≤◌, Bool, false, ◌⊎◌, List, [], ◌∷◌, ◌++◌, length, get_or, take, drop, replicate, ◌≢◌, slice_index_or, Ok, Err, Result}
use Rattle.std.proofs.Math.Option.{some}
use Rattle.syntax.specs.Tree.{CommandList}
use Rattle.code.specs.Code.{ListCode}
use Rattle.meaning.specs.System.{Control, Frame, Process, System, host_input, host_paper, find_process, exit_status}
use Rattle.meaning.specs.Step.{any_enabled, moves, initial}
use Rattle.meaning.specs.Space.{needs}
use Rattle.machine.specs.declared.process.Process.{Process as Process'}
use Rattle.machine.specs.declared.process.Control.TheVariants.{AtList}
use Rattle.machine.specs.Represent.{Rest, abstract, Rep}
use Rattle.machine.specs.Promises.{Beyond}
use Rattle.scheduler.specs.declared.slices.Outcome.{Outcome}
use Rattle.scheduler.specs.declared.slices.End.{End}
use Rattle.scheduler.specs.declared.slices.End.TheVariants.{Exited, Still, Spent}
use Rattle.machine.specs.declared.halt.Halt.{Halt}
use Rattle.machine.specs.declared.halt.Halt.TheVariants.{NoRoom, PaperFull, Unsupported}
use Rattle.words.specs.Paper.{OnPaper}

-- the list of commands l with the host's input i; `words` are the words lent for the run
abbrev pub OutcomeSays : CommandList → List ℕ → ℕ → ℕ → List ℕ → List ℕ → ℕ → Result End Halt → Type 0
-- all processes have exited, the first one with status k
OutcomeSays l i most words o o' n (Ok (Exited k)) = (ms : List ℕ) × (s : System) × (moves (initial l i []) ms ≡ some s) × (s.processes ≡ []) × (exit_status s.exited 0 ≡ some k) × OnPaper o o' n s.paper
-- processes are left, and none can go on
OutcomeSays l i most words o o' n (Ok Still) = (ms : List ℕ) × (s : System) × (moves (initial l i []) ms ≡ some s) × (s.processes ≢ []) × (any_enabled s s.processes ≡ false) × OnPaper o o' n s.paper
-- as many moves as were allowed
OutcomeSays l i most words o o' n (Ok Spent) = (ms : List ℕ) × (s : System) × (moves (initial l i []) ms ≡ some s) × (length ms ≡ most) × OnPaper o o' n s.paper
-- what is needed doesn't fit into the words lent
OutcomeSays l i most words o o' n (Err NoRoom) = (ms : List ℕ) × (s : System) × (moves (initial l i []) ms ≡ some s) × (words < 65376 + 16 * needs s) × OnPaper o o' n s.paper
-- the next byte doesn't fit on the paper
OutcomeSays l i most words o o' n (Err PaperFull) = (ms : List ℕ) × (s u : System) × (m : ℕ) × (moves (initial l i []) ms ≡ some s) × (moves (initial l i []) (ms ++ (m ∷ [])) ≡ some u) × (length o < length u.paper) × OnPaper o o' n s.paper
-- the first process has come to something that the machine does not have
OutcomeSays l i most words o o' n (Err Unsupported) = (ms : List ℕ) × (s : System) × (w : Process) × (moves (initial l i []) ms ≡ some s) × (find_process s.processes 0 ≡ some w) × (Beyond w.control ⊎ (w.stdout ≢ 1)) × OnPaper o o' n s.paper

-- for every list of commands that stands at the root of the code, and every input
pub record Executed (text code : List ℕ) (root most words : ℕ) (o o' : List ℕ) (r : Outcome) : Type 0 where
  pub says : (l : CommandList) (i : List ℕ) → ListCode text code root l → OutcomeSays l i most words o o' r.printed r.end

-- the first process at the beginning of the list of commands at the root: its output is the paper
abbrev pub at_root : ℕ → Process'
at_root root = record { control = AtList root; status = 0; stdin = 0; stdout = 1; base = 1 }

-- the first process: number 0, with nothing of its own yet
abbrev pub first_rest : Rest
first_rest = record { pid = 0; variables = []; functions = []; arguments = []; jobs = [] }

abbrev pub as_it_is : ℕ → ℕ
as_it_is n = n

-- a system with one process
abbrev pub running : List ℕ → Process → List ℕ → System
running i w o = record { processes = w ∷ []; next_pid = 1; handles = host_input ∷ host_paper ∷ []; pipes = []; files = []; input = i; paper = o; exited = [] }

-- after so many moves from the beginning, p stands for the one process, whose place in the table is 0; it is alone in the
-- queue; and so many bytes are on the paper
pub record Going (text code : List ℕ) (live : List Bool) (m : List (List ℕ)) (o₀ o : List ℕ) (place made : ℕ) (p : Process') (l : CommandList) (i : List ℕ) : Type 0 where
  pub c : Control
  pub k : List Frame
  pub came : moves (initial l i []) (replicate made 0) ≡ some (running i (abstract as_it_is p first_rest c k) (take place o))
  pub rep : Rep text code as_it_is live m p first_rest c k
  pub base : p.base ≡ 1
  pub queue : get_or m 0 [] ≡ 0 ∷ []
  pub rest : (j : ℕ) → 5 ≤ j → slice_index_or m j [] ≡ []
  pub long : length o ≡ length o₀
  pub within : place ≤ length o
  pub behind : drop place o ≡ drop place o₀

pub record Goes (text code : List ℕ) (root : ℕ) (live : List Bool) (m : List (List ℕ)) (o₀ o : List ℕ) (place made : ℕ) (p : Process') : Type 0 where
  pub says : (l : CommandList) (i : List ℕ) → ListCode text code root l → Going text code live m o₀ o place made p l i
