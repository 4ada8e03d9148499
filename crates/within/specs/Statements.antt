-- What is proved of the runs of covered texts.
use Rattle.std.specs.Prelude.{◌≡◌, true, List, [], ℕ, ◌≤◌}
use Rattle.std.proofs.Math.Option.{some}
use Rattle.syntax.specs.Tree.{CommandList}
use Rattle.syntax.specs.Stage.{stage}
use Rattle.meaning.specs.System.{Process, System, find_process}
use Rattle.meaning.specs.Step.{moves, initial}
use Rattle.machine.specs.Promises.{Beyond}
use Rattle.slice.specs.Slice.{covers_list}

-- no order of moves of a covered text of the core leads to a form that the machine does not have, and the output is
-- always the paper
abbrev pub NeverBeyond : Type 0
NeverBeyond = (l : CommandList) (i ms : List ℕ) (s : System) (w : Process) → stage l ≤ 0 → covers_list l ≡ true → moves (initial l i []) ms ≡ some s → find_process s.processes 0 ≡ some w → (Beyond w.control → ⊥) × (w.stdout ≡ 1)
