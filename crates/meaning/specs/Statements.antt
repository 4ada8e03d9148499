-- What is proved of the meaning.
use Rattle.std.specs.Prelude.{◌≡◌, true, false, List, [], ◌∷◌, ◌++◌, ℕ, ◌+◌, ◌*◌, ◌<◌, ◌≤◌, length}
use Rattle.std.proofs.Math.Option.{some}
use Rattle.syntax.specs.Base.{pick}
use Rattle.syntax.specs.Tree.{CommandList}
use Rattle.syntax.specs.Stage.{stage}
use Rattle.meaning.specs.System.{Process, System, find_process, exit_status}
use Rattle.meaning.specs.Step.{enabled, move, moves, initial}
use Rattle.meaning.specs.Calm.{calm, calm_list}

-- a move of one process leaves every other process as it was: its variables, arguments, functions, handles, and what it
-- is doing are its own
abbrev pub Isolated : Type 0
Isolated = (s u : System) (n q : ℕ) (w : Process) → move s n ≡ some u → (q ≡ n → ⊥) → find_process s.processes q ≡ some w → find_process u.processes q ≡ some w

pub data Among (n : ℕ) : List ℕ → Type 0 where
  at_head : {l : List ℕ} → Among n (n ∷ l)
  in_tail : {k : ℕ} {l : List ℕ} → Among n l → Among n (k ∷ l)

abbrev pub enabled_count : System → List Process → ℕ
enabled_count s [] = 0
enabled_count s (w ∷ ws) = pick (enabled s w) 1 0 + enabled_count s ws

abbrev pub Able : System → ℕ → Type 0
Able s q = (w : Process) × (find_process s.processes q ≡ some w) × (enabled s w ≡ true)

-- an order l of moves from s is fair: who is able all through a stretch of more moves than 4,096 times one more than
-- processes were able at its beginning moves in it
pub record Fair (s : System) (l : List ℕ) : Type 0 where
  pub served : (a b c : List ℕ) (t : System) (q : ℕ) → l ≡ a ++ (b ++ c) → moves s a ≡ some t → ((d e : List ℕ) (u : System) → b ≡ d ++ e → moves t d ≡ some u → Able u q) → 4096 * (1 + enabled_count t t.processes) < length b → Among q b

-- for calm texts of a stage up to n, with an empty input, all orders that end put the same on the paper, with the same
-- status
abbrev pub Confluent : ℕ → Type 0
Confluent n = (l : CommandList) (a b : List ℕ) (s t : System) → stage l ≤ n → calm l ≡ true → moves (initial l [] []) a ≡ some s → moves (initial l [] []) b ≡ some t → s.processes ≡ [] → t.processes ≡ [] → (s.paper ≡ t.paper) × (exit_status s.exited 0 ≡ exit_status t.exited 0)

-- if `calm` did not have its rule about redirections that read, this would be false from stage 2 on
abbrev pub WithoutTheRule : Type 0
WithoutTheRule = (n : ℕ) → 2 ≤ n → ((l : CommandList) (a b : List ℕ) (s t : System) → stage l ≤ n → calm_list false false l ≡ true → moves (initial l [] []) a ≡ some s → moves (initial l [] []) b ≡ some t → s.processes ≡ [] → t.processes ≡ [] → s.paper ≡ t.paper) → ⊥

-- of the core every order is fair, since there is one process
abbrev pub CoreFair : Type 0
CoreFair = (l : CommandList) (i ms : List ℕ) (s : System) → stage l ≤ 0 → moves (initial l i []) ms ≡ some s → Fair (initial l i []) ms
