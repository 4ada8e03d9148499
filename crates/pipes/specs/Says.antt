-- What `run` promises: text t, the host's input i, how many moves are allowed, w words lent, the bytes lent for the paper
-- before (o) and after (o').
use Rattle.std.specs.Prelude.{◌≡◌, ◌↔◌, false, List, [], ◌∷◌, ◌++◌, ℕ, ◌+◌, ◌*◌, ◌<◌, ◌≤◌, length}
use Rattle.std.proofs.Math.Option.{some}
use Rattle.pipes.specs.declared.Ran.{Ran}
use Rattle.pipes.specs.declared.Ran.TheVariants.{Ended, Still, Spent, NoRoom, OutFull, NotYet, NoText, Few}
use Rattle.syntax.specs.Tree.{CommandList}
use Rattle.syntax.specs.Stage.{stage}
use Rattle.grammar.specs.Grammar.{Parses}
use Rattle.grammar.specs.Statements.{Unambiguous, ParserAgrees}
use Rattle.words.specs.Paper.{OnPaper}
use Rattle.meaning.specs.System.{System, exit_status}
use Rattle.meaning.specs.Step.{any_enabled, moves, initial}
use Rattle.meaning.specs.Space.{needs}
use Rattle.meaning.specs.Statements.{Isolated, Fair, Confluent, CoreFair}
use Rattle.meaning.specs.Queue.{QueueFair}

-- how many bytes stand on the paper
abbrev pub paper_bytes : Ran → ℕ
paper_bytes (Ended n k) = n
paper_bytes (Still n) = n
paper_bytes (Spent n) = n
paper_bytes (NoRoom n) = n
paper_bytes (OutFull n) = n
paper_bytes (NotYet n) = 0
paper_bytes NoText = 0
paper_bytes Few = 0

-- the texts that are run: as yet none
abbrev pub Landed : CommandList → Type 0
Landed l = ⊥

-- by a fair order of moves the commands of the text come to s
abbrev pub Reaches : List ℕ → List ℕ → CommandList → List ℕ → System → Type 0
Reaches t i l ms s = Parses t l × Landed l × (moves (initial l i []) ms ≡ some s) × Fair (initial l i []) ms

abbrev pub RanSays : List ℕ → List ℕ → ℕ → ℕ → List ℕ → List ℕ → Ran → Type 0
-- all processes have exited, the first one with status k
RanSays t i most w o o' (Ended n k) = (l : CommandList) × (ms : List ℕ) × (s : System) × Reaches t i l ms s × (s.processes ≡ []) × (exit_status s.exited 0 ≡ some k) × OnPaper o o' n s.paper
-- processes are left, and none can go on
RanSays t i most w o o' (Still n) = (l : CommandList) × (ms : List ℕ) × (s : System) × Reaches t i l ms s × (s.processes ≡ [] → ⊥) × (any_enabled s s.processes ≡ false) × OnPaper o o' n s.paper
-- as many moves as were allowed, and at most 4,096 more
RanSays t i most w o o' (Spent n) = (l : CommandList) × (ms : List ℕ) × (s : System) × Reaches t i l ms s × (most ≤ length ms) × (length ms ≤ most + 4096) × OnPaper o o' n s.paper
-- what is needed doesn't fit into the words lent
RanSays t i most w o o' (NoRoom n) = (l : CommandList) × (ms : List ℕ) × (s : System) × Reaches t i l ms s × (w < 65536 + (16 * length t + 16 * needs s)) × OnPaper o o' n s.paper
-- the next byte doesn't fit on the paper
RanSays t i most w o o' (OutFull n) = (l : CommandList) × (ms : List ℕ) × (s u : System) × (m : ℕ) × Reaches t i l ms s × Reaches t i l (ms ++ (m ∷ [])) u × (length o < length u.paper) × OnPaper o o' n s.paper
-- a list of commands of stage n, which is not run
RanSays t i most w o o' (NotYet n) = (l : CommandList) × Parses t l × (stage l ≡ n) × (Landed l → ⊥) × (o' ≡ o)
RanSays t i most w o o' NoText = ((l : CommandList) → Parses t l → ⊥) × (o' ≡ o)
RanSays t i most w o o' Few = o' ≡ o

-- the theorems that the promise rests on
pub record Parts : Type 0 where
  pub unambiguous : Unambiguous
  pub parser_agrees : ParserAgrees
  pub isolated : Isolated
  pub queue_fair : QueueFair
  pub core_fair : CoreFair
  pub confluent : Confluent 4

pub record RanPost (t i : List ℕ) (most w : ℕ) (o o' : List ℕ) (r : Ran) : Type 0 where
  pub says : RanSays t i most w o o' r
  pub parts : Parts
  -- too few words are lent exactly when this is said
  pub few : (w < 65536 + 16 * length t) ↔ (r ≡ Few)
