-- A queue of those who are able, in slices of at most 4,096 moves.
use Rattle.std.specs.Prelude.{◌≡◌, List, [], ◌∷◌, ℕ, suc, ◌<◌, ◌≤◌, eqb}
use Rattle.std.proofs.Math.Option.{some}
use Rattle.syntax.specs.Base.{pick}
use Rattle.meaning.specs.System.{System}
use Rattle.meaning.specs.Step.{move}
use Rattle.meaning.specs.Statements.{Among, Able, Fair}

-- how many stand before q
abbrev pub place : List ℕ → ℕ → ℕ
place [] q = 0
place (r ∷ rs) q = pick (eqb r q) 0 (suc (place rs q))

abbrev pub Once : List ℕ → Type 0
Once [] = Unit {0}
Once (q ∷ qs) = (Among q qs → ⊥) × Once qs

-- exactly those who are able stand in the queue, each once
pub record Ready (s : System) (rs : List ℕ) : Type 0 where
  pub once : Once rs
  pub able : (q : ℕ) → Among q rs → Able s q
  pub whole : (q : ℕ) → Able s q → Among q rs

-- who stands in both queues stands no later in the second
abbrev pub NoLater : List ℕ → List ℕ → Type 0
NoLater rs vs = (q : ℕ) → Among q rs → Among q vs → place vs q ≤ place rs q

-- an order that is taken from a queue whose first has k moves left: the first moves, and stays the first with fewer moves
-- left, or its slice is over and the next one has a whole slice. Those who stood behind it and are still able move up;
-- so whoever wakes, and the first itself when its slice is over, goes behind them
pub data Queued : System → List ℕ → ℕ → List ℕ → System → Type 0 where
  rests : {s : System} {rs : List ℕ} {k : ℕ} → Ready s rs → k ≤ 4096 → Queued s rs k [] s
  stays : {s t u : System} {r : ℕ} {rs vs : List ℕ} {k j : ℕ} {ms : List ℕ} → Ready s (r ∷ rs) → k ≤ 4096 → move s r ≡ some t → NoLater rs vs → j < k → Queued t (r ∷ vs) j ms u → Queued s (r ∷ rs) k (r ∷ ms) u
  yields : {s t u : System} {r : ℕ} {rs vs : List ℕ} {k : ℕ} {ms : List ℕ} → Ready s (r ∷ rs) → k ≤ 4096 → move s r ≡ some t → NoLater rs vs → 0 < k → Queued t vs 4096 ms u → Queued s (r ∷ rs) k (r ∷ ms) u

-- such an order is fair
abbrev pub QueueFair : Type 0
QueueFair = (s u : System) (rs ms : List ℕ) → Queued s rs 4096 ms u → Fair s ms
