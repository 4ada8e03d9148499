-- Steps of one process in a row, as moves of a system.
use Rattle.std.specs.Prelude.{◌≡◌, ℕ, ◌+◌, ◌<◌, ◌≤◌, Bool, ◌⊎◌, List, length, take, drop, replicate, ◌≢◌, Ok, Err, Result}
use Rattle.std.proofs.Math.Option.{some}
use Rattle.store.specs.declared.Store.{Store}
use Rattle.store.specs.Held.{model, bounds}
use Rattle.syntax.specs.Base.{nth}
use Rattle.meaning.specs.System.{Control, Frame, Process, System, host_paper, with_processes, with_paper, find_process, replace}
use Rattle.meaning.specs.Step.{moves, exits, settle}
use Rattle.machine.specs.declared.process.Process.{Process as Process'}
use Rattle.machine.specs.declared.stretch.Ending.{Ending}
use Rattle.machine.specs.declared.stretch.Ending.TheVariants.{Spent, Exited as Exited'}
use Rattle.machine.specs.declared.halt.Halt.{Halt}
use Rattle.machine.specs.declared.halt.Halt.TheVariants.{NoRoom, PaperFull, Unsupported}
use Rattle.machine.specs.declared.stretch.Stretch.{Stretch}
use Rattle.machine.specs.Represent.{Rest, abstract, Kept, Rep}
use Rattle.machine.specs.Promises.{Beyond, Ends, Tight, Filled}

-- the system in which this process is w now, and this is on the paper
abbrev pub with_process : System → Process → List ℕ → System
with_process s w o = with_paper (with_processes s (replace s.processes w.pid w)) o

-- By so many moves of the process that p₀ stood for, and of no other, the system s comes to one in which it is what p
-- stands for, with as many bytes on the paper as stand in front of the place; the lists of others, the rest of the paper and
-- all else are as they were.
pub record Reached (text code : List ℕ) (number : ℕ → ℕ) (live : List Bool) (m₀ m : List (List ℕ)) (o₀ o : List ℕ) (place : ℕ) (p₀ p : Process') (r : Rest) (s : System) (made : ℕ) : Type 0 where
  pub c : Control
  pub k : List Frame
  pub came : moves s (replicate made r.pid) ≡ some (with_process s (abstract number p r c k) (take place o))
  pub rep : Rep text code number live m p r c k
  pub kept : Kept p₀.base m₀ m
  pub base : p.base ≡ p₀.base
  pub long : length o ≡ length o₀
  pub within : place ≤ length o
  pub behind : drop place o ≡ drop place o₀

-- a system in which p stands for a process, handle 1 is the paper, and the paper's first bytes are printed
pub record Stands (number : ℕ → ℕ) (o : List ℕ) (place : ℕ) (p : Process') (r : Rest) (c : Control) (k : List Frame) (s : System) : Type 0 where
  pub there : find_process s.processes r.pid ≡ some (abstract number p r c k)
  pub paper : nth s.handles (number 1) ≡ some host_paper
  pub printed : s.paper ≡ take place o
  pub within : place ≤ length o

abbrev pub EndSays : List ℕ → List ℕ → ℕ × List Bool → List (List ℕ) → List (List ℕ) → List ℕ → List ℕ → ℕ → Process' → ℕ → (ℕ → ℕ) → Rest → System → Process' → ℕ → ℕ → Result Ending Halt → Type 0
EndSays text code b m m' o o' place p most number r s p' place' made (Ok Spent) = Reached text code number b.1 m m' o o' place' p p' r s made × (made ≡ most)
EndSays text code b m m' o o' place p most number r s p' place' made (Ok (Exited' n)) = (j : ℕ) × (z : Reached text code number b.1 m m' o o' place' p p' r s j) × (made ≡ j + 1) × (made ≤ most) × Ends (abstract number p' r z.c z.k) n × (moves s (replicate made r.pid) ≡ some (settle (abstract number p' r z.c z.k) (exits n (with_process s (abstract number p' r z.c z.k) (take place' o')))))
EndSays text code b m m' o o' place p most number r s p' place' made (Err NoRoom) = (m₁ : List (List ℕ)) × (z : Reached text code number b.1 m m₁ o o' place' p p' r s made) × (made < most) × Tight b m₁ number p' r z.c z.k
EndSays text code b m m' o o' place p most number r s p' place' made (Err PaperFull) = (z : Reached text code number b.1 m m' o o' place' p p' r s made) × (made < most) × Filled number o' place' p' r z.c z.k
EndSays text code b m m' o o' place p most number r s p' place' made (Err Unsupported) = (m₁ : List (List ℕ)) × (z : Reached text code number b.1 m m₁ o o' place' p p' r s made) × (made < most) × (Beyond z.c ⊎ (p'.stdout ≢ 1))

-- in whatever system the process stands
pub record StretchesAs (text code : List ℕ) (b : ℕ × List Bool) (m m' : List (List ℕ)) (o o' : List ℕ) (place : ℕ) (p : Process') (most : ℕ) (a : Stretch) : Type 0 where
  pub says : (number : ℕ → ℕ) (r : Rest) (c : Control) (k : List Frame) (s : System) → Rep text code number b.1 m p r c k → Stands number o place p r c k s → EndSays text code b m m' o o' place p most number r s a.process a.place a.moves a.ending

-- steps of p in a row, over a store s that is s' now
pub record Stretched (text code : List ℕ) (s s' : Store) (o o' : List ℕ) (place : ℕ) (p : Process') (most : ℕ) (a : Stretch) : Type 0 where
  pub same : bounds s' ≡ bounds s
  pub stretches : StretchesAs text code (bounds s) (model s) (model s') o o' place p most a

-- in whatever system the process stands, no fewer bytes are printed than before
pub record Onward (text code : List ℕ) (live : List Bool) (m : List (List ℕ)) (o : List ℕ) (place : ℕ) (p : Process') (place' : ℕ) : Type 0 where
  pub says : (number : ℕ → ℕ) (r : Rest) (c : Control) (k : List Frame) (s : System) → Rep text code number live m p r c k → Stands number o place p r c k s → place ≤ place'
