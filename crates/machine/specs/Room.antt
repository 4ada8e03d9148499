-- How many words a process has in its lists: no more than its control and frames take.
use Rattle.std.specs.Prelude.{ℕ, ◌+◌, ◌*◌, ◌/◌, ◌<◌, ◌≤◌, Bool, List, [], length, slice_index_or}
use Rattle.store.specs.Sums.{extent}
use Rattle.meaning.specs.System.{Control, Frame}
use Rattle.machine.specs.declared.process.Process.{Process as Process'}
use Rattle.machine.specs.Represent.{Rest, Rep}
use Rattle.words.specs.Pushed.{Scarce}
use Rattle.machine.specs.Promises.{size}

abbrev pub own : List (List ℕ) → ℕ → ℕ
own m b = (length (slice_index_or m b []) + length (slice_index_or m (b + 1) [])) + (length (slice_index_or m (b + 2) []) + length (slice_index_or m (b + 3) []))

abbrev pub OwnRoom : Type 0
OwnRoom = (text code : List ℕ) (number : ℕ → ℕ) (live : List Bool) (m : List (List ℕ)) (p : Process') (r : Rest) (c : Control) (k : List Frame) → Rep text code number live m p r c k → own m p.base ≤ size c k

-- Refused at n words in lists, with so many words lent: these are fewer than 7 for each word, and 19 for each list up to the
-- last in use.
abbrev pub RefusalBound : Type 0
RefusalBound = (all n : ℕ) (live : List Bool) → Scarce (all / 2, live) n → all < 7 * n + 19 * extent live + 20
