-- What a process does next, as functions of the code and a few numbers. None: a form that the machine does not have.
use Rattle.std.specs.Prelude.{ℕ, ◌+◌, Bool, false, List, Some, None, Option as Maybe, ◌==◌}
use Rattle.syntax.specs.Base.{pick}
use Rattle.code.specs.Cells.{said}
use Rattle.words.specs.Encoding.{at}
use Rattle.machine.specs.declared.process.Expansion.{Expansion}
use Rattle.machine.specs.declared.process.Control.{Control as Control'}
use Rattle.machine.specs.declared.process.Control.TheVariants.{AtList, AtAndOr, AtPipeline, AtCommand, AtWords, AtInvoke, AtPrint, AtBuiltin, AtStatus, AtUnwind}
use Rattle.machine.specs.declared.process.Unwind.{Unwind as Unwind'}
use Rattle.machine.specs.declared.process.Unwind.TheVariants.{Break, Continue, Return, Exit}
use Rattle.machine.specs.declared.process.Process.{Process as Process'}
use Rattle.machine.specs.declared.frames.Frame.{Frame as Frame'}
use Rattle.machine.specs.declared.frames.Frame.TheVariants.{List as FList, Handles, AndOr, Not, If, Condition, Body}
use Rattle.machine.specs.declared.control.Next.{Next}
use Rattle.machine.specs.declared.control.Resumed.{Resumed}

-- with no frame more
abbrev pub plainly : Control' → Next
plainly d = record { control = d; frame = None }

-- with a frame more
abbrev pub under : Control' → Frame' → Next
under d f = record { control = d; frame = Some f }

abbrev pub list_next : List ℕ → ℕ → ℕ → Maybe Next
list_next code a n =
    pick (a == 0) (Some (plainly (AtStatus n)))
    (pick (said (at code (a + 1))) None (Some (under (AtAndOr (at code (a + 2))) (FList (at code a)))))

abbrev pub and_or_next : List ℕ → ℕ → Next
and_or_next code a =
    pick (at code a == 0) (plainly (AtPipeline (at code (a + 3)) (said (at code (a + 2)))))
    (under (AtAndOr (at code a)) (AndOr a))

abbrev pub pipeline_next : List ℕ → ℕ → Bool → Maybe Next
pipeline_next code a n = pick (at code a == 0) (Some (pick n (under (AtCommand a) Not) (plainly (AtCommand a)))) None

-- words from the cell at a
abbrev pub words_start : List ℕ → ℕ → Expansion
words_start code a =
    pick (a == 0) (record { words = 0; parts = 0; opened = false })
    (record { words = at code a; parts = at code (a + 1); opened = false })

-- a command whose redirections stand at r makes none
abbrev pub unless : ℕ → Maybe Next → Maybe Next
unless r n = pick (r == 0) n None

abbrev pub command_next : List ℕ → ℕ → Maybe Next
command_next code a =
    pick (at code (a + 1) == 0) (unless (at code (a + 2)) (unless (at code (a + 4)) (Some (plainly (AtWords (words_start code (at code (a + 3))))))))
    (pick (at code (a + 1) == 1) (unless (at code (a + 3)) (Some (plainly (AtList (at code (a + 2))))))
    (pick (at code (a + 1) == 3) (unless (at code (a + 5)) (Some (under (AtList (at code (a + 2))) (If a))))
    (pick (at code (a + 1) == 4) (unless (at code (a + 4)) (Some (under (AtList (at code (a + 2))) (Condition a))))
    None)))

-- what the code alone decides
abbrev pub Tree : Control' → Type 0
Tree (AtList a) = Unit {0}
Tree (AtAndOr a) = Unit {0}
Tree (AtPipeline a f) = Unit {0}
Tree (AtCommand a) = Unit {0}
Tree (AtWords x) = ⊥
Tree AtInvoke = ⊥
Tree (AtPrint v) = ⊥
Tree (AtBuiltin v) = ⊥
Tree (AtStatus n) = ⊥
Tree (AtUnwind t n) = ⊥

abbrev pub tree_next : List ℕ → Control' → ℕ → Maybe Next
tree_next code (AtList a) n = list_next code a n
tree_next code (AtAndOr a) n = Some (and_or_next code a)
tree_next code (AtPipeline a f) n = pipeline_next code a f
tree_next code (AtCommand a) n = command_next code a
tree_next code (AtWords x) n = None
tree_next code AtInvoke n = None
tree_next code (AtPrint v) n = None
tree_next code (AtBuiltin v) n = None
tree_next code (AtStatus a) n = None
tree_next code (AtUnwind t a) n = None

-- the process with another control
abbrev pub going : Process' → Control' → Process'
going p d = record { control = d; status = p.status; stdin = p.stdin; stdout = p.stdout; base = p.base }

-- the process with other handles
abbrev pub handed : Process' → ℕ → ℕ → Process'
handed p i o = record { control = p.control; status = p.status; stdin = i; stdout = o; base = p.base }

-- the frame is taken off
abbrev pub removed : Process' → Control' → Resumed
removed p d = record { process = going p d; frame = None }

-- another frame takes its place
abbrev pub replaced : Process' → Control' → Frame' → Resumed
replaced p d f = record { process = going p d; frame = Some f }

abbrev pub and_or_status : List ℕ → Process' → ℕ → ℕ → Resumed
and_or_status code p x n =
    pick (said (at code (x + 1)))
    (pick (n == 0) (removed p (AtPipeline (at code (x + 3)) (said (at code (x + 2))))) (removed p (AtStatus n)))
    (pick (n == 0) (removed p (AtStatus n)) (removed p (AtPipeline (at code (x + 3)) (said (at code (x + 2))))))

abbrev pub if_status : List ℕ → Process' → ℕ → ℕ → Resumed
if_status code p x n =
    pick (n == 0) (removed p (AtList (at code (x + 3))))
    (pick (at code (x + 4) == 0) (removed p (AtStatus 0)) (removed p (AtList (at code (at code (x + 4))))))

-- a command is done with status n, which is the status of p already; the last frame
abbrev pub status_next : List ℕ → Process' → Frame' → ℕ → Resumed
status_next code p (FList x) n = pick (x == 0) (removed p (AtStatus n)) (removed p (AtList x))
status_next code p (Handles i o) n = removed (handed p i o) (AtStatus n)
status_next code p (AndOr x) n = and_or_status code p x n
status_next code p Not n = removed p (AtStatus (pick (n == 0) 1 0))
status_next code p (If x) n = if_status code p x n
status_next code p (Condition x) n = pick (n == 0) (replaced p (AtList (at code (x + 3))) (Body x)) (removed p (AtStatus 0))
status_next code p (Body x) n = replaced p (AtList (at code (x + 2))) (Condition x)

-- at the frame of a loop
abbrev pub loop_unwind : List ℕ → Process' → Unwind' → ℕ → ℕ → Resumed
loop_unwind code p Break x n = removed p (AtStatus 0)
loop_unwind code p Continue x n = replaced p (AtList (at code (x + 2))) (Condition x)
loop_unwind code p Return x n = removed p (AtUnwind Return n)
loop_unwind code p Exit x n = removed p (AtUnwind Exit n)

abbrev pub unwind_next : List ℕ → Process' → Unwind' → Frame' → ℕ → Resumed
unwind_next code p u (FList x) n = removed p (AtUnwind u n)
unwind_next code p u (Handles i o) n = removed (handed p i o) (AtUnwind u n)
unwind_next code p u (AndOr x) n = removed p (AtUnwind u n)
unwind_next code p u Not n = removed p (AtUnwind u n)
unwind_next code p u (If x) n = removed p (AtUnwind u n)
unwind_next code p u (Condition x) n = loop_unwind code p u x n
unwind_next code p u (Body x) n = loop_unwind code p u x n
