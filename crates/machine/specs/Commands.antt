-- Commands by their names.
use Rattle.std.specs.Prelude.{◌≡◌, ◌≢◌, ℕ, ◌+◌, Bool, true, false, List, [], length, drop, Some, None, Option as Maybe, slice_index_or}
use Rattle.syntax.specs.Base.{pick, same, Name}
use Rattle.meaning.specs.Step.{name_echo, name_cat, name_head, name_wc, name_grep, name_seq, name_rm, name_yes, name_true, name_false, name_test, name_read, name_exit, name_return, name_break, name_continue, name_shift, name_wait}
use Rattle.machine.specs.declared.names.BuiltinName.{BuiltinName}
use Rattle.machine.specs.declared.names.BuiltinName.TheVariants.{Echo, Cat, Head, Wc, Grep, Seq, Rm, Yes, True, False, Test, Read, Exit, Return, Break, Continue, Shift, Wait, Other}
use Rattle.machine.specs.declared.process.Control.{Control as Control'}
use Rattle.machine.specs.declared.process.Control.TheVariants.{AtInvoke, AtStatus, AtUnwind}
use Rattle.machine.specs.declared.process.Process.{Process as Process'}
use Rattle.machine.specs.declared.process.Unwind.TheVariants.{Break as Break', Continue as Continue'}
use Rattle.words.specs.Encoding.{named, second}

-- the first name that passes a test
abbrev pub name_by : (Name → Bool) → BuiltinName
name_by is =
    pick (is name_echo) Echo
    (pick (is name_cat) Cat
    (pick (is name_head) Head
    (pick (is name_wc) Wc
    (pick (is name_grep) Grep
    (pick (is name_seq) Seq
    (pick (is name_rm) Rm
    (pick (is name_yes) Yes
    (pick (is name_true) True
    (pick (is name_false) False
    (pick (is name_test) Test
    (pick (is name_read) Read
    (pick (is name_exit) Exit
    (pick (is name_return) Return
    (pick (is name_break) Break
    (pick (is name_continue) Continue
    (pick (is name_shift) Shift
    (pick (is name_wait) Wait
    Other)))))))))))))))))

-- the name at the beginning of encoded words
abbrev pub name_of : List ℕ → BuiltinName
name_of ws = name_by (named ws)

-- the name that a word is
abbrev pub name_at : Name → BuiltinName
name_at x = name_by (same x)

-- commands that the machine does not have
abbrev pub lacks : BuiltinName → Bool
lacks Echo = false
lacks Cat = true
lacks Head = true
lacks Wc = true
lacks Grep = true
lacks Seq = false
lacks Rm = true
lacks Yes = false
lacks True = false
lacks False = false
lacks Test = true
lacks Read = true
lacks Exit = false
lacks Return = true
lacks Break = false
lacks Continue = false
lacks Shift = true
lacks Wait = true
lacks Other = false

-- the control to which a command leads at once
abbrev pub at_once : BuiltinName → Maybe Control'
at_once Echo = None
at_once Cat = None
at_once Head = None
at_once Wc = None
at_once Grep = None
at_once Seq = None
at_once Rm = None
at_once Yes = None
at_once True = Some (AtStatus 0)
at_once False = Some (AtStatus 1)
at_once Test = None
at_once Read = None
at_once Exit = None
at_once Return = None
at_once Break = Some (AtUnwind Break' 0)
at_once Continue = Some (AtUnwind Continue' 0)
at_once Shift = None
at_once Wait = None
at_once Other = Some (AtStatus 127)

-- those that begin in their own ways
abbrev pub IsPlain : BuiltinName → Type 0
IsPlain n = (n ≢ Echo) × (n ≢ Exit) × (n ≢ Yes) × (n ≢ Seq)

-- the words are there, the first of them is this name, and the mark of the next is at `place`
pub record Invoked (m : List (List ℕ)) (p : Process') (n : BuiltinName) (place : ℕ) : Type 0 where
  pub control : p.control ≡ AtInvoke
  pub some : length (slice_index_or m (p.base + 1) []) ≢ 0
  pub name : name_of (drop 1 (slice_index_or m (p.base + 1) [])) ≡ n
  pub next : place ≡ second (slice_index_or m (p.base + 1) [])
