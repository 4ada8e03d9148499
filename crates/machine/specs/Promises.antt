-- What the machine's functions promise.
use Rattle.std.specs.Prelude.{◌≡◌, ℕ, ◌+◌, ◌<◌, ◌≤◌, Bool, true, false, ◌||◌, ◌⊎◌, List, [], ◌∷◌, ◌++◌, length, Some, None, Option as Maybe, Ok, Err, Result, ◌≢◌, slice_set}
use Rattle.std.proofs.Math.Option.{Option, some, none}
use Rattle.segments.specs.Layout.{need}
use Rattle.store.specs.declared.Store.{Store}
use Rattle.store.specs.Held.{model, bounds}
use Rattle.syntax.specs.Base.{nth, Name}
use Rattle.syntax.specs.Tree.{parameter, substitution, Word, no_parts, and_part, Words, no_words, Assignments, no_assignments, assign, Redirects, no_redirects, redirect, Command, simple, group, subshell, if, while, for, case, function, Pipeline, piped, AndOr, CommandList, next}
use Rattle.meaning.specs.System.{QuotedByte, Purpose, Control, at_list, at_pipeline, at_command, at_words, at_redirects, then_invoke, Frame, Process, System, host_paper, with_paper}
use Rattle.meaning.specs.Words.{close_word}
use Rattle.meaning.specs.Step.{continues, exits, step}
use Rattle.meaning.specs.Space.{control_size, frames_size}
use Rattle.machine.specs.declared.process.Process.{Process as Process'}
use Rattle.machine.specs.declared.frames.Frame.{Frame as Frame'}
use Rattle.machine.specs.declared.control.Next.{Next}
use Rattle.machine.specs.declared.control.Resumed.{Resumed}
use Rattle.machine.specs.declared.step.Step.{Step}
use Rattle.machine.specs.declared.step.Step.TheVariants.{Continues, Prints, Exits}
use Rattle.machine.specs.declared.halt.Halt.{Halt}
use Rattle.machine.specs.declared.halt.Halt.TheVariants.{NoRoom, PaperFull, Unsupported}
use Rattle.words.specs.Encoding.{any_pattern}
use Rattle.words.specs.Pushed.{Scarce}
use Rattle.machine.specs.declared.names.BuiltinName.{BuiltinName}
use Rattle.machine.specs.Commands.{name_at, lacks}
use Rattle.machine.specs.Represent.{Rest, process, abstract, ControlRep, FrameRep, Kept, Rep}

-- w takes a step to w' in every system, and leaves the system as it is
abbrev pub StepsTo : Process → Process → Type 0
StepsTo w w' = (s : System) → step s w ≡ some (continues w' s)

-- w exits with status n in every system
abbrev pub Ends : Process → ℕ → Type 0
Ends w n = (s : System) → step s w ≡ some (exits n s)

-- what a process takes by its control and frames
abbrev pub size : Control → List Frame → ℕ
size c k = control_size c + frames_size k

-- the process goes on as p', in the lists m'
pub record After (text code : List ℕ) (number : ℕ → ℕ) (live : List Bool) (m m' : List (List ℕ)) (p : Process') (r : Rest) (c : Control) (k : List Frame) (p' : Process') : Type 0 where
  pub c' : Control
  pub k' : List Frame
  pub steps_to : StepsTo (abstract number p r c k) (abstract number p' r c' k')
  pub rep : Rep text code number live m' p' r c' k'
  pub kept : Kept p.base m m'
  pub base : p'.base ≡ p.base

-- a frame of the machine, or none, for one of the meaning, or none
abbrev pub Keeps : List ℕ → List ℕ → (ℕ → ℕ) → Maybe Frame' → Option Frame → Type 0
Keeps text code number None none = Unit {0}
Keeps text code number None (some κ) = ⊥
Keeps text code number (Some f) none = ⊥
Keeps text code number (Some f) (some κ) = FrameRep text code number f κ

abbrev pub kept_frame : Option Frame → List Frame → List Frame
kept_frame none ks = ks
kept_frame (some κ) ks = κ ∷ ks

-- Forms that the machine does not have.
abbrev pub redirects : Redirects → Bool
redirects no_redirects = false
redirects (redirect k w ts) = true

abbrev pub assigns : Assignments → Bool
assigns no_assignments = false
assigns (assign x w ss) = true

abbrev pub beyond_command : Command → Bool
beyond_command (simple ss ws ts) = assigns ss || redirects ts
beyond_command (group l ts) = redirects ts
beyond_command (subshell l ts) = true
beyond_command (if a b e ts) = redirects ts
beyond_command (while a b ts) = redirects ts
beyond_command (for x ws l ts) = true
beyond_command (case w is ts) = true
beyond_command (function x l) = true

pub data Beyond : Control → Type 0 where
  no_background : {a : AndOr} {l : CommandList} → Beyond (at_list (next a true l))
  no_pipe : {n : Bool} {c : Command} {p : Pipeline} → Beyond (at_pipeline n (piped c p))
  no_command : {c : Command} → beyond_command c ≡ true → Beyond (at_command c)
  no_parameter : {q : Bool} {n : Name} {v : Word} {ws : Words} {o : Option (List QuotedByte)} {ds : List (List QuotedByte)} {sp : Bool} {y : Purpose} → Beyond (at_words (record { words = ws; parts = and_part (parameter q n) v; current = o; complete = ds; split = sp }) y)
  no_substitution : {q : Bool} {l : CommandList} {v : Word} {ws : Words} {o : Option (List QuotedByte)} {ds : List (List QuotedByte)} {sp : Bool} {y : Purpose} → Beyond (at_words (record { words = ws; parts = and_part (substitution q l) v; current = o; complete = ds; split = sp }) y)
  -- all words are expanded, and one has * or ? outside quotes
  no_pattern : {o : Option (List QuotedByte)} {ds : List (List QuotedByte)} {sp : Bool} {y : Purpose} → any_pattern (close_word o ds) ≡ true → Beyond (at_words (record { words = no_words; parts = no_parts; current = o; complete = ds; split = sp }) y)
  no_builtin : {x : Name} {as₁ : List (List ℕ)} (n : BuiltinName) → name_at x ≡ n → lacks n ≡ true → Beyond (at_redirects no_redirects (then_invoke (x ∷ as₁)))

-- what a tree leads to: perhaps with a frame more
pub record Grows (text code : List ℕ) (number : ℕ → ℕ) (c : Control) (n : ℕ) (q : Next) : Type 0 where
  pub c' : Control
  pub κ' : Option Frame
  pub steps_to : (r : Rest) (k : List Frame) (i o : ℕ) → StepsTo (process r c k i o n) (process r c' (kept_frame κ' k) i o n)
  pub now : ControlRep text code [] [] [] q.control c'
  pub keeps : Keeps text code number q.frame κ'

abbrev pub Leads : List ℕ → List ℕ → (ℕ → ℕ) → Control → ℕ → Maybe Next → Type 0
Leads text code number c n None = Beyond c
Leads text code number c n (Some q) = Grows text code number c n q

-- what the last frame leads to: o is the process that was, the status is set already in p
pub record Backs (text code : List ℕ) (number : ℕ → ℕ) (c : Control) (κ : Frame) (o p : Process') (q : Resumed) : Type 0 where
  pub c' : Control
  pub κ' : Option Frame
  pub steps_to : (r : Rest) (ks : List Frame) → StepsTo (abstract number o r c (κ ∷ ks)) (abstract number q.process r c' (kept_frame κ' ks))
  pub now : ControlRep text code [] [] [] q.process.control c'
  pub keeps : Keeps text code number q.frame κ'
  pub base : q.process.base ≡ p.base
  pub status : q.process.status ≡ p.status

-- Refused for want of room: the words in all lists, with y more, are too many for half of the words lent, and y is no more
-- than the process takes now, or after its step.
pub data Tight (b : ℕ × List Bool) (m : List (List ℕ)) (number : ℕ → ℕ) (p : Process') (r : Rest) (c : Control) (k : List Frame) : Type 0 where
  tight_now : (y : ℕ) → Scarce b (need m + y) → y ≤ size c k + 4 → Tight b m number p r c k
  tight_then : (y : ℕ) (p' : Process') (c' : Control) (k' : List Frame) → StepsTo (abstract number p r c k) (abstract number p' r c' k') → Scarce b (need m + y) → y ≤ size c' k' → Tight b m number p r c k

-- a step that prints nothing, and after which the process goes on
abbrev pub DoesSays : List ℕ → List ℕ → ℕ × List Bool → List (List ℕ) → List (List ℕ) → Process' → (ℕ → ℕ) → Rest → Control → List Frame → Result Process' Halt → Type 0
DoesSays text code b m m' p number r c k (Ok p') = After text code number b.1 m m' p r c k p'
DoesSays text code b m m' p number r c k (Err NoRoom) = Tight b m number p r c k
DoesSays text code b m m' p number r c k (Err PaperFull) = ⊥
DoesSays text code b m m' p number r c k (Err Unsupported) = Beyond c

-- whatever p stands for, over a store s that is s' now
pub record Does (text code : List ℕ) (s s' : Store) (p : Process') (a : Result Process' Halt) : Type 0 where
  pub same : bounds s' ≡ bounds s
  pub says : (number : ℕ → ℕ) (r : Rest) (c : Control) (k : List Frame) → Rep text code number (bounds s).1 (model s) p r c k → DoesSays text code (bounds s) (model s) (model s') p number r c k a

-- where the output is the paper, w prints this byte and is then w'
abbrev pub Writes : Process → Process → ℕ → Type 0
Writes w w' x = (s : System) → nth s.handles w.stdout ≡ some host_paper → step s w ≡ some (continues w' (with_paper s (s.paper ++ (x ∷ []))))

-- a byte is printed, at a place of the paper o
pub record Printed (text code : List ℕ) (number : ℕ → ℕ) (live : List Bool) (m m' : List (List ℕ)) (o o' : List ℕ) (place : ℕ) (p : Process') (r : Rest) (c : Control) (k : List Frame) (p' : Process') : Type 0 where
  pub c' : Control
  pub k' : List Frame
  pub byte : ℕ
  pub steps_to : Writes (abstract number p r c k) (abstract number p' r c' k') byte
  pub rep : Rep text code number live m' p' r c' k'
  pub kept : Kept p.base m m'
  pub base : p'.base ≡ p.base
  pub output : p.stdout ≡ 1
  pub inside : place < length o
  pub paper : o' ≡ slice_set o place byte

-- a byte would be printed, and there is no place left for it on the paper
pub record Filled (number : ℕ → ℕ) (o : List ℕ) (place : ℕ) (p : Process') (r : Rest) (c : Control) (k : List Frame) : Type 0 where
  pub w' : Process
  pub byte : ℕ
  pub steps_to : Writes (abstract number p r c k) w' byte
  pub output : p.stdout ≡ 1
  pub full : length o ≤ place

-- the output is the paper where it is the handle 1
abbrev pub StepSays : List ℕ → List ℕ → ℕ × List Bool → List (List ℕ) → List (List ℕ) → List ℕ → List ℕ → ℕ → Process' → (ℕ → ℕ) → Rest → Control → List Frame → Result Step Halt → Type 0
StepSays text code b m m' o o' place p number r c k (Ok (Continues p')) = After text code number b.1 m m' p r c k p' × (o' ≡ o)
StepSays text code b m m' o o' place p number r c k (Ok (Prints p' q)) = Printed text code number b.1 m m' o o' place p r c k p' × (q ≡ place + 1)
StepSays text code b m m' o o' place p number r c k (Ok (Exits n)) = Ends (abstract number p r c k) n × (m' ≡ m) × (o' ≡ o)
StepSays text code b m m' o o' place p number r c k (Err NoRoom) = Tight b m number p r c k × (o' ≡ o)
StepSays text code b m m' o o' place p number r c k (Err PaperFull) = Filled number o place p r c k × (m' ≡ m) × (o' ≡ o)
StepSays text code b m m' o o' place p number r c k (Err Unsupported) = (Beyond c ⊎ (p.stdout ≢ 1)) × (o' ≡ o)

-- a step of whatever p stands for, with a paper of which o holds what was printed before this place
pub record StepsAs (text code : List ℕ) (b : ℕ × List Bool) (m m' : List (List ℕ)) (o o' : List ℕ) (place : ℕ) (p : Process') (a : Result Step Halt) : Type 0 where
  pub says : (number : ℕ → ℕ) (r : Rest) (c : Control) (k : List Frame) → Rep text code number b.1 m p r c k → StepSays text code b m m' o o' place p number r c k a

-- one step of p, over a store s that is s' now
pub record Stepped (text code : List ℕ) (s s' : Store) (o o' : List ℕ) (place : ℕ) (p : Process') (a : Result Step Halt) : Type 0 where
  pub same : bounds s' ≡ bounds s
  pub steps : StepsAs text code (bounds s) (model s) (model s') o o' place p a
