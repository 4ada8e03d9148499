-- How a process stands in a struct and in the lists of a store.
use Rattle.std.specs.Prelude.{◌≡◌, ℕ, ◌+◌, ◌<◌, ◌≤◌, Bool, true, false, ◌⊎◌, List, [], ◌∷◌, ◌++◌, length, get_or, slice_index_or, Some}
use Rattle.std.proofs.Math.Option.{Option}
use Rattle.syntax.specs.Tree.{Word, Words, no_redirects, Command, ElsePart, Pipeline, AndOr, CommandList}
use Rattle.code.specs.Layout.{flag}
use Rattle.code.specs.Code.{ListCode, AndOrCode, PipelineCode, CommandCode, ElseCode, WordsCode, WordCode}
use Rattle.meaning.specs.System.{QuotedByte, Variable, Function, Builtin, b_done, b_print, b_seq, b_yes, then_invoke, to_invoke, Unwind, break, continue, return, exit, Control, at_list, at_and_or, at_pipeline, at_command, at_words, at_redirects, at_builtin, at_status, at_unwind, Frame, f_list, f_and_or, f_not, f_if, f_condition, f_body, f_handles, Process}
use Rattle.meaning.specs.Words.{close_word}
use Rattle.machine.specs.declared.process.Builtin.{Builtin as Builtin'}
use Rattle.machine.specs.declared.process.Builtin.TheVariants.{Done, Seq, Yes}
use Rattle.machine.specs.declared.process.Unwind.{Unwind as Unwind'}
use Rattle.machine.specs.declared.process.Unwind.TheVariants.{Break, Continue, Return, Exit}
use Rattle.machine.specs.declared.process.Control.{Control as Control'}
use Rattle.machine.specs.declared.process.Control.TheVariants.{AtList, AtAndOr, AtPipeline, AtCommand, AtWords, AtInvoke, AtPrint, AtBuiltin, AtStatus, AtUnwind}
use Rattle.machine.specs.declared.process.Expansion.{Expansion}
use Rattle.machine.specs.declared.process.Process.{Process as Process'}
use Rattle.machine.specs.declared.frames.Frame.{Frame as Frame'}
use Rattle.machine.specs.declared.frames.Frame.TheVariants.{List as FList, Handles, AndOr as AndOr', Not, If, Condition, Body}
use Rattle.machine.specs.Frames.{frame_of}
use Rattle.words.specs.Encoding.{at, marked, plain, Bytes, AllSmall, opened, rev}

-- what of a process no step here changes
pub record Rest : Type 0 where
  pub pid : ℕ
  pub variables : List Variable
  pub functions : List Function
  pub arguments : List (List ℕ)
  pub jobs : List ℕ

-- a process by its parts: control, frames, the two handles, the last status
abbrev pub process : Rest → Control → List Frame → ℕ → ℕ → ℕ → Process
process r c k i o n = record { pid = r.pid; control = c; frames = k; stdin = i; stdout = o; variables = r.variables; functions = r.functions; arguments = r.arguments; status = n; jobs = r.jobs }

-- the lists of a process, four from its base on: frames; words being expanded; text to print, reversed; the line of yes,
-- reversed
pub record Lists : Type 0 where
  pub frames : List ℕ
  pub words : List ℕ
  pub text : List ℕ
  pub line : List ℕ

pub record Has (m : List (List ℕ)) (live : List Bool) (b : ℕ) (ls : Lists) : Type 0 where
  pub inside : b + 4 ≤ length m
  pub live0 : get_or live b false ≡ true
  pub live1 : get_or live (b + 1) false ≡ true
  pub live2 : get_or live (b + 2) false ≡ true
  pub live3 : get_or live (b + 3) false ≡ true
  pub frames : get_or m b [] ≡ ls.frames
  pub words : get_or m (b + 1) [] ≡ ls.words
  pub text : get_or m (b + 2) [] ≡ ls.text
  pub line : get_or m (b + 3) [] ≡ ls.line

-- the lists of all others are as they were
pub record Kept (b : ℕ) (m m' : List (List ℕ)) : Type 0 where
  pub count : length m' ≡ length m
  pub others : (i : ℕ) → (i < b) ⊎ (b + 4 ≤ i) → slice_index_or m' i [] ≡ slice_index_or m i []

abbrev pub unwind_is : Unwind' → Unwind
unwind_is Break = break
unwind_is Continue = continue
unwind_is Return = return
unwind_is Exit = exit

-- a builtin that prints nothing at the moment
pub data BuiltinRep (L : List ℕ) : Builtin' → Builtin → Type 0 where
  r_done : {n : ℕ} → L ≡ [] → n < 256 → BuiltinRep L (Done n) (b_done n)
  r_seq : {a b : ℕ} → L ≡ [] → b < 1000000000 → BuiltinRep L (Seq a b) (b_seq a b)
  r_yes : (l : List ℕ) → L ≡ rev l → Bytes l → BuiltinRep L Yes (b_yes l)

pub data ControlRep (text code W T L : List ℕ) : Control' → Control → Type 0 where
  r_list : {a : ℕ} {l : CommandList} → W ≡ [] → T ≡ [] → L ≡ [] → ListCode text code a l → ControlRep text code W T L (AtList a) (at_list l)
  r_and_or : {a : ℕ} {x : AndOr} → W ≡ [] → T ≡ [] → L ≡ [] → AndOrCode text code a x → ControlRep text code W T L (AtAndOr a) (at_and_or x)
  r_pipeline : {a : ℕ} {n : Bool} {x : Pipeline} → W ≡ [] → T ≡ [] → L ≡ [] → PipelineCode text code a x → ControlRep text code W T L (AtPipeline a n) (at_pipeline n x)
  r_command : {a : ℕ} {x : Command} → W ≡ [] → T ≡ [] → L ≡ [] → CommandCode text code a x → ControlRep text code W T L (AtCommand a) (at_command x)
  r_words : {x : Expansion} {sp : Bool} {ws : Words} {v : Word} {o : Option (List QuotedByte)} {ds : List (List QuotedByte)} → W ≡ marked (close_word o ds) → T ≡ [] → L ≡ [] → x.opened ≡ opened o → AllSmall (close_word o ds) → WordsCode text code x.words ws → WordCode text code x.parts v → ControlRep text code W T L (AtWords x) (at_words (record { words = ws; parts = v; current = o; complete = ds; split = sp }) (to_invoke no_redirects))
  r_invoke : (ds : List (List QuotedByte)) → W ≡ marked ds → T ≡ [] → L ≡ [] → AllSmall ds → ControlRep text code W T L AtInvoke (at_redirects no_redirects (then_invoke (plain ds)))
  r_print : {v : Builtin'} {u : Builtin} (bs : List ℕ) → W ≡ [] → T ≡ rev bs → Bytes bs → BuiltinRep L v u → ControlRep text code W T L (AtPrint v) (at_builtin (b_print bs u))
  r_builtin : {v : Builtin'} {u : Builtin} → W ≡ [] → T ≡ [] → BuiltinRep L v u → ControlRep text code W T L (AtBuiltin v) (at_builtin u)
  r_status : {n : ℕ} → W ≡ [] → T ≡ [] → L ≡ [] → n < 256 → ControlRep text code W T L (AtStatus n) (at_status n)
  r_unwind : {t : Unwind'} {n : ℕ} → W ≡ [] → T ≡ [] → L ≡ [] → n < 256 → ControlRep text code W T L (AtUnwind t n) (at_unwind (unwind_is t) n)

-- a frame of the machine for one of the meaning. `number` gives the number that a handle of the machine has in the system
pub data FrameRep (text code : List ℕ) (number : ℕ → ℕ) : Frame' → Frame → Type 0 where
  r_f_list : {x : ℕ} {l : CommandList} → ListCode text code x l → FrameRep text code number (FList x) (f_list l)
  r_f_handles : (i o : ℕ) → FrameRep text code number (Handles i o) (f_handles (number i) (number o))
  r_f_and_or : {x : ℕ} {b n : Bool} {p : Pipeline} → at code (x + 1) ≡ flag b → at code (x + 2) ≡ flag n → PipelineCode text code (at code (x + 3)) p → FrameRep text code number (AndOr' x) (f_and_or b n p)
  r_f_not : FrameRep text code number Not f_not
  r_f_if : {x : ℕ} {a : CommandList} {e : ElsePart} → ListCode text code (at code (x + 3)) a → ElseCode text code (at code (x + 4)) e → FrameRep text code number (If x) (f_if a e)
  r_f_condition : {x : ℕ} {a b : CommandList} → ListCode text code (at code (x + 2)) a → ListCode text code (at code (x + 3)) b → FrameRep text code number (Condition x) (f_condition a b)
  r_f_body : {x : ℕ} {a b : CommandList} → ListCode text code (at code (x + 2)) a → ListCode text code (at code (x + 3)) b → FrameRep text code number (Body x) (f_body a b)

-- frames, each in three words, the last of which is its tag
abbrev pub FramesRep : List ℕ → List ℕ → (ℕ → ℕ) → List ℕ → List Frame → Type 0
FramesRep text code number F [] = F ≡ []
FramesRep text code number F (κ ∷ ks) = (G : List ℕ) × (x : ℕ) × (y : ℕ) × (t : ℕ) × (f : Frame') × (F ≡ G ++ (x ∷ y ∷ t ∷ [])) × (frame_of x y t ≡ Some f) × FrameRep text code number f κ × FramesRep text code number G ks

-- p, with the lists m of which those in `live` are in use, stands for the process with this rest, control and frames
pub record Rep (text code : List ℕ) (number : ℕ → ℕ) (live : List Bool) (m : List (List ℕ)) (p : Process') (r : Rest) (c : Control) (k : List Frame) : Type 0 where
  pub lists : Lists
  pub has : Has m live p.base lists
  pub control : ControlRep text code lists.words lists.text lists.line p.control c
  pub frames : FramesRep text code number lists.frames k
  pub status : p.status < 256
  pub functions : r.functions ≡ []

-- the process that p stands for
abbrev pub abstract : (ℕ → ℕ) → Process' → Rest → Control → List Frame → Process
abstract number p r c k = process r c k (number p.stdin) (number p.stdout) p.status
