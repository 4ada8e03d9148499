use Rattle.std.proofs.Common.{◌≡◌, ℕ, List}
use Rattle.store.specs.Held.{model, bounds}
use Rattle.meaning.specs.System.{Control, Frame, System}
use Rattle.machine.specs.Represent.{Rest, Rep}
use Rattle.machine.specs.Stretches.{Stands, Reached, Onward}
use Rattle.machine.proofs.stretch.run_stretch.Given as goal

abbrev pub invariant-loop-moves : goal.invariant-loop-moves
invariant-loop-moves l = record {
  same : bounds l.st ≡ bounds l.initial.st;
  reached : (number : ℕ → ℕ) (r : Rest) (c : Control) (k : List Frame) (s : System) → Rep l.code.text.now l.code.words.now number (bounds l.initial.st).1 (model l.initial.st) l.initial.process r c k → Stands number l.initial.paper l.initial.place l.initial.process r c k s → Reached l.code.text.now l.code.words.now number (bounds l.initial.st).1 (model l.initial.st) (model l.st) l.initial.paper l.paper l.place l.initial.process l.process r s l.moves;
  onward : Onward l.code.text.now l.code.words.now (bounds l.initial.st).1 (model l.initial.st) l.initial.paper l.initial.place l.initial.process l.place;
}
