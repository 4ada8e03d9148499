use Rattle.std.proofs.Common.{◌≤◌, [], get_or, take, drop, Ok}
use Rattle.store.specs.Held.{model}
use Rattle.words.specs.Encoding.{shown, rev}
use Rattle.words.specs.Pushed.{Pushed}
use Rattle.machine.proofs.builtins.push_reversed.Given as goal

abbrev pub invariant-loop-j : goal.invariant-loop-j
invariant-loop-j l = record {
  above : l.low ≤ l.j;
  pushed : Pushed l.initial.st l.st l.to (rev (shown (drop l.j (take l.high (get_or (model l.initial.st) l.from []))))) (Ok tt);
}
