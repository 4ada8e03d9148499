use Rattle.std.proofs.Common.{◌≡◌, drop}
use Rattle.machine.specs.Commands.{name_of}
use Rattle.machine.proofs.NameTable.{found}
use Rattle.machine.proofs.names.builtin_name.Given as goal

abbrev pub invariant-loop-name : goal.invariant-loop-name
invariant-loop-name l = found (drop l.name-index l.name-items) l.words ≡ name_of l.words
