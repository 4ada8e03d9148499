-- The numbers of the stages.
use Rattle.std.specs.Prelude.{ℕ}
use Rattle.reader.specs.declared.stage.Stage.{Stage}
use Rattle.reader.specs.declared.stage.Stage.TheVariants.{Core, Pipes, Substitutions, Functions, Patterns, Processes}

abbrev pub stage_number : Stage → ℕ
stage_number Core = 0
stage_number Pipes = 1
stage_number Substitutions = 2
stage_number Functions = 3
stage_number Patterns = 4
stage_number Processes = 5
