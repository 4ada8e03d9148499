-- What holds of every tree.
use Rattle.std.specs.Prelude.{◌≤◌}
use Rattle.syntax.specs.Tree.{CommandList}
use Rattle.syntax.specs.Stage.{stage}

-- there are six stages, 0 to 5
abbrev pub SixStages : Type 0
SixStages = (l : CommandList) → stage l ≤ 5
