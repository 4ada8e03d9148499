use Rattle.std.proofs.Common.{◌∙◌, arith}
use Rattle.segments.proofs.Views.{here}
use Rattle.segments.proofs.Segments.room.Goals as goal

pub read-requires : goal.read-requires
read-requires c = (here _ _ _ _ c.self.invariant c.self.view_is c.requires).row

pub returns : goal.returns
returns c = let f = here _ _ _ _ c.self.invariant c.self.view_is c.requires in record { is = c.read.ensures ∙ f.room_at; fits = omega (arith, c.read.ensures) }
