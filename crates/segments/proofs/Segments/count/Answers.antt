use Rattle.std.proofs.Common.{sym}
use Rattle.segments.proofs.Views.{count_is, good_laid}
use Rattle.segments.proofs.Segments.count.Goals as goal

pub returns : goal.returns
returns c = rw (← c.self.view_is) (record { laid = good_laid _ _ c.self.invariant; is = sym (count_is c.self.inside.words.now c.self.inside.count) })
