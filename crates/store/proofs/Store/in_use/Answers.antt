use Rattle.std.proofs.Common.{sym, ◌∙◌}
use Rattle.store.specs.Held.{Held, bounds}
use Rattle.store.proofs.Totals.{lives_at}
use Rattle.store.proofs.Store.in_use.Goals as goal

pub returns : goal.returns
unfolding Held bounds
returns c = rw (← c.self.view_is) (record { held = c.self.invariant; says = c.in_use.ensures ∙ sym (lives_at c.self.inside.segments c.self.inside.half c.args.i) })
