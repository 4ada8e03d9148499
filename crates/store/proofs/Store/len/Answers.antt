use Rattle.std.proofs.Common.{length, sym, ap, ◌∙◌}
use Rattle.store.specs.Held.{Held, model}
use Rattle.store.proofs.Totals.{lists_at}
use Rattle.store.proofs.Store.len.Goals as goal

pub returns : goal.returns
unfolding Held model
returns c = rw (← c.self.view_is) (record { is = c.len.ensures.is ∙ sym (ap length (lists_at c.self.inside.segments c.self.inside.half c.args.i)); held = c.self.invariant })
