use Rattle.std.proofs.Common.{sym, ◌∙◌}
use Rattle.store.specs.Held.{model}
use Rattle.store.proofs.Totals.{lists_at}
use Rattle.store.proofs.Store.words.Goals as goal

pub returns : goal.returns
unfolding model
returns c = rw (← c.self.view_is) (c.segment.ensures ∙ sym (lists_at c.self.inside.segments c.self.inside.half c.args.i))
