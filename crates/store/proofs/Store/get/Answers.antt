use Rattle.std.proofs.Common.{ℕ, List, get_or, sym, ap, ◌∙◌}
use Rattle.store.specs.Held.{model}
use Rattle.store.proofs.Totals.{lists_at}
use Rattle.store.proofs.Store.get.Goals as goal

pub returns : goal.returns
unfolding model
returns c = rw (← c.self.view_is) (c.word.ensures ∙ sym (ap (λ (x : List ℕ). get_or x c.args.j 0) (lists_at c.self.inside.segments c.self.inside.half c.args.i)))
