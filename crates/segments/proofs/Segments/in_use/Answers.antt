use Rattle.std.proofs.Common.{ℕ, sym, ap, ◌∙◌, eqb}
use Rattle.segments.specs.Table.{Segment}
use Rattle.segments.proofs.Views.{past_is, used_is}
use Rattle.segments.proofs.Segments.in_use.Goals as goal

pub returns-then-i-self : goal.returns-then-i-self
returns-then-i-self c = rw (← c.self.view_is) (sym (ap (λ (s : Segment). s.used) (past_is c.self.inside.words.now c.self.inside.count c.args.i c.if-i-self.true)))

pub returns : goal.returns
returns c = rw (← c.self.view_is) (ap (λ (x : ℕ). eqb x 1) c.read.ensures ∙ sym (used_is c.self.inside.words.now c.self.inside.count c.args.i c.if-i-self.false))
