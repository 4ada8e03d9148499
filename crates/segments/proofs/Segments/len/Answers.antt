use Rattle.std.proofs.Common.{length, sym, ap, ◌∙◌}
use Rattle.segments.specs.Table.{Segment}
use Rattle.segments.proofs.Views.{past_is, size_is, good_laid}
use Rattle.segments.proofs.Segments.len.Goals as goal

pub returns-then-i-self : goal.returns-then-i-self
returns-then-i-self c = rw (← c.self.view_is) (record { laid = good_laid _ _ c.self.invariant; is = sym (ap (λ (s : Segment). length s.words) (past_is c.self.inside.words.now c.self.inside.count c.args.i c.if-i-self.true)) })

pub returns : goal.returns
returns c = rw (← c.self.view_is) (record { laid = good_laid _ _ c.self.invariant; is = c.read.ensures ∙ sym (size_is c.self.inside.words.now c.self.inside.count c.args.i c.if-i-self.false c.self.invariant) })
