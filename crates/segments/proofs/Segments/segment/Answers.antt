use Rattle.std.proofs.Common.{sym, ap, ◌∙◌}
use Rattle.segments.specs.Table.{Segment}
use Rattle.segments.proofs.Views.{past_is, segs_are}
use Rattle.segments.proofs.SegmentLaws.{part_is}
use Rattle.segments.proofs.Segments.segment.Goals as goal

pub returns-then-i-self : goal.returns-then-i-self
returns-then-i-self c = rw (← c.self.view_is) (sym (ap (λ (s : Segment). s.words) (past_is c.self.inside.words.now c.self.inside.count c.args.i c.if-i-self.true)))

pub returns : goal.returns
returns c = rw (← c.self.view_is) (part_is _ _ c.self.invariant _ _ _ c.if-i-self.false c.read-at.ensures c.read-len.ensures ∙ segs_are c.self.inside.words.now c.self.inside.count c.args.i)
