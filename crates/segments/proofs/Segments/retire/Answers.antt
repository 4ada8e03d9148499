use Rattle.std.proofs.Common.{arith}
use Rattle.segments.specs.Layout.{Good, Marked}
use Rattle.segments.proofs.Views.{good_laid, retired_view, here}
use Rattle.segments.proofs.Entries.{marked_is}
use Rattle.segments.proofs.Segments.retire.Goals.{After-used_front-end}
use Rattle.segments.proofs.Segments.retire.Goals as goal

pub write-requires : goal.write-requires
write-requires c = (here c.self.inside.words.now c.self.inside.count c.args.self.now c.args.i c.self.invariant c.self.view_is c.requires).row

inked : (c : After-used_front-end) → Marked c.self.inside.words.now c.write.new.w c.self.inside.count c.args.i 0
inked c = rw c.write.ensures (marked_is c.self.inside.words.now c.self.inside.count c.args.i 0 c.self.invariant (here c.self.inside.words.now c.self.inside.count c.args.self.now c.args.i c.self.invariant c.self.view_is c.requires).lt)

left : (c : After-used_front-end) → Good c.write.new.w c.used_front-end.result
left c =
    let g = (inked c).good in
    let b = c.used_front-end.ensures.within in
    record {
      table = omega (arith, g.table);
      fits = λ k kn. g.fits k (omega arith);
      above = λ k kn. omega (arith, g.above k (omega arith));
      below = λ k kn. g.below k (omega arith);
      apart = λ a c an cn ne. g.apart a c (omega arith) (omega arith) ne;
    }

pub invariant_of-self : goal.invariant_of-self
invariant_of-self c = left (goal.at.invariant_of-self c).After-used_front-end

pub returns : goal.returns
returns c =
    let a = (goal.at.returns c).After-used_front-end in
    let e = c.used_front-end.ensures in
    rw (← c.self.view_is) (record { laid = good_laid _ _ (left a); retired = retired_view c.self.inside.words.now c.write.new.w c.self.inside.count c.args.i c.used_front-end.result c.write.auto.w (inked a) e.within e.behind e.last })
