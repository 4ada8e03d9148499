use Rattle.std.proofs.Common.{arith}
use Rattle.segments.specs.Layout.{Exchanged}
use Rattle.segments.proofs.Views.{good_laid, exchanged_view, here}
use Rattle.segments.proofs.Entries.{swapped_is}
use Rattle.segments.proofs.Segments.exchange.Goals.{After-trade-3}
use Rattle.segments.proofs.Segments.exchange.Goals as goal

pub trade-requires : goal.trade-requires
trade-requires c = record { i_in_bounds = (here c.self.inside.words.now c.self.inside.count c.args.self.now c.args.i c.self.invariant c.self.view_is c.requires.i_there).row; j_in_bounds = (here c.self.inside.words.now c.self.inside.count c.args.self.now c.args.j c.self.invariant c.self.view_is c.requires.j_there).row }

pub trade-requires-2 : goal.trade-requires-2
trade-requires-2 c =
    let f = here c.self.inside.words.now c.self.inside.count c.args.self.now c.args.i c.self.invariant c.self.view_is c.requires.i_there in
    let e = here c.self.inside.words.now c.self.inside.count c.args.self.now c.args.j c.self.invariant c.self.view_is c.requires.j_there in record { i_in_bounds = omega (arith, c.trade.auto.w); j_in_bounds = omega (arith, c.trade.auto.w) }

pub trade-requires-3 : goal.trade-requires-3
trade-requires-3 c =
    let f = here c.self.inside.words.now c.self.inside.count c.args.self.now c.args.i c.self.invariant c.self.view_is c.requires.i_there in
    let e = here c.self.inside.words.now c.self.inside.count c.args.self.now c.args.j c.self.invariant c.self.view_is c.requires.j_there in record { i_in_bounds = omega (arith, c.trade.auto.w, c.trade-2.auto.w); j_in_bounds = omega (arith, c.trade.auto.w, c.trade-2.auto.w) }

swapped : (c : After-trade-3) → Exchanged c.self.inside.words.now c.trade-3.new.w c.self.inside.count c.args.i c.args.j
swapped c = rw (c.trade-3.ensures, c.trade-2.ensures, c.trade.ensures)
    (swapped_is c.self.inside.words.now c.self.inside.count c.args.i c.args.j c.self.invariant (here c.self.inside.words.now c.self.inside.count c.args.self.now c.args.i c.self.invariant c.self.view_is c.requires.i_there).lt (here c.self.inside.words.now c.self.inside.count c.args.self.now c.args.j c.self.invariant c.self.view_is c.requires.j_there).lt c.requires.apart)

pub invariant_of-self : goal.invariant_of-self
invariant_of-self c = (swapped c).good

pub returns : goal.returns
returns c = rw (← c.self.view_is) (record {
  laid = good_laid _ _ (swapped c).good;
  after = exchanged_view c.self.inside.words.now _ c.self.inside.count c.args.i c.args.j (omega (arith, c.trade-3.auto.w, c.trade-2.auto.w, c.trade.auto.w))
      (here c.self.inside.words.now c.self.inside.count c.args.self.now c.args.i c.self.invariant c.self.view_is c.requires.i_there).lt (here c.self.inside.words.now c.self.inside.count c.args.self.now c.args.j c.self.invariant c.self.view_is c.requires.j_there).lt c.requires.apart (swapped c);
})
