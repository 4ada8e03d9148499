use Rattle.std.proofs.Common.{ap, ◌∙◌, arith}
use Rattle.store.specs.Held.{bounds}
use Rattle.scheduler.proofs.Opening.{opened_more}
use Rattle.scheduler.proofs.lists.open_lists.Goals as goal

pub loop-j-preserved : goal.loop-j-preserved
loop-j-preserved c =
    let i = c.loop-j.invariant in
    let s = rw c.if-is_none.ensures at c.fresh.ensures.same in
    record { half = ap (λ b. b.0) s ∙ i.half; live = ap (λ b. b.1) s ∙ opened_more (bounds c.loop-j.st).1 c.loop-j._j (bounds c.args.st.now).0 i.live (omega arith); after = c.fresh.ensures.after ∙ i.after }
