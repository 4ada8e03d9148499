use Rattle.std.proofs.Common.{ℕ, ◌+◌, Bool, List, [], length, get_or, sym, ap, ◌∙◌}
use Rattle.store.specs.Held.{model, bounds}
use Rattle.store.proofs.Bounds.{no_room, told_no_room, few_for_words}
use Rattle.store.proofs.Density.{dense_by}
use Rattle.store_client.proofs.push_or_few.Goals as goal

pub returns : goal.returns
returns c =
    let s = c.args.st.now in
    let e = c.push.ensures in
    let m = length (get_or (model s) c.args.i []) + 1 in
    record {
      few = λ r all q. no_room all (bounds s) (model s) m q (told_no_room _ _ (sym e.says ∙ r)).1;
      dense = λ d. dense_by _ _ (ap (λ (p : ℕ × List Bool). p.1) e.same) d;
      few_dense = λ d r all q. few_for_words all (bounds s) (model s) c.args.i m q d (sym e.says ∙ r);
    }
