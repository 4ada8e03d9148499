use Rattle.std.proofs.Common.{◌≡◌, false, [], set, arith}
use Rattle.std.proofs.lemmas.List.{length-set}
use Rattle.segments.specs.Table.{nth}
use Rattle.store.specs.Fields.{fields}
use Rattle.store.specs.Held.{Sound, Held, model, bounds, spent}
use Rattle.store.proofs.Totals.{lists_at}
use Rattle.store.proofs.StoreLaws.{changed_inv, changed_model, changed_bounds, shrunk_strain}
use Rattle.store.proofs.Store.set.Goals as goal

pub invariant_of-self : goal.invariant_of-self
invariant_of-self c =
    let s = fields c.self.inside in
    let i = c.args.i in
    let v : Sound s = c.self.invariant in
    let x = set (nth s.table i).words c.args.j c.args.v in
    let d : (nth s.table i).used ≡ false → x ≡ [] = λ u. rw (v.empty i u) in
    let l = length-set (nth s.table i).words c.args.j c.args.v in
    rw c.put.ensures.after (changed_inv _ _ _ _ _ _ v i s.total x d (omega (arith, l)) v.bound (rw c.put.ensures.after at c.put.ensures.laid))

pub returns : goal.returns
unfolding Held model bounds spent
returns c =
    let s = fields c.self.inside in
    let i = c.args.i in
    let v : Sound s = c.self.invariant in
    let x = set (nth s.table i).words c.args.j c.args.v in
    let d : (nth s.table i).used ≡ false → x ≡ [] = λ u. rw (v.empty i u) in
    let l = length-set (nth s.table i).words c.args.j c.args.v in
    rw (← c.self.view_is, c.put.ensures.after) (record {
      held = changed_inv _ _ _ _ _ _ v i s.total x d (omega (arith, l)) v.bound (rw c.put.ensures.after at c.put.ensures.laid);
      same = changed_bounds _ _ _ _ _ _ v i s.total x d;
      after = rw lists_at (changed_model _ _ _ _ _ _ v i s.total x d);
      cost = omega (
        arith,
        shrunk_strain _ _ _ _ _ _ v i s.total x d (omega (arith, l)),
        length-set s.table.segments i (record { start = (nth s.table i).start; room = (nth s.table i).room; words = x; used = (nth s.table i).used }),
      );
    })
