use Rattle.std.proofs.Common.{◌+◌, length, sym, arith}
use Rattle.std.proofs.lemmas.Bool.{lt-ltb, le-ltb}
use Rattle.store.specs.Fields.{fields}
use Rattle.store.proofs.Blocks.{extent_count, in_table, removed_same, removed_dense, removed_after}
use Rattle.store.proofs.Store.remove.Goals as goal

pub overflow_sub-last : goal.overflow_sub-last
overflow_sub-last c =
    let s = fields c.self.inside in
    let i = c.args.i in
    let n = length s.table.segments in
    let v = rw (← c.self.view_is) at c.in_use.ensures.held in
    let t = sym (rw (← c.self.view_is) at c.if-not-in_use.ensures.says) in
    omega (arith, in_table s v i t, c.count-last.ensures.is)

pub returns-then-i-last : goal.returns-then-i-last
returns-then-i-last c =
    let s = fields c.self.inside in
    let i = c.args.i in
    let n = length s.table.segments in
    let v = rw (← c.self.view_is) at c.in_use.ensures.held in
    let t = sym (rw (← c.self.view_is) at c.if-not-in_use.ensures.says) in
    let e = rw (← c.self.view_is, c.count-last.ensures.is) at c.swap.ensures in
    let f = rw c.count-last.ensures.is at c.free.ensures in
    rw (← c.self.view_is, c.count-last.ensures.is) (record {
      held = f.held;
      dense = removed_dense s v i t _ _ e.same f.same;
      same = removed_same s v i t _ _ e.same f.same;
      after = removed_after s v i t _ _ _ e.says e.after f.after;
      says = rw (t, extent_count s v, lt-ltb (i + 1) n (omega (arith, c.if-i-last.true, c.count-last.ensures.is)));
      cost = omega (arith, e.cost, f.cost);
    })

pub returns : goal.returns
returns c =
    let s = fields c.self.inside in
    let i = c.args.i in
    let n = length s.table.segments in
    let v = rw (← c.self.view_is) at c.in_use.ensures.held in
    let t = sym (rw (← c.self.view_is) at c.if-not-in_use.ensures.says) in
    let e = rw (← c.self.view_is, c.count-last.ensures.is) at c.swap.ensures in
    let f = rw c.count-last.ensures.is at c.free.ensures in
    rw (← c.self.view_is) (record {
      held = f.held;
      dense = removed_dense s v i t _ _ e.same f.same;
      same = removed_same s v i t _ _ e.same f.same;
      after = removed_after s v i t _ _ _ e.says e.after f.after;
      says = rw (t, extent_count s v, le-ltb (i + 1) n (omega (arith, c.if-i-last.false, c.count-last.ensures.is)));
      cost = omega (arith, e.cost, f.cost);
    })
