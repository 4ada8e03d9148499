use Rattle.std.proofs.Common.{◌+◌, ◌-◌, ◌≤◌, length, arith}
use Rattle.std.proofs.lemmas.Bool.{lt-ltb, le-ltb, le-leb, lt-leb}
use Rattle.store.specs.Fields.{fields}
use Rattle.store.specs.Held.{Held}
use Rattle.store.proofs.Blocks.{extent_count, Given, given_none, given_step, given_dense, given_all}
use Rattle.store.proofs.Callers.{extent_there}
use Rattle.store.proofs.Store.remove_block.Goals as goal

pub returns-then-k-n : goal.returns-then-k-n
unfolding Held
returns-then-k-n c =
    let s = fields c.self.inside in
    let v : Held s = c.self.invariant in
    let n = length s.table.segments in
    let q = c.count-n.ensures.is in
    let m = c.args.i + c.args.k in
    let x = extent_count s v in
    rw (← c.self.view_is) (record {
      held = v;
      there = extent_there s v;
      dense = rw (← c.self.view_is) at c.requires.dense;
      same = rw (x, lt-leb m n (omega (arith, q, c.if-k-n.true)));
      after = rw (x, lt-leb m n (omega (arith, q, c.if-k-n.true)));
      says = rw (x, le-ltb m n (omega (arith, q, c.if-k-n.true)));
      cost = omega arith;
    })

pub returns-then-i-from : goal.returns-then-i-from
unfolding Held
returns-then-i-from c =
    let s = fields c.self.inside in
    let v : Held s = c.self.invariant in
    let n = length s.table.segments in
    let q = c.count-n.ensures.is in
    let m = c.args.i + c.args.k in
    let x = extent_count s v in
    rw (← c.self.view_is) (record {
      held = v;
      there = extent_there s v;
      dense = rw (← c.self.view_is) at c.requires.dense;
      same = rw (x, lt-leb m n (omega (arith, q, c.if-i-from.true)));
      after = rw (x, lt-leb m n (omega (arith, q, c.if-i-from.true)));
      says = rw (x, le-ltb m n (omega (arith, q, c.if-i-from.true)));
      cost = omega arith;
    })

pub loop-q-init : goal.loop-q-init
unfolding Held
loop-q-init c =
    let s = fields c.self.inside in
    let v : Held s = c.self.invariant in
    let n = length s.table.segments in
    let q = c.count-n.ensures.is in
    let m = c.args.i + c.args.k in
    let x = extent_count s v in
    let d = rw (← c.self.view_is) at c.requires.dense in
    rw (← c.self.view_is, q) (given_none s c.args.i (n - c.args.k) c.args.k v d (omega (arith, c.if-k-n.false, q)))

pub loop-q-preserved : goal.loop-q-preserved
loop-q-preserved c =
    let e = c.remove.ensures in
    let j = c.loop-q.q in
    given_step c.args.self.now c.loop-q.self c.remove.new.self c.args.i (c.count-n.result - c.args.k) c.args.k j (j - 1) c.loop-q.invariant
    (omega arith) c.if-i-from.false e.held e.same e.after e.cost

pub returns-then-i-from-2 : goal.returns-then-i-from-2
unfolding Held
returns-then-i-from-2 c =
    let s = fields c.self.inside in
    let v : Held s = c.self.invariant in
    let n = length s.table.segments in
    let q = c.count-n.ensures.is in
    let m = c.args.i + c.args.k in
    let x = extent_count s v in
    let y : Given s c.loop-q.self c.args.i (n - c.args.k) c.args.k c.loop-q.q = rw (← c.self.view_is, q) at c.loop-q.invariant in
    let g = given_all s c.loop-q.self c.args.i (n - c.args.k) c.args.k c.loop-q.q y (omega arith) in
    let h : m ≤ n = omega (arith, c.if-k-n.false, c.if-i-from.false, q) in
    rw (← c.self.view_is) (record {
      held = y.held;
      there = extent_there s v;
      dense = given_dense s c.loop-q.self c.args.i (n - c.args.k) c.args.k c.loop-q.q y;
      same = rw (x, le-leb m n h) g.0;
      after = rw (x, le-leb m n h) g.1;
      says = rw (x, lt-ltb m n (omega (arith, c.if-i-from-2.true, q)), q);
      cost = y.cost;
    })

pub returns : goal.returns
unfolding Held
returns c =
    let s = fields c.self.inside in
    let v : Held s = c.self.invariant in
    let n = length s.table.segments in
    let q = c.count-n.ensures.is in
    let m = c.args.i + c.args.k in
    let x = extent_count s v in
    let y : Given s c.loop-q.self c.args.i (n - c.args.k) c.args.k c.loop-q.q = rw (← c.self.view_is, q) at c.loop-q.invariant in
    let g = given_all s c.loop-q.self c.args.i (n - c.args.k) c.args.k c.loop-q.q y (omega arith) in
    let h : m ≤ n = omega (arith, c.if-k-n.false, c.if-i-from.false, q) in
    rw (← c.self.view_is) (record {
      held = y.held;
      there = extent_there s v;
      dense = given_dense s c.loop-q.self c.args.i (n - c.args.k) c.args.k c.loop-q.q y;
      same = rw (x, le-leb m n h) g.0;
      after = rw (x, le-leb m n h) g.1;
      says = rw (x, le-ltb m n (omega (arith, c.if-i-from-2.false, q)));
      cost = y.cost;
    })
