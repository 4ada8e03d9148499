use Rattle.std.proofs.Common.{length, refl}
use Rattle.segments.specs.Table.{strain}
use Rattle.store.specs.Fields.{fields}
use Rattle.store.specs.Held.{Sound, Held, spent}
use Rattle.store.proofs.Numbers.{retired_inv, retired_lists, retired_lives, retired_strain, fewer_cost}
use Rattle.store.proofs.Store.release.Goals as goal

pub invariant_of-self : goal.invariant_of-self
invariant_of-self c =
    let s = fields c.self.inside in
    let p : Sound s = c.self.invariant in
    let q = rw (← c.self.view_is) at c.requires in
    let r = c.retire.ensures.retired in
    rw c.min-self-inside.ensures (retired_inv _ _ _ _ _ _ p _ _ r q.there q.bare c.retire.ensures.laid)

pub returns : goal.returns
unfolding Held spent
returns c =
    let s = fields c.self.inside in
    let p : Sound s = c.self.invariant in
    let q = rw (← c.self.view_is) at c.requires in
    let r = c.retire.ensures.retired in
    rw (← c.self.view_is) (record {
      held = rw c.min-self-inside.ensures (retired_inv _ _ _ _ _ _ p _ _ r q.there q.bare c.retire.ensures.laid);
      bounds = (refl, retired_lives _ _ _ _ _ _ p _ _ r q.there q.bare);
      same = retired_lists _ _ _ _ _ _ p _ _ r q.there q.bare;
      cost = fewer_cost s.moved s.half s.low s.hi (length s.table.segments) (length c.retire.new.self.segments) (strain s.table) (strain c.retire.new.self)
          r.within (retired_strain _ _ _ _ _ _ p _ _ r q.there q.bare);
    })
