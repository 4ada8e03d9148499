use Rattle.std.proofs.Common.{◌≡◌, ℕ, ◌-◌, ◌/◌, ◌^◌, ◌<◌, ◌≤◌, [], length, refl, inl, arith}
use Rattle.segments.specs.Layout.{need}
use Rattle.segments.specs.Table.{upto, segs, marks}
use Rattle.store.specs.Layout.{Inv, lists, lives}
use Rattle.store.specs.Held.{Held, model, bounds, spent}
use Rattle.store.proofs.store_in.Goals as goal

-- no segments, in so many words
empty_inv : (all : ℕ) → 64 ≤ all → all < 2 ^ 61 → Inv (record { lent = all; segments = [] }) (all / 2) (all / 2) (all / 2) 0 0
unfolding segs need
empty_inv all p q =
    record {
      laid = record { table = omega arith; fits = λ i a. absurd (omega arith); above = λ i a. absurd (omega arith); below = λ i a. absurd (omega arith); apart = λ i j a. absurd (omega arith) };
      within = λ i a b. absurd (omega arith);
      side = inl refl;
      floor = omega arith;
      ceil = omega arith;
      long = omega arith;
      small = omega arith;
      sum = refl;
      bound = omega arith;
      tight = inl refl;
      known = omega arith;
      below = λ k a. absurd (omega arith);
      empty = λ k d. refl;
    }

pub invariant_of-result : goal.invariant_of-result
invariant_of-result c = rw c.new.ensures (empty_inv _ c.if-all-lt-LEAST.false (omega arith))

pub returns : goal.returns
unfolding Held bounds model spent lists lives segs marks need upto
returns c =
    let h = length c.args.words.now / 2 in
    let z : h - 0 ≡ h = omega arith in
    rw c.new.ensures (record {
      held = empty_inv _ c.if-all-lt-LEAST.false (omega arith);
      long = c.if-all-lt-LEAST.false;
      numbers = rw z;
      none = rw z;
      cost = omega arith;
    })
