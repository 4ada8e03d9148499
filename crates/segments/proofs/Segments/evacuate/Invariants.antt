use Rattle.std.proofs.Common.{◌≡◌, ℕ, ◌+◌, ◌/◌, ◌<◌, ◌≤◌, length, take}
use Rattle.segments.specs.Layout.{spread}
use Rattle.segments.specs.Table.{nth, segs, marks, Within, Laid}
use Rattle.segments.proofs.Segments.evacuate.Given as goal

abbrev pub invariant-loop-k : goal.invariant-loop-k
invariant-loop-k l = record {
  laid : Laid l.self;
  lent : l.self.lent ≡ l.initial.self.lent;
  count : length l.self.segments ≡ length l.initial.self.segments;
  same : segs l.self ≡ segs l.initial.self;
  used : marks l.self ≡ marks l.initial.self;
  early : (i : ℕ) → i < l.k → (l.at ≤ (nth l.self i).start) × ((nth l.self i).start + (nth l.self i).room ≤ l.to);
  late : Within l.self l.k l.lo l.hi;
  left : l.at + spread (take l.k (segs l.initial.self)) ≡ l.to;
  rooms : (i : ℕ) → i < l.k → (nth l.self i).room ≡ length (nth l.initial.self i).words + length (nth l.initial.self i).words / 4;
}
