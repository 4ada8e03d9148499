use Rattle.std.proofs.Common.{◌≡◌, ◌+◌, ◌≤◌, drop}
use Rattle.front.specs.Places.{place_after}
use Rattle.front.proofs.place.Place.behind.Given as goal

abbrev pub invariant-loop-byte : goal.invariant-loop-byte
invariant-loop-byte l = record {
  line : l.place.line ≤ l.fn.self.line + l.byte-index;
  column : l.place.column ≤ l.fn.self.column + l.byte-index;
  still : place_after (drop l.byte-index l.bytes) l.place.line l.place.column ≡ place_after l.bytes l.fn.self.line l.fn.self.column;
}
