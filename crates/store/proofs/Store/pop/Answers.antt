use Rattle.std.proofs.Common.{◌≡◌, ℕ, ◌-◌, List, [], length, get_or, take, set, sym, refl, arith}
use Rattle.std.proofs.lemmas.List.{set-get_or, nil_from_length}
use Rattle.store.specs.Held.{model}
use Rattle.store.proofs.Store.pop.Goals as goal

none : (m : List (List ℕ)) (i : ℕ) → get_or m i [] ≡ [] → m ≡ set m i (take (length (get_or m i []) - 1) (get_or m i []))
none m i e = sym (rw (e) (rw e at (set-get_or m i [])))

pub returns-then-len-eq0 : goal.returns-then-len-eq0
returns-then-len-eq0 c =
    let m = model c.args.self.now in
    let e = nil_from_length (get_or m c.args.i []) (omega arith) in
    record { held = c.len-len.ensures.held; same = refl; after = none m c.args.i e; last = rw e; cost = omega arith }
