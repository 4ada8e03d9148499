-- Where the lists of a process stand, once another has ended.
use Rattle.std.proofs.Common.{◌≡◌, ℕ, ◌+◌, ◌-◌, ◌<◌, ◌≤◌, Bool, true, false, cond, ltb, leb, List, [], length, get_or, IfSome, Some, None, Option, refl, ap, ◌∙◌, arith}
use Rattle.std.proofs.lemmas.Bool.{ltb-true, le-leb}
use Rattle.store.specs.declared.Store.{Store}
use Rattle.store.specs.Sums.{extent}
use Rattle.store.specs.Dense.{replaced_block}
use Rattle.store.specs.Held.{model, bounds}
use Rattle.store.proofs.Density.{block_moves}

some_when : (b : Bool) (x : ℕ) (P : ℕ → Type 0) → (b ≡ true → P x) → (r : Option ℕ) → r ≡ cond b (Some x) None → IfSome r P
some_when true x P f r e = rw e (f refl)
some_when false x P f r e = rw e tt

pub block_stands : (s s' : Store) (i k : ℕ) (r : Option ℕ) → extent (bounds s).1 ≤ length (model s) →
    model s' ≡ cond (leb (i + k) (extent (bounds s).1)) (replaced_block (model s) i (extent (bounds s).1 - k) k) (model s) →
    r ≡ cond (ltb (i + k) (extent (bounds s).1)) (Some (extent (bounds s).1 - k)) None →
    IfSome r (λ from. i + k ≤ from → (q : ℕ) → q < k → get_or (model s') (i + q) [] ≡ get_or (model s) (from + q) [])
block_stands s s' i k r v e w =
    let n = extent (bounds s).1 in
    some_when (ltb (i + k) n) (n - k) (λ from. i + k ≤ from → (q : ℕ) → q < k → get_or (model s') (i + q) [] ≡ get_or (model s) (from + q) [])
    (λ b h q l.
    let p : i + k ≤ n = omega (arith, ltb-true (i + k) n b) in
    let m : model s' ≡ replaced_block (model s) i (n - k) k = rw (le-leb (i + k) n p) at e in
    ap (λ (y : List (List ℕ)). get_or y (i + q) []) m ∙ (block_moves (model s) i (n - k) k h (omega (arith, v))).0 q l)
    r w
