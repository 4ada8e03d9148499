-- Numbers that go out of use while the last takes their place, and what a loop over a block of numbers has done so far.
use Rattle.std.proofs.Common.{◌≡◌, ℕ, suc, ◌+◌, ◌-◌, ◌*◌, ◌<◌, ◌≤◌, Bool, true, false, cond, ◌&&◌, List, [], length, get_or, set, sym, refl, ap, ◌∙◌, ap₂, ⊎_elim, add-one, arith}
use Rattle.std.proofs.lemmas.List.{set-set}
use Rattle.std.proofs.lemmas.Bool.{and_from}
use Rattle.segments.specs.Table.{nth}
use Rattle.store.specs.Sums.{extent}
use Rattle.store.specs.Dense.{Dense, marked, replaced, replaced_block}
use Rattle.store.specs.Layout.{Layout, lists, lives}
use Rattle.store.specs.Held.{Held, model, bounds, spent}
use Rattle.store.proofs.Totals.{lives_at}
use Rattle.store.proofs.StoreLaws.{extent_of, live_back}
use Rattle.store.proofs.Density.{Front, dense_front, front_extent, front_dense, dense_by, dense_remove, removed_bounds, removed_model, given_live, given_front, given_lists}

module _ (s : Layout) (v : Held s) where
  pub extent_count : extent (bounds s).1 ≡ length s.table.segments
  unfolding Held bounds
  extent_count = extent_of _ _ _ _ _ _ v

  pub in_table : (i : ℕ) → get_or (bounds s).1 i false ≡ true → i < length s.table.segments
  unfolding bounds
  in_table i e = (live_back s.table s.half i e).0

  last_in_use : 0 < length s.table.segments → get_or (bounds s).1 (length s.table.segments - 1) false ≡ true
  unfolding Held bounds
  last_in_use h = lives_at s.table s.half (length s.table.segments - 1) ∙
      ⊎_elim (λ (z : length s.table.segments ≡ 0). absurd (omega arith)) (λ (z : (nth s.table (length s.table.segments - 1)).used ≡ true). z) v.tight

  -- the last list changes places with list i, and then goes out of use
  module _ (i : ℕ) (t : get_or (bounds s).1 i false ≡ true) (s₁ s₂ : Layout) where
    pub removed_same : bounds s₁ ≡ bounds s → bounds s₂ ≡ ((bounds s₁).0, set (bounds s₁).1 (length s.table.segments - 1) false) →
        bounds s₂ ≡ cond (get_or (bounds s).1 i false) ((bounds s).0, set (bounds s).1 (extent (bounds s).1 - 1) false) (bounds s)
    removed_same e f = rw (t, extent_count) (f ∙ ap (λ (p : ℕ × List Bool). (p.0, set p.1 (length s.table.segments - 1) false)) e)

    pub removed_dense : bounds s₁ ≡ bounds s → bounds s₂ ≡ ((bounds s₁).0, set (bounds s₁).1 (length s.table.segments - 1) false) → Dense (bounds s).1 → Dense (bounds s₂).1
    removed_dense e f d =
        let x : set (bounds s₁).1 (length s.table.segments - 1) false ≡ set (bounds s).1 (extent (bounds s).1 - 1) false =
        ap₂ (λ (p : ℕ × List Bool) (n : ℕ). set p.1 (n - 1) false) e (sym extent_count) in
        dense_by _ _ (ap (λ (p : ℕ × List Bool). p.1) f ∙ x) (dense_remove (bounds s).1 d)

    pub removed_after : (r : Bool) → r ≡ (get_or (bounds s).1 i false && get_or (bounds s).1 (length s.table.segments - 1) false) →
        model s₁ ≡ cond r (set (set (model s) i (get_or (model s) (length s.table.segments - 1) [])) (length s.table.segments - 1) (get_or (model s) i [])) (model s) →
        model s₂ ≡ set (model s₁) (length s.table.segments - 1) [] →
        model s₂ ≡ cond (get_or (bounds s).1 i false) (replaced (model s) i (extent (bounds s).1 - 1)) (model s)
    removed_after r q e f =
        let z : r ≡ true = q ∙ and_from _ _ t (last_in_use (omega (arith, in_table i t))) in
        rw (t, extent_count)
        (f ∙ ap (λ (y : List (List ℕ)). set y (length s.table.segments - 1) []) (rw z at e) ∙ set-set (set (model s) i (get_or (model s) (length s.table.segments - 1) [])) (length s.table.segments - 1) (get_or (model s) i []) [])

-- j numbers more, behind all others
pub record Taken (s s' : Layout) (j : ℕ) : Type 0 where
  pub held : Held s'
  pub half : s'.half ≡ s.half
  pub count : length s'.table.segments ≡ length s.table.segments + j
  pub total : s'.total ≡ s.total
  pub live : lives s'.table s'.half ≡ marked (lives s.table s.half) (length s.table.segments) j true
  pub same : lists s'.table s'.half ≡ lists s.table s.half
  pub cost : spent s' ≤ spent s + 64 * j

pub taken_none : (s : Layout) → Held s → Taken s s 0
unfolding marked
taken_none s v = record { held = v; half = refl; count = omega arith; total = refl; live = refl; same = refl; cost = omega arith }

pub taken_more : (s s₁ s₂ : Layout) (j : ℕ) → Taken s s₁ j → Held s₂ → (length s₂.table.segments ≡ length s₁.table.segments + 1) × (s₂.total ≡ s₁.total) →
    (s₂.half ≡ s₁.half) × (lives s₂.table s₂.half ≡ set (lives s₁.table s₁.half) (length s₁.table.segments) true) →
    lists s₂.table s₂.half ≡ lists s₁.table s₁.half → spent s₂ ≤ spent s₁ + 64 → Taken s s₂ (j + 1)
unfolding marked
taken_more s s₁ s₂ j t v n b l c =
    record {
      held = v;
      half = b.0 ∙ t.half;
      count = omega (arith, n.0, t.count);
      total = n.1 ∙ t.total;
      live = rw add-one (b.1 ∙ rw (t.live, t.count));
      same = l ∙ t.same;
      cost = omega (arith, t.cost);
    }

-- all but the first j numbers of a block from `at` on have gone out, and k were there
pub record Given (s s' : Layout) (i at k j : ℕ) : Type 0 where
  pub held : Held s'
  pub half : (bounds s').0 ≡ (bounds s).0
  pub live : marked (bounds s').1 at j false ≡ marked (bounds s).1 at k false
  pub same : replaced_block (model s') i at j ≡ replaced_block (model s) i at k
  pub front : Front (bounds s').1 (at + j)
  pub cost : spent s' ≤ spent s

pub given_none : (s : Layout) (i at k : ℕ) → Held s → Dense (bounds s).1 → at + k ≡ length s.table.segments → Given s s i at k k
given_none s i at k v d e =
    let z : at + k ≡ extent (bounds s).1 = e ∙ sym (extent_count s v) in
    record { held = v; half = refl; live = refl; same = refl; front = rw z (dense_front (bounds s).1 d); cost = omega arith }

pub given_step : (s s₁ s₂ : Layout) (i at k j j' : ℕ) → Given s s₁ i at k j → j ≡ suc j' → i ≤ at → Held s₂ →
    bounds s₂ ≡ cond (get_or (bounds s₁).1 (i + j') false) ((bounds s₁).0, set (bounds s₁).1 (extent (bounds s₁).1 - 1) false) (bounds s₁) →
    model s₂ ≡ cond (get_or (bounds s₁).1 (i + j') false) (replaced (model s₁) (i + j') (extent (bounds s₁).1 - 1)) (model s₁) →
    spent s₂ ≤ spent s₁ → Given s s₂ i at k j'
given_step s s₁ s₂ i at k j j' g q h v e f c =
    let t = g.front.used (i + j') (omega arith) in
    let x : extent (bounds s₁).1 - 1 ≡ at + j' = omega (arith, front_extent (bounds s₁).1 (at + j) g.front) in
    let b = removed_bounds (bounds s₁) (bounds s₂) (i + j') (at + j') t x e in
    let l : (bounds s₂).1 ≡ set (bounds s₁).1 (at + j') false = ap (λ (p : ℕ × List Bool). p.1) b in
    record {
      held = v;
      half = ap (λ (p : ℕ × List Bool). p.0) b ∙ g.half;
      live = given_live (bounds s₁).1 (bounds s₂).1 (marked (bounds s).1 at k false) at j j' q l g.live;
      same = given_lists (model s₁) (model s₂) (replaced_block (model s) i at k) i at j j' q (removed_model (bounds s₁).1 (model s₁) (model s₂) (i + j') (at + j') t x f) g.same;
      front = given_front (bounds s₁).1 (bounds s₂).1 at j j' q l g.front;
      cost = omega (arith, g.cost);
    }

pub given_dense : (s s' : Layout) (i at k j : ℕ) → Given s s' i at k j → Dense (bounds s').1
given_dense s s' i at k j g = front_dense (bounds s').1 (at + j) g.front

pub given_all : (s s' : Layout) (i at k j : ℕ) → Given s s' i at k j → j ≤ 0 →
    (bounds s' ≡ ((bounds s).0, marked (bounds s).1 at k false)) × (model s' ≡ replaced_block (model s) i at k)
unfolding marked replaced_block
given_all s s' i at k j g h =
    let z : j ≡ 0 = omega arith in
    (ap₂ (λ (a : ℕ) (y : List Bool). (a, y)) g.half (rw z at g.live), rw z at g.same)
