-- Numbers in use from 0 on, with none left out.
use Rattle.std.proofs.Common.{◌≡◌, ℕ, zero, suc, ◌+◌, ◌-◌, ◌<◌, ◌≤◌, Bool, true, false, cond, ◌||◌, ltb, ◌≢◌, ◌⊎◌, List, [], ◌∷◌, ◌++◌, length, get_or, set, replicate, sym, refl, ap, ◌∙◌, inl, inr, ⊎_elim, arith}
use Rattle.std.specs.List.{prefix_len}
use Rattle.std.proofs.lemmas.List.{get_or-set_same, get_or-set_other, get_or_past, length-set, set_past, set_comm, length-replicate, get_or-replicate, length-append, ext_get_or}
use Rattle.std.proofs.lemmas.Bool.{cases_eq, cases_lt, lt-ltb, le-ltb, false≢true}
use Rattle.store.specs.Sums.{extent}
use Rattle.store.specs.Dense.{Dense, in_use_count, marked, replaced, replaced_block, DenseEmpty, DenseFresh, DenseRemove, DenseFreshBlock, DenseRemoveBlock, DenseCount, DenseShape, ShapeDense, BlockMoves}
use Rattle.store.proofs.Totals.{extent_is, padded_at}
use Rattle.store.proofs.Numbers.{leading_is}

-- the numbers in use are those below n
pub record Front (live : List Bool) (n : ℕ) : Type 0 where
  pub used : (k : ℕ) → k < n → get_or live k false ≡ true
  pub past : (k : ℕ) → n ≤ k → get_or live k false ≡ false

leading_used : (live : List Bool) (k : ℕ) → k < prefix_len (λ b. b) live → get_or live k false ≡ true
leading_used [] k h = absurd (omega arith)
leading_used (true ∷ bs) zero h = refl
leading_used (true ∷ bs) (suc k) h = leading_used bs k (omega arith)
leading_used (false ∷ bs) k h = absurd (omega arith)

pub extent_past : (live : List Bool) (k : ℕ) → extent live ≤ k → get_or live k false ≡ false
unfolding extent
extent_past [] k h = refl
extent_past (true ∷ bs) zero h = absurd (omega arith)
extent_past (true ∷ bs) (suc k) h = extent_past bs k (omega arith)
extent_past (false ∷ bs) zero h = refl
extent_past (false ∷ bs) (suc k) h = extent_past bs k (⊎_elim
    (λ (q : 0 < extent bs). omega (arith, rw (lt-ltb 0 (extent bs) q) at h))
    (λ (q : extent bs ≤ 0). omega arith)
    (cases_lt 0 (extent bs)))

pub extent_le : (live : List Bool) → extent live ≤ length live
unfolding extent
extent_le [] = omega arith
extent_le (b ∷ bs) = elim (b || ltb 0 (extent bs)) as (λ v. cond v (1 + extent bs) 0 ≤ length (b ∷ bs)) [ true ↦ omega (arith, extent_le bs) | false ↦ omega arith ]

pub dense_front : (live : List Bool) → Dense live → Front live (extent live)
dense_front live d = record { used = λ k h. leading_used live k (omega arith); past = extent_past live }

pub front_extent : (live : List Bool) (n : ℕ) → Front live n → extent live ≡ n
front_extent live n f = extent_is live n (λ m q. f.used m (omega arith)) f.past

pub front_dense : (live : List Bool) (n : ℕ) → Front live n → Dense live
front_dense live n f = leading_is live n f.used (f.past n (omega arith)) ∙ sym (front_extent live n f)

pub front_count : (live : List Bool) (n : ℕ) → Front live n → in_use_count live ≡ n
unfolding in_use_count
front_count [] zero f = refl
front_count [] (suc n) f = absurd (false≢true (f.used 0 (omega arith)))
front_count (b ∷ bs) zero f =
    let e : b ≡ false = f.past 0 (omega arith) in
    rw e (front_count bs zero (record { used = λ k h. absurd (omega arith); past = λ k h. f.past (suc k) (omega arith) }))
front_count (b ∷ bs) (suc n) f =
    let e : b ≡ true = f.used 0 (omega arith) in
    rw e (omega (arith, front_count bs n (record { used = λ k h. f.used (suc k) (omega arith); past = λ k h. f.past (suc k) (omega arith) })))

pub dense_count : DenseCount
dense_count live d =
    let f = dense_front live d in
    let e = front_count live (extent live) f in (
      sym e,
      λ i. rw e (⊎_elim
          (λ (h : i < extent live). f.used i h ∙ sym (lt-ltb i (extent live) h))
          (λ (h : extent live ≤ i). f.past i h ∙ sym (le-ltb i (extent live) h))
          (cases_lt i (extent live))),
    )

-- numbers in a row that are marked
pub length_marked : (live : List Bool) (at k : ℕ) (b : Bool) → length (marked live at k b) ≡ length live
unfolding marked
length_marked live at zero b = refl
length_marked live at (suc k) b = length-set (marked live at k b) (at + k) b ∙ length_marked live at k b

pub marked_in : (live : List Bool) (at k : ℕ) (b : Bool) (q : ℕ) → at ≤ q → q < at + k → q < length live → get_or (marked live at k b) q false ≡ b
unfolding marked
marked_in live at zero b q p h l = absurd (omega arith)
marked_in live at (suc k) b q p h l = ⊎_elim
    (λ (e : q ≡ at + k). rw e (get_or-set_same (marked live at k b) (at + k) b false (omega (arith, length_marked live at k b))))
    (λ (e : q ≢ at + k). get_or-set_other (marked live at k b) (at + k) q b false e ∙ marked_in live at k b q p (omega arith) l)
    (cases_eq q (at + k))

pub marked_out : (live : List Bool) (at k : ℕ) (b : Bool) (q : ℕ) → (q < at) ⊎ (at + k ≤ q) → get_or (marked live at k b) q false ≡ get_or live q false
unfolding marked
marked_out live at zero b q p = refl
marked_out live at (suc k) b q p = get_or-set_other (marked live at k b) (at + k) q b false (omega arith) ∙
    marked_out live at k b q (⊎_elim (λ (h : q < at). inl h) (λ (h : at + suc k ≤ q). inr (omega arith)) p)

-- a number behind them may be marked before
pub marked_set : (live : List Bool) (at k q : ℕ) (b : Bool) → at + k ≤ q → marked (set live q b) at k b ≡ set (marked live at k b) q b
unfolding marked
marked_set live at zero q b h = refl
marked_set live at (suc k) q b h = ap (λ (y : List Bool). set y (at + k) b) (marked_set live at k q b (omega arith)) ∙ set_comm (marked live at k b) q (at + k) b b (omega arith)

pub front_taken : (live : List Bool) (n k : ℕ) → Front live n → n + k ≤ length live → Front (marked live n k true) (n + k)
front_taken live n k f h = record {
  used = λ q l. ⊎_elim
      (λ (e : q < n). marked_out live n k true q (inl e) ∙ f.used q e)
      (λ (e : n ≤ q). marked_in live n k true q e l (omega arith))
      (cases_lt q n);
  past = λ q l. marked_out live n k true q (inr l) ∙ f.past q (omega arith);
}

pub front_given : (live : List Bool) (at k : ℕ) → Front live (at + k) → Front (marked live at k false) at
front_given live at k f = record {
  used = λ q l. marked_out live at k false q (inl l) ∙ f.used q (omega arith);
  past = λ q l. ⊎_elim
      (λ (e : q < at + k). ⊎_elim
      (λ (z : q < length live). marked_in live at k false q l e z)
      (λ (z : length live ≤ q). get_or_past (marked live at k false) q false (omega (arith, length_marked live at k false)))
      (cases_lt q (length live)))
      (λ (e : at + k ≤ q). marked_out live at k false q (inr e) ∙ f.past q e)
      (cases_lt q (at + k));
}

pub marked_one : (live : List Bool) (at : ℕ) (b : Bool) → marked live at 1 b ≡ set live at b
unfolding marked
marked_one live at b = let z : at + 0 ≡ at = omega arith in rw z

-- the theorems
pub dense_empty : DenseEmpty
dense_empty n = front_dense (replicate n false) 0 (record {
  used = λ k h. absurd (omega arith);
  past = λ k h. ⊎_elim
      (λ (q : k < n). get_or-replicate n k false false q)
      (λ (q : n ≤ k). get_or_past (replicate n false) k false (omega (arith, length-replicate n false)))
      (cases_lt k n);
})

shape_front : (n m : ℕ) → Front (replicate n true ++ replicate m false) n
shape_front n m = record {
  used = λ k h. padded_at (replicate n true) m k false ∙ get_or-replicate n k true false h;
  past = λ k h. padded_at (replicate n true) m k false ∙ get_or_past (replicate n true) k false (omega (arith, length-replicate n true));
}

pub shape_dense : ShapeDense
shape_dense n m = (front_dense _ n (shape_front n m), front_count _ n (shape_front n m))

pub dense_shape : DenseShape
dense_shape live d =
    let n = in_use_count live in
    let e : extent live ≡ n = sym (front_count live (extent live) (dense_front live d)) in
    let f : Front live n = rw (← e) (dense_front live d) in
    let g = shape_front n (length live - n) in
    let l : length (replicate n true ++ replicate (length live - n) false) ≡ length live = length-append (replicate n true) (replicate (length live - n) false) ∙
    omega (arith, length-replicate n true, length-replicate (length live - n) false, extent_le live) in
    ext_get_or false live (replicate n true ++ replicate (length live - n) false) (sym l)
    (λ k h. ⊎_elim
    (λ (q : k < n). f.used k q ∙ sym (g.used k q))
    (λ (q : n ≤ k). f.past k q ∙ sym (g.past k q))
    (cases_lt k n))

pub dense_taken : DenseFreshBlock
dense_taken live k d h =
    let n = extent live in
    let f = dense_front live d in
    let g = front_taken live n k f h in
    (front_dense (marked live n k true) (n + k) g, front_count (marked live n k true) (n + k) g ∙ omega (arith, front_count live n f))

pub dense_given : DenseRemoveBlock
dense_given live k d h =
    let n = extent live in
    let f = dense_front live d in
    let e : (n - k) + k ≡ n = omega arith in
    let g = front_given live (n - k) k (rw e f) in
    (front_dense (marked live (n - k) k false) (n - k) g, front_count (marked live (n - k) k false) (n - k) g ∙ omega (arith, front_count live n f))

pub dense_fresh : DenseFresh
dense_fresh live d = rw d (⊎_elim
    (λ (h : extent live < length live). rw marked_one at (dense_taken live 1 d (omega arith)).0)
    (λ (h : length live ≤ extent live). rw (set_past live (extent live) true h) d)
    (cases_lt (extent live) (length live)))

pub dense_remove : DenseRemove
dense_remove live d = ⊎_elim
    (λ (h : 0 < extent live). rw marked_one at (dense_given live 1 d (omega arith)).0)
    (λ (h : extent live ≤ 0).
    let f = dense_front live d in
    front_dense (set live (extent live - 1) false) 0 (record {
      used = λ k l. absurd (omega arith);
      past = λ k l. ⊎_elim
          (λ (q : k ≡ extent live - 1). ⊎_elim
          (λ (z : k < length live). rw (← q) (get_or-set_same live k false false z))
          (λ (z : length live ≤ k). get_or_past (set live (extent live - 1) false) k false (omega (arith, length-set live (extent live - 1) false)))
          (cases_lt k (length live)))
          (λ (q : k ≢ extent live - 1). get_or-set_other live (extent live - 1) k false false q ∙ f.past k (omega arith))
          (cases_eq k (extent live - 1));
    }))
    (cases_lt 0 (extent live))

pub dense_by : (live live' : List Bool) → live' ≡ live → Dense live → Dense live'
dense_by live live' e d = rw e d

pub dense_fresh_at : (live live' : List Bool) (n : ℕ) → prefix_len (λ b. b) live ≡ n → live' ≡ set live n true → Dense live → Dense live'
dense_fresh_at live live' n e q d = dense_by (set live n true) live' q (rw e at (dense_fresh live d))

pub dense_taken_at : (live live' : List Bool) (n k : ℕ) → extent live ≡ n → n + k ≤ length live → live' ≡ marked live n k true → Dense live → Dense live'
dense_taken_at live live' n k e h q d = dense_by (marked live n k true) live' q (rw e at (dense_taken live k d (omega arith)).0)

-- one step of a removal
pub removed_bounds : (b b' : ℕ × List Bool) (i p : ℕ) → get_or b.1 i false ≡ true → extent b.1 - 1 ≡ p →
    b' ≡ cond (get_or b.1 i false) (b.0, set b.1 (extent b.1 - 1) false) b → b' ≡ (b.0, set b.1 p false)
removed_bounds b b' i p t e q = rw (t, e) at q

pub removed_model : (live : List Bool) (m m' : List (List ℕ)) (i p : ℕ) → get_or live i false ≡ true → extent live - 1 ≡ p →
    m' ≡ cond (get_or live i false) (replaced m i (extent live - 1)) m → m' ≡ replaced m i p
removed_model live m m' i p t e q = rw (t, e) at q

-- the last of a block goes out
pub given_live : (live live' goal : List Bool) (at j j' : ℕ) → j ≡ suc j' → live' ≡ set live (at + j') false → marked live at j false ≡ goal → marked live' at j' false ≡ goal
unfolding marked
given_live live live' goal at j j' e q h =
    let z : set (marked live at j' false) (at + j') false ≡ goal = rw e at h in
    rw q (marked_set live at j' (at + j') false (omega arith) ∙ z)

pub given_front : (live live' : List Bool) (at j j' : ℕ) → j ≡ suc j' → live' ≡ set live (at + j') false → Front live (at + j) → Front live' (at + j')
given_front live live' at j j' e q f =
    let z : at + j ≡ (at + j') + 1 = omega arith in
    rw (q, ← marked_one live (at + j') false) (front_given live (at + j') 1 (rw z at f))

pub given_lists : (m m' goal : List (List ℕ)) (i at j j' : ℕ) → j ≡ suc j' → m' ≡ replaced m (i + j') (at + j') → replaced_block m i at j ≡ goal → replaced_block m' i at j' ≡ goal
unfolding replaced_block
given_lists m m' goal i at j j' e q h = rw q (rw e at h)

-- what a block leaves where
block_other : (m : List (List ℕ)) (i j k q : ℕ) → (q < i) ⊎ (i + k ≤ q) → (q < j) ⊎ (j + k ≤ q) → get_or (replaced_block m i j k) q [] ≡ get_or m q []
unfolding replaced_block
block_other m i j zero q a b = refl
block_other m i j (suc k) q a b =
    block_other (replaced m (i + k) (j + k)) i j k q (⊎_elim (λ (h : q < i). inl h) (λ (h : i + suc k ≤ q). inr (omega arith)) a)
    (⊎_elim (λ (h : q < j). inl h) (λ (h : j + suc k ≤ q). inr (omega arith)) b) ∙
    get_or-set_other (set m (i + k) (get_or m (j + k) [])) (j + k) q [] [] (omega arith) ∙ get_or-set_other m (i + k) q (get_or m (j + k) []) [] (omega arith)

block_moved : (m : List (List ℕ)) (i j k : ℕ) → i + k ≤ j → j + k ≤ length m → (q : ℕ) → q < k → get_or (replaced_block m i j k) (i + q) [] ≡ get_or m (j + q) []
unfolding replaced_block
block_moved m i j zero h l q p = absurd (omega arith)
block_moved m i j (suc k) h l q p =
    let x = get_or m (j + k) [] in
    let m' = replaced m (i + k) (j + k) in
    ⊎_elim
    (λ (e : q ≡ k). rw e (block_other m' i j k (i + k) (inr (omega arith)) (inl (omega arith)) ∙ get_or-set_other (set m (i + k) x) (j + k) (i + k) [] [] (omega arith) ∙
    get_or-set_same m (i + k) x [] (omega arith)))
    (λ (e : q ≢ k). block_moved m' i j k (omega arith) (omega (arith, length-set (set m (i + k) x) (j + k) [], length-set m (i + k) x)) q (omega arith) ∙
    get_or-set_other (set m (i + k) x) (j + k) (j + q) [] [] (omega arith) ∙ get_or-set_other m (i + k) (j + q) x [] (omega arith))
    (cases_eq q k)

block_gone : (m : List (List ℕ)) (i j k : ℕ) → i + k ≤ j → j + k ≤ length m → (q : ℕ) → q < k → get_or (replaced_block m i j k) (j + q) [] ≡ []
unfolding replaced_block
block_gone m i j zero h l q p = absurd (omega arith)
block_gone m i j (suc k) h l q p =
    let x = get_or m (j + k) [] in
    let m' = replaced m (i + k) (j + k) in
    ⊎_elim
    (λ (e : q ≡ k). rw e (block_other m' i j k (j + k) (inr (omega arith)) (inr (omega arith)) ∙
    get_or-set_same (set m (i + k) x) (j + k) [] [] (omega (arith, length-set m (i + k) x))))
    (λ (e : q ≢ k). block_gone m' i j k (omega arith) (omega (arith, length-set (set m (i + k) x) (j + k) [], length-set m (i + k) x)) q (omega arith))
    (cases_eq q k)

pub block_moves : BlockMoves
block_moves m i j k h l = (block_moved m i j k h l, block_gone m i j k h l, block_other m i j k)
