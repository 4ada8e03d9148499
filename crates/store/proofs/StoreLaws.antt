-- What keeps a store in order.
use Rattle.std.proofs.Common.{◌≡◌, ℕ, ◌+◌, ◌-◌, ◌*◌, ◌/◌, ◌^◌, ◌<◌, ◌≤◌, Bool, true, false, ◌≢◌, ◌⊎◌, List, [], length, get_or, set, sym, refl, ap, ◌∙◌, inl, inr, ⊎_elim, arith, w64, Fits}
use Rattle.std.proofs.lemmas.List.{length-set, set-get_or, set_past}
use Rattle.std.proofs.lemmas.Bool.{cases_eq, cases_lt, le-leb, lt-leb}
use Rattle.segments.specs.Layout.{need, spread}
use Rattle.segments.specs.Table.{Segment, Table, nth, segs, marks, placed, written, moved, Within, tense, upto, strain, Laid}
use Rattle.store.specs.Sums.{extent, enough}
use Rattle.store.specs.Layout.{Layout, lists, lives, Inv}
use Rattle.store.specs.Held.{Shifted}
use Rattle.segments.proofs.Placed.{nth_same, nth_other, nth_past, segs_at, marks_at, length_segs, segs_placed, segs_kept, marks_kept, words_same}
use Rattle.segments.proofs.Moves.{need_set, need_at, spread_le}
use Rattle.segments.proofs.Upto.{upto_one, upto_none}
use Rattle.store.proofs.Totals.{lists_at, lists_set, lives_by, lives_at, need_lists, there, extent_lives}

-- segments with the same words, or as much in use
pub same_count : (t u : Table) → segs t ≡ segs u → length t.segments ≡ length u.segments
same_count t u e = sym (length_segs t) ∙ ap length e ∙ length_segs u

pub same_used : (t u : Table) → marks t ≡ marks u → (k : ℕ) → (nth t k).used ≡ (nth u k).used
same_used t u e k = sym (marks_at t k) ∙ ap (λ (y : List Bool). get_or y k false) e ∙ marks_at u k

pub tight_by : (t u : Table) → length t.segments ≡ length u.segments → ((k : ℕ) → (nth t k).used ≡ (nth u k).used) →
    (length u.segments ≡ 0) ⊎ ((nth u (length u.segments - 1)).used ≡ true) → (length t.segments ≡ 0) ⊎ ((nth t (length t.segments - 1)).used ≡ true)
tight_by t u c f e = ⊎_elim (λ (z : length u.segments ≡ 0). inl (c ∙ z)) (λ (z : (nth u (length u.segments - 1)).used ≡ true). inr (rw c (f (length u.segments - 1) ∙ z))) e

-- what was paid in, where one segment is now s
pub strain_placed : (t : Table) (i : ℕ) (s : Segment) → i < length t.segments → strain (placed t i s) + tense (nth t i) ≡ strain t + tense s
strain_placed t i s h =
    let f : ℕ → ℕ = λ k. tense (nth t k) in
    let g : ℕ → ℕ = λ k. tense (nth (placed t i s) k) in
    omega (
      arith,
      ap (upto g) (length-set t.segments i s),
      upto_one f g (length t.segments) i h (λ k kn ne. ap tense (nth_other t i k s ne)),
      ap tense (nth_same t i s h),
    )

module _ (t : Table) (half hi low total hint : ℕ) (v : Inv t half hi low total hint) where
  pub few : length t.segments ≤ half
  few = omega (arith, v.bound)

  pub need_is : need (lists t half) ≡ total
  need_is = need_lists t half ∙ sym v.sum

  pub extent_of : extent (lives t half) ≡ length t.segments
  extent_of = extent_lives t half v.tight

  -- whether there is room
  pub enough_yes : (ask : ℕ) → total + total / 4 + 8 * length t.segments + half / 8 + ask ≤ half → enough (half, lives t half) (lists t half) ask ≡ true
  unfolding enough
  enough_yes ask h = rw (need_is, extent_of) (le-leb _ _ h)

  pub enough_no : (ask : ℕ) → half < total + total / 4 + 8 * length t.segments + half / 8 + ask → enough (half, lives t half) (lists t half) ask ≡ false
  unfolding enough
  enough_no ask h = rw (need_is, extent_of) (lt-leb _ _ h)

  pub size_le : (i : ℕ) → length (nth t i).words ≤ total
  size_le i = let e : length (get_or (segs t) i []) ≡ length (nth t i).words = ap length (segs_at t i) in omega (arith, need_at (segs t) i, v.sum)

  -- the same segments in use, with the same words, that lie elsewhere
  pub elsewhere : (t' : Table) (hi' low' : ℕ) → Laid t' → t'.lent ≡ t.lent → segs t' ≡ segs t → marks t' ≡ marks t → Within t' 0 low' hi' →
      (hi' ≡ half) ⊎ (hi' ≡ half + half) → hi' + 8 * length t.segments ≤ low' + half → low' ≤ hi' → Inv t' half hi' low' total hint
  elsewhere t' hi' low' g l e m within side floor ceil =
      let c = same_count t' t e in
      let u = same_used t' t m in
      record {
        laid = g;
        within = within;
        side = side;
        floor = omega arith;
        ceil = ceil;
        long = omega (arith, v.long);
        small = v.small;
        sum = v.sum ∙ sym (ap need e);
        bound = omega (arith, v.bound);
        tight = tight_by t' t c u v.tight;
        known = omega (arith, v.known);
        below = λ k h. u k ∙ v.below k h;
        empty = λ k d. words_same t' t k e ∙ v.empty k (sym (u k) ∙ d);
      }

  -- list i is now x
  module _ (i total' : ℕ) (x : List ℕ) (live : (nth t i).used ≡ false → x ≡ []) where
    abbrev one : Segment
    one = record { start = (nth t i).start; room = (nth t i).room; words = x; used = (nth t i).used }

    past : length t.segments ≤ i → x ≡ []
    past h = live (ap (λ (s : Segment). s.used) (nth_past t i h))

    now : (nth (written t i x) i).words ≡ x
    now = ⊎_elim
        (λ (h : i < length t.segments). ap (λ (s : Segment). s.words) (nth_same t i one h))
        (λ (h : length t.segments ≤ i). ap (λ (s : Segment). s.words) (nth_past (written t i x) i (omega (arith, length-set t.segments i one))) ∙ sym (past h))
        (cases_lt i (length t.segments))

    kept : (k : ℕ) → ((nth (written t i x) k).start ≡ (nth t k).start) × ((nth (written t i x) k).room ≡ (nth t k).room) × ((nth (written t i x) k).used ≡ (nth t k).used)
    kept k = ⊎_elim
        (λ (q : k ≡ i). ⊎_elim
        (λ (h : i < length t.segments). let e = nth_same t i one h in
        rw q (ap (λ (s : Segment). s.start) e, ap (λ (s : Segment). s.room) e, ap (λ (s : Segment). s.used) e))
        (λ (h : length t.segments ≤ i). let e = nth_past (written t i x) i (omega (arith, length-set t.segments i one)) ∙ sym (nth_past t i h) in
        rw q (ap (λ (s : Segment). s.start) e, ap (λ (s : Segment). s.room) e, ap (λ (s : Segment). s.used) e))
        (cases_lt i (length t.segments)))
        (λ (q : k ≢ i). let e = nth_other t i k one q in
        (ap (λ (s : Segment). s.start) e, ap (λ (s : Segment). s.room) e, ap (λ (s : Segment). s.used) e))
        (cases_eq k i)

    changed_total : total' + length (nth t i).words ≡ total + length x → total' ≡ need (segs (written t i x))
    changed_total e = rw segs_placed (⊎_elim
        (λ (h : i < length t.segments). omega (arith, v.sum, need_set (segs t) i x (omega (arith, length_segs t)), ap (length {A = ℕ}) (segs_at t i)))
        (λ (h : length t.segments ≤ i). omega (arith, v.sum, ap need (set_past (segs t) i x (omega (arith, length_segs t))), ap (length {A = ℕ}) (past h), ap (λ (s : Segment). length s.words) (nth_past t i h)))
        (cases_lt i (length t.segments)))

    pub changed_inv : total' + length (nth t i).words ≡ total + length x → total' + total' / 4 + 8 * length t.segments + half / 8 ≤ half → Laid (written t i x) → Inv (written t i x) half hi low total' hint
    changed_inv e b g =
        let c = length-set t.segments i one in
        record {
          laid = g;
          within = λ k z kn. rw ((kept k).0, (kept k).1) (v.within k z (omega arith));
          side = v.side;
          floor = omega (arith, v.floor);
          ceil = v.ceil;
          long = v.long;
          small = v.small;
          sum = changed_total e;
          bound = omega arith;
          tight = tight_by (written t i x) t c (λ k. (kept k).2) v.tight;
          known = omega (arith, v.known);
          below = λ k h. (kept k).2 ∙ v.below k h;
          empty = λ k d. ⊎_elim
              (λ (q : k ≡ i). rw q (now ∙ live (sym (kept i).2 ∙ rw q at d)))
              (λ (q : k ≢ i). ap (λ (s : Segment). s.words) (nth_other t i k one q) ∙ v.empty k (sym (kept k).2 ∙ d))
              (cases_eq k i);
        }

    pub changed_model : lists (written t i x) half ≡ set (lists t half) i x
    changed_model = lists_set t (written t i x) half i x few (omega (arith, few, length-set t.segments i one)) (λ h. past (omega (arith, few))) now
        (λ k q. ap (λ (s : Segment). s.words) (nth_other t i k one q))

    pub changed_bounds : ◌≡◌ {A = ℕ × List Bool} (half, lives (written t i x) half) (half, lives t half)
    changed_bounds = ap (λ (y : List Bool). (half, y)) (lives_by t (written t i x) half few (omega (arith, few, length-set t.segments i one)) (λ k. (kept k).2))

    pub shrunk_strain : length x ≤ length (nth t i).words → strain (written t i x) ≤ strain t
    shrunk_strain le = ⊎_elim
        (λ (h : i < length t.segments). omega (arith, strain_placed t i one h))
        (λ (h : length t.segments ≤ i). omega (
          arith,
          ap (λ (y : List Segment). strain (record { lent = t.lent; segments = y }))
              (set_past t.segments i one h),
        ))
        (cases_lt i (length t.segments))

  pub spread_few : spread (segs t) ≤ total + total / 4
  spread_few = rw v.sum (spread_le (segs t))

  -- all lists lie in the other half
  pub tidied : (t' : Table) (hi' low' : ℕ) → Laid t' → t'.lent ≡ t.lent → segs t' ≡ segs t → marks t' ≡ marks t → Within t' 0 low' hi' →
      low' + spread (segs t) ≡ hi' → (hi' ≡ half) ⊎ (hi' ≡ half + half) → Inv t' half hi' low' total hint
  tidied t' hi' low' g l e m within end side = elsewhere t' hi' low' g l e m within side (omega (arith, spread_few, v.bound)) (omega arith)

  -- the target of a move to the other half
  pub other_side : ((3 * half - hi) ≡ half) ⊎ ((3 * half - hi) ≡ half + half)
  other_side = ⊎_elim (λ (q : hi ≡ half). inr (omega arith)) (λ (q : hi ≡ half + half). inl (omega arith)) v.side

  pub other_apart : (hi + spread (segs t) ≤ 3 * half - hi) ⊎ (3 * half - hi ≤ low)
  other_apart = ⊎_elim
      (λ (q : hi ≡ half). inl (omega (arith, spread_few, v.bound)))
      (λ (q : hi ≡ half + half). inr (omega (arith, v.floor)))
      v.side

  -- list i lies before all others, with room r
  pub widened : (i to r : ℕ) → i < length t.segments → to + r ≡ low → hi + 8 * length t.segments ≤ to + half → Laid (moved t i to r) → Inv (moved t i to r) half hi to total hint
  widened i to r h e f g =
      elsewhere (moved t i to r) hi to g refl (segs_kept t i _ refl) (marks_kept t i _ refl)
      (λ k z kn. ⊎_elim
      (λ (q : k ≡ i). rw (q, nth_same t i _ h) (omega arith, omega (arith, v.ceil)))
      (λ (q : k ≢ i). let y = v.within k z (rw length-set at kn) in rw (nth_other t i k _ q) (omega (arith, y.0), y.1))
      (cases_eq k i))
      v.side f (omega (arith, v.ceil))

-- segments that have just been moved have their quarter
pub rested : (t t' : Table) → segs t' ≡ segs t → ((k : ℕ) → k < length t.segments → (nth t' k).room ≡ length (nth t k).words + length (nth t k).words / 4) → strain t' ≡ 0
rested t t' e f = upto_none (λ k. tense (nth t' k)) (length t'.segments)
    (λ k kn. omega (arith, f k (omega (arith, same_count t' t e)), ap (length {A = ℕ}) (words_same t' t k e)))

-- What a move costs, in numbers: h is the half, n the table's entries, and the lists lie from low up to hi.
pub ask_cost : (moved h f ask : ℕ) → moved + 8 * (h / 8 - (f - ask)) ≤ moved + 8 * (h / 8 - (f - 0)) + 8 * ask
ask_cost moved h f ask = omega arith

free_small : (low h hi n ask : ℕ) → hi + 8 * n ≤ low + h → low + h < hi + 8 * n + ask → ((low + h) - (hi + 8 * n)) - 0 < ask
free_small low h hi n ask l t = omega arith

full_cost : (h f ask total : ℕ) → total ≤ h → f < ask → total ≤ 8 * (h / 8 - f) + 8 * ask
full_cost h f ask total p q = omega arith

sum_cost : (moved moved' total a b : ℕ) → moved' ≤ moved + total → total ≤ a + b → moved' + 8 * 0 ≤ moved + a + b
sum_cost moved moved' total a b p q = omega arith

less_cost : (moved moved' h f f' len : ℕ) → moved' ≤ moved + len → f ≤ f' → moved' + 8 * (h - f') ≤ moved + 8 * (h - f) + len
less_cost moved moved' h f f' len p q = omega arith

-- before a move the words asked for are not free, and after it an eighth more is
pub used_up : (low h hi n ask : ℕ) → hi + 8 * n ≤ low + h → low + h < hi + 8 * n + ask → (low + h) - (hi + 8 * n) < ask
used_up low h hi n ask l t = omega arith

pub free_large : (h h' n n' hi' low' total sp ask : ℕ) → h' ≡ h → n' ≡ n → low' + sp ≡ hi' → sp ≤ total + total / 4 →
    total + total / 4 + 8 * n + h / 8 + ask ≤ h → h / 8 + ask ≤ (low' + h') - (hi' + 8 * n')
free_large h h' n n' hi' low' total sp ask p q e f b = omega arith

pub tidy_cost : (moved moved' h h' n n' hi low hi' low' total sp ask : ℕ) → h' ≡ h → n' ≡ n → low' + sp ≡ hi' → sp ≤ total + total / 4 →
    total + total / 4 + 8 * n + h / 8 + ask ≤ h → hi + 8 * n ≤ low + h → low + h < hi + 8 * n + ask → moved' ≤ moved + total →
    moved' + 8 * (h' / 8 - (((low' + h') - (hi' + 8 * n')) - ask)) ≤ moved + 8 * (h / 8 - (((low + h) - (hi + 8 * n)) - 0)) + 8 * ask
tidy_cost moved moved' h h' n n' hi low hi' low' total sp ask p q e f b l t m =
    let z : h' / 8 - (((low' + h') - (hi' + 8 * n')) - ask) ≡ 0 = omega arith in
    let y : ((low + h) - (hi + 8 * n)) - 0 < ask = free_small low h hi n ask l t in
    let x : total ≤ 8 * (h / 8 - (((low + h) - (hi + 8 * n)) - 0)) + 8 * ask = full_cost h (((low + h) - (hi + 8 * n)) - 0) ask total (omega arith) y in
    rw z (sum_cost moved moved' total (8 * (h / 8 - (((low + h) - (hi + 8 * n)) - 0))) (8 * ask) m x)

pub widen_cost : (moved moved' h n hi low r len : ℕ) → hi + 8 * n + r ≤ low + h → moved' ≤ moved + len →
    moved' + 8 * (h / 8 - ((((low - r) + h) - (hi + 8 * n)) - 0)) ≤ moved + 8 * (h / 8 - (((low + h) - (hi + 8 * n)) - r)) + len
widen_cost moved moved' h n hi low r len f m =
    let z : ((low + h) - (hi + 8 * n)) - r ≤ (((low - r) + h) - (hi + 8 * n)) - 0 = omega arith in
    less_cost moved moved' (h / 8) (((low + h) - (hi + 8 * n)) - r) ((((low - r) + h) - (hi + 8 * n)) - 0) len m z

-- room for more words is paid for: te and te₁ are what was paid in for the list before and after all were moved, ro its room, r its new room
pub room_cost : (p p₁ p₂ st st₁ st₂ te te₁ len more ro r : ℕ) → len ≤ ro → ro < len + more → r ≡ len + more + (len + more) / 2 + 8 → te ≡ 5 * len - (4 * ro + 3) →
    p₁ ≤ p + 8 * r → p₂ ≤ p₁ + len → st₁ + te ≤ st + te₁ → st₂ + te₁ ≡ st₁ + (5 * len - (4 * r + 3)) → p₂ + 13 * st₂ ≤ p + 13 * st + 128 * more
room_cost p p₁ p₂ st st₁ st₂ te te₁ len more ro r a b e t c d f g =
    let z : 5 * len - (4 * r + 3) ≡ 0 = omega arith in
    let y : st₂ + te ≤ st = omega arith in
    let x : 8 * r + len ≤ 13 * te + 128 * more = omega arith in
    omega arith

pub late_tense : (len more r : ℕ) → r ≡ len + more + (len + more) / 2 + 8 → (5 * (len + more) - (4 * r + 3) ≡ 0) × (5 * len - (4 * r + 3) ≡ 0)
late_tense len more r e = (omega arith, omega arith)

pub stay_cost : (p st te len more ro x : ℕ) → te ≡ 5 * len - (4 * ro + 3) → x + te ≡ st + (5 * (len + more) - (4 * ro + 3)) → p + 13 * x ≤ p + 13 * st + 128 * more
stay_cost p st te len more ro x t e = omega arith

pub shifted_trans : (s s₁ s₂ : Layout) → Shifted s s₁ → Shifted s₁ s₂ → Shifted s s₂
shifted_trans s s₁ s₂ a b =
    record { half = b.half ∙ a.half; total = b.total ∙ a.total; same = b.same ∙ a.same; used = b.used ∙ a.used }

pub live_back : (t : Table) (half i : ℕ) → get_or (lives t half) i false ≡ true → (i < length t.segments) × ((nth t i).used ≡ true)
live_back t half i e = let u = sym (lives_at t half i) ∙ e in (there t i u, u)

pub sum_fits : (len more half : ℕ) → len ≤ half → more ≤ half → half < 2 ^ 60 →
    Fits w64 (len + more) × Fits w64 (len + more + (len + more) / 2) × Fits w64 (len + more + (len + more) / 2 + 8)
sum_fits len more half a b c = (omega arith, omega arith, omega arith)

pub dead_empty : (t : Table) (half hi low total hint : ℕ) → Inv t half hi low total hint → (i : ℕ) → get_or (lives t half) i false ≡ false → get_or (lists t half) i [] ≡ []
dead_empty t half hi low total hint v i e = lists_at t half i ∙ v.empty i (sym (lives_at t half i) ∙ e)

-- a list that does not change
pub set_same : {X : Type 0} (xs : List X) (i : ℕ) (x d : X) → get_or xs i d ≡ x → xs ≡ set xs i x
set_same xs i x d e = sym (ap (set xs i) (sym e) ∙ set-get_or xs i d)
