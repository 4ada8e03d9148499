-- Opening the first lists of a store.
use Rattle.std.proofs.Common.{◌≡◌, ℕ, zero, suc, ◌+◌, ◌-◌, ◌/◌, ◌<◌, ◌≤◌, Bool, true, false, List, [], ◌∷◌, ◌++◌, length, get_or, set, replicate, Ok, Err, sym, refl, ap, ◌∙◌, arith}
use Rattle.store.specs.declared.Refusal.{Refusal}
use Rattle.std.specs.List.{prefix_len}
use Rattle.std.proofs.lemmas.List.Sums.{sum_by-cons}
use Rattle.segments.specs.Layout.{need}
use Rattle.store.specs.Sums.{extent, asked, enough, told}
use Rattle.store.proofs.Bounds.{no_room, no_number}
use Rattle.words.proofs.Pushes.{refused}
use Rattle.scheduler.specs.Lists.{opened, Opened}

pub leading_opened : (k r : ℕ) → prefix_len (λ (b : Bool). b) (replicate k true ++ replicate r false) ≡ k
leading_opened zero zero = refl
leading_opened zero (suc r) = refl
leading_opened (suc k) r = omega (arith, leading_opened k r)

set_behind : (k r : ℕ) → set (replicate k true ++ replicate (suc r) false) k true ≡ replicate (suc k) true ++ replicate r false
set_behind zero r = refl
set_behind (suc k) r = ap (λ bs. true ∷ bs) (set_behind k r)

pub set_opened : (k n : ℕ) → k < n → set (opened k n) k true ≡ opened (suc k) n
set_opened k n h = let e : n - k ≡ suc (n - suc k) = omega arith in rw e (set_behind k (n - suc k))

-- the next list is the first that is not open
pub opened_more : (bs : List Bool) (j h : ℕ) → bs ≡ opened j h → j < h → set bs (prefix_len (λ (b : Bool). b) bs) true ≡ opened (j + 1) h
opened_more bs j h e l =
    let z : j + 1 ≡ suc j = omega arith in
    rw (e, leading_opened j (h - j), z) (set_opened j h l)

extent_none : (n : ℕ) → extent (replicate n false) ≡ 0
unfolding extent
extent_none zero = refl
extent_none (suc n) = rw (extent_none n)

pub extent_opened : (j n : ℕ) → extent (opened j n) ≡ j
unfolding extent
extent_opened j n = by j (n - j)
  where
    by : (j r : ℕ) → extent (replicate j true ++ replicate r false) ≡ j
    by zero r = extent_none r
    by (suc j) r = omega (arith, by j r)

need_nothing : (n : ℕ) → need (replicate n []) ≡ 0
unfolding need
need_nothing zero = refl
need_nothing (suc n) = sum_by-cons length [] (replicate n []) ∙ omega (arith, need_nothing n)

-- where no list can be opened, or the queue gets no word, few words are lent
pub few_lists : (all n : ℕ) (m : List (List ℕ)) (b : ℕ × List Bool) (w : Refusal) → n ≤ 5 → m ≡ replicate (all / 2) [] → Opened n (all / 2) m b (Err w) → all < 65376
few_lists all n m b w h e o =
    let z = o.err in
    omega (arith, no_number all b m o.half z.3, ap extent z.2, extent_opened z.0 (all / 2), ap need e, need_nothing (all / 2), z.1)

pub few_words : (all : ℕ) (m : List (List ℕ)) (b : ℕ × List Bool) (u : Unit {0}) (w : Refusal) → 5 ≤ all / 2 → m ≡ replicate (all / 2) [] → Opened 5 (all / 2) m b (Ok u) → Err w ≡ told (get_or b.1 0 false) (enough b m (asked (length (get_or m 0 []) + 1))) → all < 65376
few_words all m b u w h e o r =
    let z = o.ok in
    let n : length (get_or m 0 []) ≡ 0 = ap (λ m. length (get_or m 0 [])) e ∙ none (all / 2) in
    omega (arith, no_room all b m (length (get_or m 0 []) + 1) o.half (refused _ _ w (sym r) (ap (λ l. get_or l 0 false) z)), ap extent z, extent_opened 5 (all / 2), ap need e, need_nothing (all / 2))
  where
    none : (n : ℕ) → length (get_or (replicate {A = List ℕ} n []) 0 []) ≡ 0
    none zero = refl
    none (suc n) = refl

-- the first word of the queue
pub queue_begins : (n v : ℕ) (m m' m'' : List (List ℕ)) → m ≡ replicate n [] → m' ≡ m → m'' ≡ set m' 0 (get_or m' 0 [] ++ (v ∷ [])) → m'' ≡ set (replicate n []) 0 (v ∷ [])
queue_begins n v m m' m'' e f g = g ∙ ap (λ m. set m 0 (get_or m 0 [] ++ (v ∷ []))) (f ∙ e) ∙ ap (λ q. set (replicate n []) 0 (q ++ (v ∷ []))) (none n)
  where
    none : (n : ℕ) → get_or (replicate {A = List ℕ} n []) 0 [] ≡ []
    none zero = refl
    none (suc n) = refl

pub both : (b : ℕ × List Bool) (x : ℕ) (y : List Bool) → b.0 ≡ x → b.1 ≡ y → b ≡ (x, y)
both (u, v) x y e f = cc
