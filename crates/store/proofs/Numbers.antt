-- Numbers that come into use and go out of it, and lists that change places.
use Rattle.std.proofs.Common.{◌≡◌, ℕ, zero, suc, ◌+◌, ◌-◌, ◌*◌, ◌/◌, ◌<◌, ◌≤◌, min, Bool, true, false, ◌≢◌, List, [], ◌∷◌, length, get_or, set, sym, refl, ap, ◌∙◌, inr, ⊎_elim, arith}
use Rattle.std.specs.List.{prefix_len}
use Rattle.std.proofs.lemmas.List.{length-set, length-append, get_or_append_left, get_or-append_right, get_or-set_other}
use Rattle.std.proofs.lemmas.Bool.{cases_eq, cases_lt, false≢true}
use Rattle.segments.specs.Layout.{need}
use Rattle.segments.specs.Table.{Segment, Table, none, nth, segs, placed, marked, as_used, exchanged, opened, Retired, tense, upto, strain, Laid}
use Rattle.store.specs.Layout.{lists, lives, Inv}
use Rattle.segments.proofs.Placed.{nth_same, nth_other, nth_past, segs_at, segs_placed, length_segs}
use Rattle.segments.proofs.Moves.{need_set}
use Rattle.segments.proofs.Upto.{upto_same, upto_more, upto_fewer, upto_two}
use Rattle.store.proofs.Totals.{lists_at, lives_at, lists_by, lives_by, lists_set, lives_set, need_lists, there}
use Rattle.store.proofs.StoreLaws.{few, tight_by, strain_placed}

module _ (t : Table) (half hi low total hint : ℕ) (v : Inv t half hi low total hint) where
  -- all numbers are known to be in use
  pub hinted_inv : ((k : ℕ) → k < length t.segments → (nth t k).used ≡ true) → Inv t half hi low total (length t.segments)
  hinted_inv all =
      record {
        laid = v.laid;
        within = v.within;
        side = v.side;
        floor = v.floor;
        ceil = v.ceil;
        long = v.long;
        small = v.small;
        sum = v.sum;
        bound = v.bound;
        tight = v.tight;
        known = omega arith;
        below = all;
        empty = v.empty;
      }

  -- the same words in all lists
  sum_by_lists : (t' : Table) → lists t' half ≡ lists t half → total ≡ need (segs t')
  sum_by_lists t' e = v.sum ∙ sym (need_lists t half) ∙ sym (ap need e) ∙ need_lists t' half

  -- the table has one entry more
  module _ (space : hi + 8 * length t.segments + 8 ≤ low + half) (fit : total + total / 4 + 8 * length t.segments + half / 8 + 8 ≤ half) where
    abbrev new : Segment
    new = record { start = low; room = 0; words = []; used = true }

    opened_count : length (opened t low).segments ≡ length t.segments + 1
    opened_count = length-append t.segments (new ∷ []) ∙ omega arith

    opened_new : nth (opened t low) (length t.segments) ≡ new
    opened_new = get_or-append_right t.segments (new ∷ []) (length t.segments) (length t.segments) none refl (omega arith) ∙
        (let z : length t.segments - length t.segments ≡ 0 = omega arith in rw z)

    opened_at : (k : ℕ) → k ≢ length t.segments → nth (opened t low) k ≡ nth t k
    opened_at k ne = ⊎_elim
        (λ (h : k < length t.segments). get_or_append_left t.segments (new ∷ []) none k h)
        (λ (h : length t.segments ≤ k). nth_past (opened t low) k (omega (arith, opened_count)) ∙ sym (nth_past t k h))
        (cases_lt k (length t.segments))

    opened_words : (k : ℕ) → (nth (opened t low) k).words ≡ (nth t k).words
    opened_words k = ⊎_elim
        (λ (q : k ≡ length t.segments). rw q (ap (λ (s : Segment). s.words) opened_new ∙ sym (ap (λ (s : Segment). s.words) (nth_past t (length t.segments) (omega arith)))))
        (λ (q : k ≢ length t.segments). ap (λ (s : Segment). s.words) (opened_at k q))
        (cases_eq k (length t.segments))

    pub opened_lists : lists (opened t low) half ≡ lists t half
    opened_lists = lists_by t (opened t low) half (few _ _ _ _ _ _ v) (omega (arith, opened_count)) opened_words

    pub opened_lives : lives (opened t low) half ≡ set (lives t half) (length t.segments) true
    opened_lives = lives_set t (opened t low) half (length t.segments) true (few _ _ _ _ _ _ v) (omega (arith, opened_count))
        (ap (λ (s : Segment). s.used) opened_new) (λ k q. ap (λ (s : Segment). s.used) (opened_at k q))

    pub opened_inv : Laid (opened t low) → Inv (opened t low) half hi low total hint
    opened_inv g =
        record {
          laid = g;
          within = λ k z kn. ⊎_elim
              (λ (q : k ≡ length t.segments). rw (q, opened_new) (omega arith, omega (arith, v.ceil)))
              (λ (q : k ≢ length t.segments). rw (opened_at k q) (v.within k z (omega (arith, opened_count))))
              (cases_eq k (length t.segments));
          side = v.side;
          floor = omega (arith, opened_count);
          ceil = v.ceil;
          long = v.long;
          small = v.small;
          sum = sum_by_lists (opened t low) opened_lists;
          bound = omega (arith, opened_count);
          tight = inr (let z : length (opened t low).segments - 1 ≡ length t.segments = omega (arith, opened_count) in rw z (ap (λ (s : Segment). s.used) opened_new));
          known = omega (arith, v.known, opened_count);
          below = λ k kh. ap (λ (s : Segment). s.used) (opened_at k (omega (arith, v.known))) ∙ v.below k kh;
          empty = λ k d. opened_words k ∙ ⊎_elim
              (λ (q : k ≡ length t.segments). absurd (false≢true (sym (rw q at d) ∙ ap (λ (s : Segment). s.used) opened_new)))
              (λ (q : k ≢ length t.segments). v.empty k (sym (ap (λ (s : Segment). s.used) (opened_at k q)) ∙ d))
              (cases_eq k (length t.segments));
        }

    pub opened_strain : strain (opened t low) ≡ strain t
    opened_strain =
        let f : ℕ → ℕ = λ k. tense (nth t k) in
        let g : ℕ → ℕ = λ k. tense (nth (opened t low) k) in
        omega (
          arith,
          ap (upto g) opened_count,
          upto_more g (length t.segments),
          upto_same f g (length t.segments) (λ k kn. ap tense (opened_at k (omega arith))),
          ap tense opened_new,
        )

    pub opened_length : length (opened t low).segments ≡ length t.segments + 1
    opened_length = opened_count

  -- a number comes into use
  module _ (i : ℕ) (h : i < length t.segments) (before : (k : ℕ) → k < i → (nth t k).used ≡ true) where
    abbrev live : Segment
    live = record { start = (nth t i).start; room = (nth t i).room; words = (nth t i).words; used = true }

    engaged_count : length (marked t i true).segments ≡ length t.segments
    engaged_count = length-set t.segments i live

    engaged_here : nth (marked t i true) i ≡ live
    engaged_here = nth_same t i live h

    engaged_at : (k : ℕ) → k ≢ i → nth (marked t i true) k ≡ nth t k
    engaged_at k q = nth_other t i k live q

    -- where it lies, and its words
    engaged_same : (k : ℕ) → ((nth (marked t i true) k).start ≡ (nth t k).start) × ((nth (marked t i true) k).room ≡ (nth t k).room) × ((nth (marked t i true) k).words ≡ (nth t k).words)
    engaged_same k = ⊎_elim
        (λ (q : k ≡ i). rw q (ap (λ (s : Segment). s.start) engaged_here, ap (λ (s : Segment). s.room) engaged_here, ap (λ (s : Segment). s.words) engaged_here))
        (λ (q : k ≢ i). let e = engaged_at k q in (ap (λ (s : Segment). s.start) e, ap (λ (s : Segment). s.room) e, ap (λ (s : Segment). s.words) e))
        (cases_eq k i)

    pub engaged_lists : lists (marked t i true) half ≡ lists t half
    engaged_lists = lists_by t (marked t i true) half (few _ _ _ _ _ _ v) (omega (arith, engaged_count, few _ _ _ _ _ _ v)) (λ k. (engaged_same k).2)

    pub engaged_lives : lives (marked t i true) half ≡ set (lives t half) i true
    engaged_lives = lives_set t (marked t i true) half i true (few _ _ _ _ _ _ v) (omega (arith, engaged_count, few _ _ _ _ _ _ v))
        (ap (λ (s : Segment). s.used) engaged_here) (λ k q. ap (λ (s : Segment). s.used) (engaged_at k q))

    used' : (k : ℕ) → (nth t k).used ≡ true → (nth (marked t i true) k).used ≡ true
    used' k u = ⊎_elim
        (λ (q : k ≡ i). rw q (ap (λ (s : Segment). s.used) engaged_here))
        (λ (q : k ≢ i). ap (λ (s : Segment). s.used) (engaged_at k q) ∙ u)
        (cases_eq k i)

    pub engaged_inv : Laid (marked t i true) → Inv (marked t i true) half hi low total (i + 1)
    engaged_inv g =
        record {
          laid = g;
          within = λ k z kn. rw ((engaged_same k).0, (engaged_same k).1) (v.within k z (rw engaged_count at kn));
          side = v.side;
          floor = omega (arith, v.floor, engaged_count);
          ceil = v.ceil;
          long = v.long;
          small = v.small;
          sum = sum_by_lists (marked t i true) engaged_lists;
          bound = omega (arith, v.bound, engaged_count);
          tight = ⊎_elim (λ (z : length t.segments ≡ 0). absurd (omega arith))
              (λ (z : (nth t (length t.segments - 1)).used ≡ true). inr (rw engaged_count (used' (length t.segments - 1) z))) v.tight;
          known = omega (arith, engaged_count);
          below = λ k kh. ⊎_elim
              (λ (q : k ≡ i). rw q (ap (λ (s : Segment). s.used) engaged_here))
              (λ (q : k ≢ i). used' k (before k (omega arith)))
              (cases_eq k i);
          empty = λ k d. (engaged_same k).2 ∙ ⊎_elim
              (λ (q : k ≡ i). absurd (false≢true (sym (rw q at d) ∙ ap (λ (s : Segment). s.used) engaged_here)))
              (λ (q : k ≢ i). v.empty k (sym (ap (λ (s : Segment). s.used) (engaged_at k q)) ∙ d))
              (cases_eq k i);
        }

    pub engaged_strain : strain (marked t i true) ≡ strain t
    engaged_strain = omega (arith, strain_placed t i live h)

    pub engaged_length : length (marked t i true).segments ≡ length t.segments
    engaged_length = engaged_count

  -- a number goes out of use, and the table ends behind the last that is in use
  module _ (t' : Table) (i : ℕ) (r : Retired t t' i) (h : i < length t.segments) (bare : (nth t i).words ≡ []) where
    abbrev gone : Table
    gone = marked t i false

    abbrev out : Segment
    out = record { start = (nth t i).start; room = (nth t i).room; words = (nth t i).words; used = false }

    gone_here : nth gone i ≡ out
    gone_here = nth_same t i out h

    gone_at : (k : ℕ) → k ≢ i → nth gone k ≡ nth t k
    gone_at k q = nth_other t i k out q

    gone_same : (k : ℕ) → ((nth gone k).start ≡ (nth t k).start) × ((nth gone k).room ≡ (nth t k).room) × ((nth gone k).words ≡ (nth t k).words)
    gone_same k = ⊎_elim
        (λ (q : k ≡ i). rw q (ap (λ (s : Segment). s.start) gone_here, ap (λ (s : Segment). s.room) gone_here, ap (λ (s : Segment). s.words) gone_here))
        (λ (q : k ≢ i). let e = gone_at k q in (ap (λ (s : Segment). s.start) e, ap (λ (s : Segment). s.room) e, ap (λ (s : Segment). s.words) e))
        (cases_eq k i)

    -- what is not in use now is empty
    gone_empty : (k : ℕ) → (nth gone k).used ≡ false → (nth t k).words ≡ []
    gone_empty k d = ⊎_elim
        (λ (q : k ≡ i). rw q bare)
        (λ (q : k ≢ i). v.empty k (sym (ap (λ (s : Segment). s.used) (gone_at k q)) ∙ d))
        (cases_eq k i)

    retired_words : (k : ℕ) → (nth t' k).words ≡ (nth t k).words
    retired_words k = ⊎_elim
        (λ (q : k < length t'.segments). ap (λ (s : Segment). s.words) (r.before k q) ∙ (gone_same k).2)
        (λ (q : length t'.segments ≤ k). ap (λ (s : Segment). s.words) (nth_past t' k q) ∙ sym (gone_empty k (r.behind k q)))
        (cases_lt k (length t'.segments))

    retired_used : (k : ℕ) → (nth t' k).used ≡ (nth gone k).used
    retired_used k = ⊎_elim
        (λ (q : k < length t'.segments). ap (λ (s : Segment). s.used) (r.before k q))
        (λ (q : length t'.segments ≤ k). ap (λ (s : Segment). s.used) (nth_past t' k q) ∙ sym (r.behind k q))
        (cases_lt k (length t'.segments))

    fewer : length t'.segments ≤ half
    fewer = omega (arith, r.within, few _ _ _ _ _ _ v)

    pub retired_lists : lists t' half ≡ lists t half
    retired_lists = lists_by t t' half (few _ _ _ _ _ _ v) fewer retired_words

    pub retired_lives : lives t' half ≡ set (lives t half) i false
    retired_lives = lives_set t t' half i false (few _ _ _ _ _ _ v) fewer
        (retired_used i ∙ ap (λ (s : Segment). s.used) gone_here) (λ k q. retired_used k ∙ ap (λ (s : Segment). s.used) (gone_at k q))

    below' : (k : ℕ) → k < min hint i → (nth t' k).used ≡ true
    below' k kh = retired_used k ∙ ap (λ (s : Segment). s.used) (gone_at k (omega arith)) ∙ v.below k (omega arith)

    known' : min hint i ≤ length t'.segments
    known' = ⊎_elim
        (λ (q : length t'.segments < min hint i). absurd (omega (arith, there t' (length t'.segments) (below' (length t'.segments) q))))
        (λ (q : min hint i ≤ length t'.segments). q)
        (cases_lt (length t'.segments) (min hint i))

    pub retired_inv : Laid t' → Inv t' half hi low total (min hint i)
    retired_inv g =
        record {
          laid = g;
          within = λ k z kn. rw (r.before k kn, (gone_same k).0, (gone_same k).1) (v.within k z (omega (arith, r.within)));
          side = v.side;
          floor = omega (arith, v.floor, r.within);
          ceil = v.ceil;
          long = omega (arith, v.long, r.lent);
          small = v.small;
          sum = sum_by_lists t' retired_lists;
          bound = omega (arith, v.bound, r.within);
          tight = r.last;
          known = known';
          below = below';
          empty = λ k d. retired_words k ∙ gone_empty k (sym (retired_used k) ∙ d);
        }

    pub retired_strain : strain t' ≤ strain t
    retired_strain =
        let f : ℕ → ℕ = λ k. tense (nth gone k) in
        let g : ℕ → ℕ = λ k. tense (nth t' k) in
        omega (
          arith,
          upto_same f g (length t'.segments) (λ k kn. ap tense (r.before k kn)),
          upto_fewer f (length t'.segments) (length t.segments) r.within,
          ap (upto f) (length-set t.segments i out),
          strain_placed t i out h,
        )

  -- lists i and j change places
  module _ (i j : ℕ) (ne : i ≢ j) (a : (nth t i).used ≡ true) (b : (nth t j).used ≡ true) where
    abbrev left : Segment
    left = as_used t j i

    abbrev right : Segment
    right = as_used t i j

    exchanged_count : length (exchanged t i j).segments ≡ length t.segments
    exchanged_count = length-set (placed t i left).segments j right ∙ length-set t.segments i left

    here_left : nth (exchanged t i j) i ≡ left
    here_left = nth_other (placed t i left) j i right ne ∙ nth_same t i left (there t i a)

    here_right : nth (exchanged t i j) j ≡ right
    here_right = nth_same (placed t i left) j right (omega (arith, there t j b, length-set t.segments i left))

    elsewhere : (k : ℕ) → k ≢ i → k ≢ j → nth (exchanged t i j) k ≡ nth t k
    elsewhere k p q = nth_other (placed t i left) j k right q ∙ nth_other t i k left p

    -- a segment is one that was there
    from : (k : ℕ) (P : Segment → Type 0) → (k ≡ i → P left) → (k ≡ j → P right) → (k ≢ i → k ≢ j → P (nth t k)) → P (nth (exchanged t i j) k)
    from k P f g e = ⊎_elim
        (λ (p : k ≡ i). rw (p, here_left) (f p))
        (λ (p : k ≢ i). ⊎_elim
        (λ (q : k ≡ j). rw (q, here_right) (g q))
        (λ (q : k ≢ j). rw (elsewhere k p q) (e p q))
        (cases_eq k j))
        (cases_eq k i)

    exchanged_used : (k : ℕ) → (nth (exchanged t i j) k).used ≡ (nth t k).used
    exchanged_used k = from k (λ s. s.used ≡ (nth t k).used) (λ p. rw p) (λ q. rw q) (λ p q. refl)

    pub exchanged_lists : lists (exchanged t i j) half ≡ set (set (lists t half) i (get_or (lists t half) j [])) j (get_or (lists t half) i [])
    exchanged_lists = rw (lists_at t half i, lists_at t half j)
        (lists_set (placed t i left) (exchanged t i j) half j (nth t i).words (omega (arith, few _ _ _ _ _ _ v, length-set t.segments i left)) (omega (arith, few _ _ _ _ _ _ v, exchanged_count))
        (λ h. absurd (omega (arith, few _ _ _ _ _ _ v, there t j b))) (ap (λ (s : Segment). s.words) here_right)
        (λ k q. ap (λ (s : Segment). s.words) (nth_other (placed t i left) j k right q)) ∙
        ap (λ (y : List (List ℕ)). set y j (nth t i).words)
        (lists_set t (placed t i left) half i (nth t j).words (few _ _ _ _ _ _ v) (omega (arith, few _ _ _ _ _ _ v, length-set t.segments i left))
        (λ h. absurd (omega (arith, few _ _ _ _ _ _ v, there t i a))) (ap (λ (s : Segment). s.words) (nth_same t i left (there t i a)))
        (λ k q. ap (λ (s : Segment). s.words) (nth_other t i k left q))))

    pub exchanged_lives : lives (exchanged t i j) half ≡ lives t half
    exchanged_lives = lives_by t (exchanged t i j) half (few _ _ _ _ _ _ v) (omega (arith, few _ _ _ _ _ _ v, exchanged_count)) exchanged_used

    -- as many words in all
    exchanged_need : need (segs (exchanged t i j)) ≡ need (segs t)
    exchanged_need =
        let S = segs t in
        let x = (nth t j).words in
        let y = (nth t i).words in
        let l = length_segs t in
        omega (
          arith,
          ap need (segs_placed (placed t i left) j right ∙ ap (λ (z : List (List ℕ)). set z j y) (segs_placed t i left)),
          need_set (set S i x) j y (omega (arith, l, length-set S i x, there t j b)),
          need_set S i x (omega (arith, l, there t i a)),
          ap (length {A = ℕ}) (get_or-set_other S i j x [] (λ z. ne (sym z))),
          ap (length {A = ℕ}) (segs_at t i),
          ap (length {A = ℕ}) (segs_at t j),
        )

    pub exchanged_inv : Laid (exchanged t i j) → Inv (exchanged t i j) half hi low total hint
    exchanged_inv g =
        record {
          laid = g;
          within = λ k z kn. from k (λ s. (low ≤ s.start) × (s.start + s.room ≤ hi)) (λ p. v.within j (omega arith) (there t j b)) (λ q. v.within i (omega arith) (there t i a))
              (λ p q. v.within k z (rw exchanged_count at kn));
          side = v.side;
          floor = omega (arith, v.floor, exchanged_count);
          ceil = v.ceil;
          long = v.long;
          small = v.small;
          sum = v.sum ∙ sym exchanged_need;
          bound = omega (arith, v.bound, exchanged_count);
          tight = tight_by (exchanged t i j) t exchanged_count exchanged_used v.tight;
          known = omega (arith, v.known, exchanged_count);
          below = λ k kh. exchanged_used k ∙ v.below k kh;
          empty = λ k d.
              let u : (nth t k).used ≡ false = sym (exchanged_used k) ∙ d in
              from k (λ s. s.words ≡ []) (λ p. absurd (false≢true (sym (rw p at u) ∙ a))) (λ q. absurd (false≢true (sym (rw q at u) ∙ b))) (λ p q. v.empty k u);
        }

    pub exchanged_strain : strain (exchanged t i j) ≡ strain t
    exchanged_strain =
        let f : ℕ → ℕ = λ k. tense (nth t k) in
        let g : ℕ → ℕ = λ k. tense (nth (exchanged t i j) k) in
        ap (upto g) exchanged_count ∙ upto_two f g (length t.segments) i j (there t i a) (there t j b) ne (ap tense here_left) (ap tense here_right) (λ k kn p q. ap tense (elsewhere k p q))

    pub exchanged_length : length (exchanged t i j).segments ≡ length t.segments
    exchanged_length = exchanged_count

-- the smallest number that is not in use
pub leading_is : (bs : List Bool) (r : ℕ) → ((k : ℕ) → k < r → get_or bs k false ≡ true) → get_or bs r false ≡ false → prefix_len (λ b. b) bs ≡ r
leading_is [] zero f e = refl
leading_is [] (suc r) f e = absurd (false≢true (f 0 (omega arith)))
leading_is (b ∷ bs) zero f e = let q : b ≡ false = e in rw q
leading_is (b ∷ bs) (suc r) f e =
    let q : b ≡ true = f 0 (omega arith) in
    rw q (omega (arith, leading_is bs r (λ k h. f (suc k) (omega arith)) e))

pub first_is : (t : Table) (half r : ℕ) → ((k : ℕ) → k < r → (nth t k).used ≡ true) → (nth t r).used ≡ false → prefix_len (λ b. b) (lives t half) ≡ r
first_is t half r f d = leading_is (lives t half) r (λ k kr. lives_at t half k ∙ f k kr) (lives_at t half r ∙ d)

-- an entry of the table costs no more than was asked for
pub entry_cost : (moved h low hi n n' st st' : ℕ) (p : ℕ) → n' ≡ n + 1 → moved + 8 * (h / 8 - (((low + h) - (hi + 8 * n)) - 8)) ≤ p + 8 * 8 → st' ≤ st →
    moved + 8 * (h / 8 - (((low + h) - (hi + 8 * n')) - 0)) + 13 * st' ≤ p + 13 * st + 64
entry_cost moved h low hi n n' st st' p e a b =
    let z : ((low + h) - (hi + 8 * n')) - 0 ≡ ((low + h) - (hi + 8 * n)) - 8 = omega arith in
    rw z (omega arith)

-- a shorter table leaves more words free
pub fewer_cost : (moved h low hi n e st st' : ℕ) → e ≤ n → st' ≤ st →
    moved + 8 * (h / 8 - (((low + h) - (hi + 8 * e)) - 0)) + 13 * st' ≤ moved + 8 * (h / 8 - (((low + h) - (hi + 8 * n)) - 0)) + 13 * st
fewer_cost moved h low hi n e st st' a b =
    let z : ((low + h) - (hi + 8 * n)) - 0 ≤ ((low + h) - (hi + 8 * e)) - 0 = omega arith in
    drop_cost moved (h / 8) (((low + h) - (hi + 8 * n)) - 0) (((low + h) - (hi + 8 * e)) - 0) st st' z b
  where
    drop_cost : (moved h f f' st st' : ℕ) → f ≤ f' → st' ≤ st → moved + 8 * (h - f') + 13 * st' ≤ moved + 8 * (h - f) + 13 * st
    drop_cost moved h f f' st st' p q = omega arith
