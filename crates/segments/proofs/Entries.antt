-- Two segments that change places, and one that is new.
use Rattle.std.proofs.Common.{◌≡◌, ℕ, ◌+◌, ◌*◌, ◌<◌, ◌≤◌, ◌≢◌, ◌⊎◌, List, [], ◌∷◌, ◌++◌, length, take, drop, refl, ap, ◌∙◌, ap₂, inl, inr, ⊎_elim, arith}
use Rattle.std.proofs.lemmas.Bool.{cases_eq}
use Rattle.segments.specs.Layout.{field, filed, start, size, room, mark, seg, Good, Exchanged, Opened, Marked}
use Rattle.segments.proofs.Table.{length_filed, field_same, field_part, field_other, drop_filed, seg_same, segs_same, segs_more}

abbrev pub traded : List ℕ → ℕ → ℕ → ℕ → List ℕ
traded w i j c = filed (filed w i c (field w j c)) j c (field w i c)

module _ (w : List ℕ) (i j c : ℕ) (b : c ≤ 6) where
  length_traded : length (traded w i j c) ≡ length w
  length_traded = length_filed (filed w i c (field w j c)) j c (field w i c) ∙ length_filed w i c (field w j c)

  traded_part : (k d : ℕ) → d ≤ 6 → (c + 1 < d) ⊎ (d + 1 < c) → field (traded w i j c) k d ≡ field w k d
  traded_part k d p q = field_part (filed w i c (field w j c)) j c k d (field w i c) b p q ∙ field_part w i c k d (field w j c) b p q

  traded_other : (k d : ℕ) → d ≤ 6 → k ≢ i → k ≢ j → field (traded w i j c) k d ≡ field w k d
  traded_other k d p x y = field_other (filed w i c (field w j c)) j c k d (field w i c) b p y ∙ field_other w i c k d (field w j c) b p x

  traded_drop : (s : ℕ) → 8 * i + 7 < s → 8 * j + 7 < s → drop s (traded w i j c) ≡ drop s w
  traded_drop s p q = drop_filed (filed w i c (field w j c)) j c (field w i c) s b q ∙ drop_filed w i c (field w j c) s b p

  module _ (ne : i ≢ j) (li : 8 * i + 7 < length w) (lj : 8 * j + 7 < length w) where
    traded_left : field (traded w i j c) i c ≡ field w j c
    traded_left = field_other (filed w i c (field w j c)) j c i c (field w i c) b b ne ∙ field_same w i c (field w j c) b li

    traded_right : field (traded w i j c) j c ≡ field w i c
    traded_right = field_same (filed w i c (field w j c)) j c (field w i c) b (rw (length_filed w i c (field w j c)) lj)

-- entry k is now what entry `to` was
record Row (w w' : List ℕ) (n i j k : ℕ) : Type 0 where
  to : ℕ
  lt : to < n
  starts : start w' k ≡ start w to
  sizes : size w' k ≡ size w to
  rooms : room w' k ≡ room w to
  which : ((k ≡ i) × (to ≡ j)) ⊎ (((k ≡ j) × (to ≡ i)) ⊎ ((k ≢ i) × ((k ≢ j) × (to ≡ k))))

module _ (w : List ℕ) (n i j : ℕ) (g : Good w n) (h : i < n) (m : j < n) (ne : i ≢ j) where
  abbrev one : List ℕ
  one = traded w i j 0

  abbrev two : List ℕ
  two = traded one i j 2

  abbrev swapped : List ℕ
  swapped = traded two i j 4

  length_one : length one ≡ length w
  length_one = length_traded w i j 0 (omega arith)

  length_two : length two ≡ length w
  length_two = length_traded one i j 2 (omega arith) ∙ length_one

  length_swapped : length swapped ≡ length w
  length_swapped = length_traded two i j 4 (omega arith) ∙ length_two

  -- a part at k, from the part at `to` in w
  at_start : (k to : ℕ) → field one k 0 ≡ field w to 0 → start swapped k ≡ start w to
  at_start k to e = traded_part two i j 4 (omega arith) k 0 (omega arith) (inr (omega arith)) ∙ traded_part one i j 2 (omega arith) k 0 (omega arith) (inr (omega arith)) ∙ e

  at_size : (k to : ℕ) → field two k 2 ≡ field one to 2 → size swapped k ≡ size w to
  at_size k to e = traded_part two i j 4 (omega arith) k 2 (omega arith) (inr (omega arith)) ∙ e ∙ traded_part w i j 0 (omega arith) to 2 (omega arith) (inl (omega arith))

  at_room : (k to : ℕ) → field swapped k 4 ≡ field two to 4 → room swapped k ≡ room w to
  at_room k to e = e ∙ traded_part one i j 2 (omega arith) to 4 (omega arith) (inl (omega arith)) ∙ traded_part w i j 0 (omega arith) to 4 (omega arith) (inl (omega arith))

  long : (k : ℕ) → k < n → 8 * k + 7 < length w
  long k kn = omega (arith, g.table)

  row_i : Row w swapped n i j i
  row_i = record {
    to = j;
    lt = m;
    which = inl (refl, refl);
    starts = at_start i j (traded_left w i j 0 (omega arith) ne (long i h) (long j m));
    sizes = at_size i j (traded_left one i j 2 (omega arith) ne (rw length_one (long i h)) (rw length_one (long j m)));
    rooms = at_room i j (traded_left two i j 4 (omega arith) ne (rw length_two (long i h)) (rw length_two (long j m)));
  }

  row_j : Row w swapped n i j j
  row_j = record {
    to = i;
    lt = h;
    which = inr (inl (refl, refl));
    starts = at_start j i (traded_right w i j 0 (omega arith) ne (long i h) (long j m));
    sizes = at_size j i (traded_right one i j 2 (omega arith) ne (rw length_one (long i h)) (rw length_one (long j m)));
    rooms = at_room j i (traded_right two i j 4 (omega arith) ne (rw length_two (long i h)) (rw length_two (long j m)));
  }

  row : (k : ℕ) → k < n → Row w swapped n i j k
  row k kn = ⊎_elim
      (λ (p : k ≡ i). rw p row_i)
      (λ (p : k ≢ i). ⊎_elim
      (λ (q : k ≡ j). rw q row_j)
      (λ (q : k ≢ j). record {
        to = k;
        lt = kn;
        which = inr (inr (p, (q, refl)));
        starts = at_start k k (traded_other w i j 0 (omega arith) k 0 (omega arith) p q);
        sizes = at_size k k (traded_other one i j 2 (omega arith) k 2 (omega arith) p q);
        rooms = at_room k k (traded_other two i j 4 (omega arith) k 4 (omega arith) p q);
      })
      (cases_eq k j))
      (cases_eq k i)

  swapped_good : Good swapped n
  swapped_good =
      record {
        table = rw length_swapped g.table;
        fits = λ k kn. let r = row k kn in rw (r.sizes, r.rooms) (g.fits r.to r.lt);
        above = λ k kn. let r = row k kn in rw r.starts (g.above r.to r.lt);
        below = λ k kn. let r = row k kn in rw (r.starts, r.rooms, length_swapped) (g.below r.to r.lt);
        apart = λ a c an cn d. let r = row a an in let s = row c cn in let z : s.to ≢ r.to = omega (arith, r.which, s.which) in
            rw (r.starts, r.rooms, s.starts, s.rooms) (g.apart r.to s.to r.lt s.lt z);
      }

  swapped_drop : (s : ℕ) → 8 * n ≤ s → drop s swapped ≡ drop s w
  swapped_drop s b = traded_drop two i j 4 (omega arith) s (omega arith) (omega arith) ∙ traded_drop one i j 2 (omega arith) s (omega arith) (omega arith) ∙ traded_drop w i j 0 (omega arith) s (omega arith) (omega arith)

  swapped_seg : (k to : ℕ) → to < n → start swapped k ≡ start w to → size swapped k ≡ size w to → seg swapped k ≡ seg w to
  swapped_seg k to tn p q = seg_same w swapped k to p q (ap (take (size w to)) (swapped_drop (start w to) (g.above to tn)))

  pub swapped_is : Exchanged w swapped n i j
  unfolding row_i row_j
  swapped_is =
      record {
        good = swapped_good;
        left = (row_i.starts, row_i.rooms, swapped_seg i j m row_i.starts row_i.sizes);
        right = (row_j.starts, row_j.rooms, swapped_seg j i h row_j.starts row_j.sizes);
        others = λ k kn p q.
            let s = at_start k k (traded_other w i j 0 (omega arith) k 0 (omega arith) p q) in
            let z = at_size k k (traded_other one i j 2 (omega arith) k 2 (omega arith) p q) in
            (s, at_room k k (traded_other two i j 4 (omega arith) k 4 (omega arith) p q), swapped_seg k k kn s z);
        used = λ k kn. traded_part two i j 4 (omega arith) k 6 (omega arith) (inl (omega arith)) ∙ traded_part one i j 2 (omega arith) k 6 (omega arith) (inl (omega arith)) ∙
            traded_part w i j 0 (omega arith) k 6 (omega arith) (inl (omega arith));
      }

-- one more segment, with nothing in it and no room
module _ (w : List ℕ) (n at : ℕ) (g : Good w n) (ta : 8 * n + 8 ≤ at) (al : at ≤ length w) (under : (k : ℕ) → k < n → at ≤ start w k) where
  abbrev first : List ℕ
  first = filed w n 0 at

  abbrev second : List ℕ
  second = filed first n 2 0

  abbrev third : List ℕ
  third = filed second n 4 0

  abbrev opened : List ℕ
  opened = filed third n 6 1

  l1 : length first ≡ length w
  l1 = length_filed w n 0 at

  l2 : length second ≡ length w
  l2 = length_filed first n 2 0 ∙ l1

  l3 : length third ≡ length w
  l3 = length_filed second n 4 0 ∙ l2

  l4 : length opened ≡ length w
  l4 = length_filed third n 6 1 ∙ l3

  new_start : start opened n ≡ at
  new_start = field_part third n 6 n 0 1 (omega arith) (omega arith) (inr (omega arith)) ∙ field_part second n 4 n 0 0 (omega arith) (omega arith) (inr (omega arith)) ∙
      field_part first n 2 n 0 0 (omega arith) (omega arith) (inr (omega arith)) ∙ field_same w n 0 at (omega arith) (omega arith)

  new_size : size opened n ≡ 0
  new_size = field_part third n 6 n 2 1 (omega arith) (omega arith) (inr (omega arith)) ∙ field_part second n 4 n 2 0 (omega arith) (omega arith) (inr (omega arith)) ∙
      field_same first n 2 0 (omega arith) (omega (arith, l1))

  new_room : room opened n ≡ 0
  new_room = field_part third n 6 n 4 1 (omega arith) (omega arith) (inr (omega arith)) ∙ field_same second n 4 0 (omega arith) (omega (arith, l2))

  new_mark : mark opened n ≡ 1
  new_mark = field_same third n 6 1 (omega arith) (omega (arith, l3))

  old : (k c : ℕ) → k < n → c ≤ 6 → field opened k c ≡ field w k c
  old k c kn b =
      let ne : k ≢ n = omega arith in
      field_other third n 6 k c 1 (omega arith) b ne ∙ field_other second n 4 k c 0 (omega arith) b ne ∙ field_other first n 2 k c 0 (omega arith) b ne ∙ field_other w n 0 k c at (omega arith) b ne

  opened_drop : (s : ℕ) → 8 * n + 7 < s → drop s opened ≡ drop s w
  opened_drop s b = drop_filed third n 6 1 s (omega arith) b ∙ drop_filed second n 4 0 s (omega arith) b ∙ drop_filed first n 2 0 s (omega arith) b ∙ drop_filed w n 0 at s (omega arith) b

  opened_good : Good opened (n + 1)
  opened_good =
      record {
        table = omega (arith, l4);
        fits = λ k kn. ⊎_elim
            (λ (q : k ≡ n). rw (q, new_size, new_room) (omega arith))
            (λ (q : k ≢ n). let z : k < n = omega arith in rw (old k 2 z (omega arith), old k 4 z (omega arith)) (g.fits k z))
            (cases_eq k n);
        above = λ k kn. ⊎_elim
            (λ (q : k ≡ n). rw (q, new_start) (omega arith))
            (λ (q : k ≢ n). let z : k < n = omega arith in rw (old k 0 z (omega arith)) (omega (arith, under k z)))
            (cases_eq k n);
        below = λ k kn. ⊎_elim
            (λ (q : k ≡ n). rw (q, new_start, new_room, l4) (omega arith))
            (λ (q : k ≢ n). let z : k < n = omega arith in rw (old k 0 z (omega arith), old k 4 z (omega arith), l4) (g.below k z))
            (cases_eq k n);
        apart = λ a c an cn ne. ⊎_elim
            (λ (p : a ≡ n). let z : c < n = omega arith in rw (p, new_start, new_room, old c 0 z (omega arith), old c 4 z (omega arith)) (inl (omega (arith, under c z))))
            (λ (p : a ≢ n). let y : a < n = omega arith in ⊎_elim
            (λ (q : c ≡ n). rw (q, new_start, new_room, old a 0 y (omega arith), old a 4 y (omega arith)) (inr (omega (arith, under a y))))
            (λ (q : c ≢ n). let z : c < n = omega arith in
            rw (old a 0 y (omega arith), old a 4 y (omega arith), old c 0 z (omega arith), old c 4 z (omega arith)) (g.apart a c y z ne))
            (cases_eq c n))
            (cases_eq a n);
      }

  opened_seg : seg opened n ≡ []
  unfolding seg
  opened_seg = rw new_size

  pub opened_is : Opened w opened n at
  opened_is =
      record {
        good = opened_good;
        after = segs_more opened n ∙ ap₂ (λ (y : List (List ℕ)) (z : List ℕ). y ++ (z ∷ []))
            (segs_same w opened n (λ k kn. seg_same w opened k k (old k 0 kn (omega arith)) (old k 2 kn (omega arith)) (ap (take (size w k)) (opened_drop (start w k) (omega (arith, under k kn))))))
            opened_seg;
        place = (new_start, new_room);
        bare = new_size;
        sizes = λ k kn. old k 2 kn (omega arith);
        places = λ k kn. (old k 0 kn (omega arith), old k 4 kn (omega arith));
        used = λ k kn. old k 6 kn (omega arith);
        live = new_mark;
      }

-- a mark is written
module _ (w : List ℕ) (n i v : ℕ) (g : Good w n) (h : i < n) where
  abbrev inked : List ℕ
  inked = filed w i 6 v

  part : (k c : ℕ) → c + 1 < 6 → field inked k c ≡ field w k c
  part k c b = field_part w i 6 k c v (omega arith) (omega arith) (inr b)

  pub marked_is : Marked w inked n i v
  marked_is =
      record {
        good = record {
          table = rw (length_filed w i 6 v) g.table;
          fits = λ k kn. rw (part k 2 (omega arith), part k 4 (omega arith)) (g.fits k kn);
          above = λ k kn. rw (part k 0 (omega arith)) (g.above k kn);
          below = λ k kn. rw (part k 0 (omega arith), part k 4 (omega arith), length_filed w i 6 v) (g.below k kn);
          apart = λ a c an cn ne. rw (part a 0 (omega arith), part a 4 (omega arith), part c 0 (omega arith), part c 4 (omega arith)) (g.apart a c an cn ne);
        };
        same = segs_same w inked n (λ k kn. seg_same w inked k k (part k 0 (omega arith)) (part k 2 (omega arith))
            (ap (take (size w k)) (drop_filed w i 6 v (start w k) (omega arith) (omega (arith, g.above k kn)))));
        places = λ k kn. (part k 0 (omega arith), part k 4 (omega arith));
        sizes = λ k kn. part k 2 (omega arith);
        here = field_same w i 6 v (omega arith) (omega (arith, g.table));
        others = λ k kn ne. field_other w i 6 k 6 v (omega arith) (omega arith) ne;
      }
