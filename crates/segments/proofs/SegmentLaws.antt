-- Reads and writes of one segment.
use Rattle.std.proofs.Common.{◌≡◌, ℕ, ◌+◌, ◌-◌, ◌*◌, ◌<◌, ◌≤◌, ◌≢◌, ◌⊎◌, List, [], ◌++◌, length, get_or, take, drop, set, sym, refl, ap, ◌∙◌, ap₂, inl, inr, ⊎_elim, arith}
use lib.Seq.{take-set-lt}
use Rattle.std.proofs.lemmas.List.{length-set, length-take, length-take-le, length-drop, get_or-take, get_or-drop, take-set-le, drop-set-add, take-take, set_past, get_or_past, set-get_or, take-append-drop, drop-drop, drop-take, append-nil}
use Rattle.std.proofs.lemmas.Bool.{cases_eq}
use Rattle.segments.specs.Words.{Written}
use Rattle.segments.specs.Layout.{field, filed, start, size, room, seg, segs, Good, Free, Changed, Moved}
use Rattle.segments.proofs.WordLaws.{part_front, take_same, part_set_out, part_written}
use Rattle.segments.proofs.Table.{length_filed, field_same, field_part, field_other, drop_filed, field_front, seg_is, seg_same, segs_at, length_segs, segs_set, segs_same, segs_past}

take_split : (a b : ℕ) (xs : List ℕ) → take (a + b) xs ≡ take a xs ++ take b (drop a xs)
take_split a b xs =
    sym (take-append-drop a (take (a + b) xs)) ∙ ap₂ ◌++◌ (take-take a (a + b) xs (omega arith)) (drop-take a b xs)

module _ (w : List ℕ) (n : ℕ) (g : Good w n) where
  pub entry : (i : ℕ) → i < n → 8 * i + 7 < 8 * n
  entry i h = omega arith

  pub length_seg : (i : ℕ) → i < n → length (seg w i) ≡ size w i
  unfolding seg
  length_seg i h = let e = g.below i h in let f = g.fits i h in simp (length-take, length-drop) (omega arith)

  pub len_is : (i : ℕ) → i < n → size w i ≡ length (get_or (segs w n) i [])
  len_is i h = rw segs_at (sym (length_seg i h))

  seg_at : (i j : ℕ) → j < size w i → get_or (seg w i) j 0 ≡ get_or w (start w i + j) 0
  unfolding seg
  seg_at i j h = rw (get_or-take, get_or-drop)

  -- a place in the room of segment i is outside every other
  pub outside : (i k j : ℕ) → i < n → k < n → k ≢ i → j < room w i → (start w i + j < start w k) ⊎ (start w k + size w k ≤ start w i + j)
  outside i k j h m ne r =
      ⊎_elim
      (λ (q : start w i + room w i ≤ start w k). inl (omega arith))
      (λ (q : start w k + room w k ≤ start w i). inr (omega (arith, g.fits k m)))
      (g.apart i k h m ne)

  -- a read
  pub get_past : (i j : ℕ) → n ≤ i → 0 ≡ get_or (get_or (segs w n) i []) j 0
  get_past i j h = rw (segs_past w n i h)

  pub get_over : (i j : ℕ) → i < n → size w i ≤ j → 0 ≡ get_or (get_or (segs w n) i []) j 0
  get_over i j h m =
      let l : length (seg w i) ≤ j = omega (arith, length_seg i h) in rw (segs_at, get_or_past (seg w i) j 0 l)

  pub get_is : (i j : ℕ) → i < n → j < size w i → get_or w (start w i + j) 0 ≡ get_or (get_or (segs w n) i []) j 0
  get_is i j h m = rw segs_at (sym (seg_at i j m))

  pub part_is : (i s m : ℕ) → i < n → s ≡ start w i → m ≡ size w i → take (s + m - s) (drop s w) ≡ get_or (segs w n) i []
  unfolding seg
  part_is i s m h p q = let z : s + m - s ≡ m = omega arith in rw (z, p, q) (sym (segs_at w n i h))

  -- nothing changes
  pub kept : (i : ℕ) (x : List ℕ) → segs w n ≡ set (segs w n) i x → Changed w w n i x
  kept i x e = record { good = g; after = e; places = λ k kn. (refl, refl); used = λ k kn. refl }

  pub put_past : (i j v : ℕ) → n ≤ i → Changed w w n i (set (get_or (segs w n) i []) j v)
  put_past i j v h = kept i _ (sym (set_past (segs w n) i (set (get_or (segs w n) i []) j v) (omega (arith, length_segs w n))))

  pub put_over : (i j v : ℕ) → i < n → size w i ≤ j → Changed w w n i (set (get_or (segs w n) i []) j v)
  put_over i j v h m =
      let l : length (get_or (segs w n) i []) ≤ j = omega (arith, len_is i h) in
      kept i _ (sym (ap (set (segs w n) i) (set_past (get_or (segs w n) i []) j v l) ∙ set-get_or (segs w n) i []))

  -- the table is the same in w₁
  module _ (w₁ : List ℕ) (t : take (8 * n) w₁ ≡ take (8 * n) w) (l : length w₁ ≡ length w) where
    pub still : (k c : ℕ) → k < n → c ≤ 6 → field w₁ k c ≡ field w k c
    still k c kn h = field_front w w₁ (8 * n) k c t h (entry k kn)

    pub good_still : Good w₁ n
    good_still =
        record {
          table = rw l g.table;
          fits = λ i h. rw (still i 2 h (omega arith), still i 4 h (omega arith)) (g.fits i h);
          above = λ i h. rw (still i 0 h (omega arith)) (g.above i h);
          below = λ i h. rw (still i 0 h (omega arith), still i 4 h (omega arith), l) (g.below i h);
          apart = λ i j h m ne. rw (still i 0 h (omega arith), still i 4 h (omega arith), still j 0 m (omega arith), still j 4 m (omega arith)) (g.apart i j h m ne);
        }

  -- one word of segment i is written
  module _ (i j v : ℕ) (h : i < n) (m : j < size w i) where
    abbrev set1 : List ℕ
    set1 = set w (start w i + j) v

    set1_table : take (8 * n) set1 ≡ take (8 * n) w
    set1_table = take-set-le (8 * n) w (start w i + j) v (omega (arith, g.above i h))

    set1_field : (k c : ℕ) → k < n → c ≤ 6 → field set1 k c ≡ field w k c
    set1_field = still set1 set1_table (length-set w (start w i + j) v)

    set1_other : (k : ℕ) → k < n → k ≢ i → seg set1 k ≡ seg w k
    set1_other k kn ne =
        seg_same w set1 k k (set1_field k 0 kn (omega arith)) (set1_field k 2 kn (omega arith))
        (part_set_out w (start w k) (size w k) (start w i + j) v (outside i k j h kn ne (omega (arith, g.fits i h))))

    set1_seg : seg set1 i ≡ set (seg w i) j v
    unfolding seg
    set1_seg = rw (set1_field i 0 h (omega arith), set1_field i 2 h (omega arith), drop-set-add, take-set-lt)

    pub put_is : Changed w set1 n i (set (get_or (segs w n) i []) j v)
    put_is =
        record {
          good = good_still set1 set1_table (length-set w (start w i + j) v);
          after = rw (segs_at w n i h) (segs_set w set1 n i (set (seg w i) j v) h set1_seg set1_other);
          places = λ k kn. (set1_field k 0 kn (omega arith), set1_field k 4 kn (omega arith));
          used = λ k kn. set1_field k 6 kn (omega arith);
        }

  -- the table is the same in w₁, and then segment i gets the size m
  module _ (w₁ : List ℕ) (t : take (8 * n) w₁ ≡ take (8 * n) w) (l : length w₁ ≡ length w) (i m : ℕ) (h : i < n) (r : m ≤ room w i) where
    abbrev sized : List ℕ
    sized = filed w₁ i 2 m

    sized_size : size sized i ≡ m
    sized_size = field_same w₁ i 2 m (omega arith) (omega (arith, g.table))

    sized_part : (k c : ℕ) → k < n → c ≤ 6 → (2 + 1 < c) ⊎ (c + 1 < 2) → field sized k c ≡ field w k c
    sized_part k c kn b a = field_part w₁ i 2 k c m (omega arith) b a ∙ still w₁ t l k c kn b

    sized_other : (k : ℕ) → k < n → k ≢ i → size sized k ≡ size w k
    sized_other k kn ne = field_other w₁ i 2 k 2 m (omega arith) (omega arith) ne ∙ still w₁ t l k 2 kn (omega arith)

    sized_start : (k : ℕ) → k < n → start sized k ≡ start w k
    sized_start k kn = sized_part k 0 kn (omega arith) (inr (omega arith))

    sized_room : (k : ℕ) → k < n → room sized k ≡ room w k
    sized_room k kn = sized_part k 4 kn (omega arith) (inl (omega arith))

    sized_length : length sized ≡ length w
    sized_length = length_filed w₁ i 2 m ∙ l

    sized_good : Good sized n
    sized_good =
        record {
          table = rw sized_length g.table;
          fits = λ k kn. ⊎_elim
              (λ (q : k ≡ i). rw (q, sized_room i h, sized_size) r)
              (λ (q : k ≢ i). rw (sized_room k kn, sized_other k kn q) (g.fits k kn))
              (cases_eq k i);
          above = λ k kn. rw (sized_start k kn) (g.above k kn);
          below = λ k kn. rw (sized_start k kn, sized_room k kn, sized_length) (g.below k kn);
          apart = λ a c an cn ne. rw (sized_start a an, sized_room a an, sized_start c cn, sized_room c cn) (g.apart a c an cn ne);
        }

    sized_drop : (k : ℕ) → k < n → drop (start w k) sized ≡ drop (start w k) w₁
    sized_drop k kn = drop_filed w₁ i 2 m (start w k) (omega arith) (omega (arith, g.above k kn))

    pub resized : (x : List ℕ) → take m (drop (start w i) w₁) ≡ x →
        ((k : ℕ) → k < n → k ≢ i → take (size w k) (drop (start w k) w₁) ≡ take (size w k) (drop (start w k) w)) → Changed w sized n i x
    resized x e o =
        record {
          good = sized_good;
          after = segs_set w sized n i x h
              (seg_is sized w₁ i (start w i) m (sized_start i h) sized_size (ap (take m) (sized_drop i h)) ∙ e)
              (λ k kn ne. seg_same w sized k k (sized_start k kn) (sized_other k kn ne) (ap (take (size w k)) (sized_drop k kn) ∙ o k kn ne));
          places = λ k kn. (sized_start k kn, sized_room k kn);
          used = λ k kn. sized_part k 6 kn (omega arith) (inl (omega arith));
        }

  pub cut_is : (i m : ℕ) → i < n → m ≤ size w i → Changed w (filed w i 2 m) n i (take m (get_or (segs w n) i []))
  unfolding seg
  cut_is i m h le =
      resized w refl refl i m h (omega (arith, g.fits i h)) (take m (get_or (segs w n) i []))
      (rw (segs_at w n i h) (sym (take-take m (size w i) (drop (start w i) w) le)))
      (λ k kn ne. refl)

  -- words are written behind segment i, in its room
  module _ (w₁ : List ℕ) (i : ℕ) (xs : List ℕ) (h : i < n) (r : size w i + length xs ≤ room w i) (e : Written w w₁ (start w i + size w i) xs) where
    grown_seg : take (size w i + length xs) (drop (start w i) w₁) ≡ seg w i ++ xs
    unfolding seg
    grown_seg =
        let a : take (size w i) (drop (start w i) w₁) ≡ take (size w i) (drop (start w i) w) = part_front w w₁ (start w i + size w i) (start w i) (size w i) e.front (omega arith) in
        take_split (size w i) (length xs) (drop (start w i) w₁) ∙ ap₂ ◌++◌ a (ap (take (length xs)) (drop-drop (size w i) (start w i) w₁) ∙ e.mid)

    pub grown : Changed w (filed w₁ i 2 (size w i + length xs)) n i (get_or (segs w n) i [] ++ xs)
    grown =
        resized w₁ (take_same w w₁ (start w i + size w i) (8 * n) e.front (omega (arith, g.above i h))) e.len i (size w i + length xs) h r
        (get_or (segs w n) i [] ++ xs) (rw (segs_at w n i h) grown_seg)
        (λ k kn ne. part_written w w₁ (start w i + size w i) xs (start w k) (size w k) e (grown_out k kn ne))
      where
        grown_out : (k : ℕ) → k < n → k ≢ i → (start w k + size w k ≤ start w i + size w i) ⊎ (start w i + size w i + length xs ≤ start w k)
        grown_out k kn ne = ⊎_elim
            (λ (q : start w i + room w i ≤ start w k). inr (omega arith))
            (λ (q : start w k + room w k ≤ start w i). inl (omega (arith, g.fits k kn)))
            (g.apart i k h kn ne)

  -- the words of segment j fit behind segment i without meeting it
  pub append_out : (i j : ℕ) → i < n → j < n → size w i + size w j ≤ room w i →
      (start w j + size w j ≤ start w i + size w i) ⊎ (start w i + size w i + size w j ≤ start w j)
  append_out i j h m r = ⊎_elim
      (λ (q : j ≡ i). inl (rw q (omega arith)))
      (λ (q : j ≢ i). ⊎_elim
      (λ (p : start w i + room w i ≤ start w j). inr (omega arith))
      (λ (p : start w j + room w j ≤ start w i). inl (omega (arith, g.fits j m)))
      (g.apart i j h m q))
      (cases_eq j i)

  pub append_none : (i j : ℕ) → n ≤ j → Changed w w n i (get_or (segs w n) i [] ++ get_or (segs w n) j [])
  append_none i j h = kept i (get_or (segs w n) i [] ++ get_or (segs w n) j []) (sym (rw (segs_past w n j h, append-nil) (set-get_or (segs w n) i [])))

  pub appended : (w₁ : List ℕ) (i j : ℕ) → i < n → j < n → size w i + size w j ≤ room w i →
      Written w w₁ (start w i + size w i) (take (size w j) (drop (start w j) w)) →
      Changed w (filed w₁ i 2 (size w i + size w j)) n i (get_or (segs w n) i [] ++ get_or (segs w n) j [])
  unfolding seg
  appended w₁ i j h m r e =
      let l = length_seg j m in
      rw (segs_at w n j m) (rw l at (grown w₁ i (seg w j) h (rw l r) e))

-- segment i goes to free words, with room r: its words are copied (w₁), then the entry is changed
module _ (w w₁ : List ℕ) (n i to r : ℕ) (g : Good w n) (h : i < n) (fr : size w i ≤ r) (bt : 8 * n ≤ to) (tl : to + r ≤ length w)
    (free : Free w n to (to + r)) (e : Written w w₁ to (take (size w i) (drop (start w i) w))) where
  abbrev moved : List ℕ
  moved = filed (filed w₁ i 0 to) i 4 r

  table₁ : take (8 * n) w₁ ≡ take (8 * n) w
  table₁ = take_same w w₁ to (8 * n) e.front bt

  moved_length : length moved ≡ length w
  moved_length = length_filed (filed w₁ i 0 to) i 4 r ∙ length_filed w₁ i 0 to ∙ e.len

  moved_start : start moved i ≡ to
  moved_start = field_part (filed w₁ i 0 to) i 4 i 0 r (omega arith) (omega arith) (inr (omega arith)) ∙ field_same w₁ i 0 to (omega arith) (omega (arith, g.table, e.len))

  moved_room : room moved i ≡ r
  moved_room = field_same (filed w₁ i 0 to) i 4 r (omega arith) (omega (arith, g.table, e.len, length_filed w₁ i 0 to))

  moved_part : (k c : ℕ) → k < n → c ≤ 6 → (0 + 1 < c) ⊎ (c + 1 < 0) → (4 + 1 < c) ⊎ (c + 1 < 4) → field moved k c ≡ field w k c
  moved_part k c kn b p q = field_part (filed w₁ i 0 to) i 4 k c r (omega arith) b q ∙ field_part w₁ i 0 k c to (omega arith) b p ∙ still w n g w₁ table₁ e.len k c kn b

  moved_size : (k : ℕ) → k < n → size moved k ≡ size w k
  moved_size k kn = moved_part k 2 kn (omega arith) (inl (omega arith)) (inr (omega arith))

  moved_other : (k c : ℕ) → k < n → k ≢ i → c ≤ 6 → field moved k c ≡ field w k c
  moved_other k c kn ne b = field_other (filed w₁ i 0 to) i 4 k c r (omega arith) b ne ∙ field_other w₁ i 0 k c to (omega arith) b ne ∙ still w n g w₁ table₁ e.len k c kn b

  moved_good : Good moved n
  moved_good =
      record {
        table = rw moved_length g.table;
        fits = λ k kn. ⊎_elim
            (λ (q : k ≡ i). rw (q, moved_size i h, moved_room) fr)
            (λ (q : k ≢ i). rw (moved_size k kn, moved_other k 4 kn q (omega arith)) (g.fits k kn))
            (cases_eq k i);
        above = λ k kn. ⊎_elim
            (λ (q : k ≡ i). rw (q, moved_start) bt)
            (λ (q : k ≢ i). rw (moved_other k 0 kn q (omega arith)) (g.above k kn))
            (cases_eq k i);
        below = λ k kn. ⊎_elim
            (λ (q : k ≡ i). rw (q, moved_start, moved_room, moved_length) tl)
            (λ (q : k ≢ i). rw (moved_other k 0 kn q (omega arith), moved_other k 4 kn q (omega arith), moved_length) (g.below k kn))
            (cases_eq k i);
        apart = λ a c an cn ne. ⊎_elim
            (λ (p : a ≡ i). let q : c ≢ i = omega arith in
            rw (p, moved_start, moved_room, moved_other c 0 cn q (omega arith), moved_other c 4 cn q (omega arith)) (free c cn))
            (λ (p : a ≢ i). ⊎_elim
            (λ (q : c ≡ i). rw (q, moved_start, moved_room, moved_other a 0 an p (omega arith), moved_other a 4 an p (omega arith)) (⊎_elim inr inl (free a an)))
            (λ (q : c ≢ i). rw (moved_other a 0 an p (omega arith), moved_other a 4 an p (omega arith), moved_other c 0 cn q (omega arith), moved_other c 4 cn q (omega arith))
            (g.apart a c an cn ne))
            (cases_eq c i))
            (cases_eq a i);
      }

  moved_drop : (s : ℕ) → 8 * n ≤ s → drop s moved ≡ drop s w₁
  moved_drop s b = drop_filed (filed w₁ i 0 to) i 4 r s (omega arith) (omega arith) ∙ drop_filed w₁ i 0 to s (omega arith) (omega arith)

  copied : length (take (size w i) (drop (start w i) w)) ≡ size w i
  copied = length-take-le (size w i) (drop (start w i) w) (simp length-drop (omega (arith, g.below i h, g.fits i h)))

  moved_seg : seg moved i ≡ seg w i
  unfolding seg
  moved_seg = rw (moved_start, moved_size i h, moved_drop to bt) (rw copied at e.mid)

  moved_same : (k : ℕ) → k < n → k ≢ i → seg moved k ≡ seg w k
  moved_same k kn ne =
      seg_same w moved k k (moved_other k 0 kn ne (omega arith)) (moved_size k kn)
      (ap (take (size w k)) (moved_drop (start w k) (g.above k kn)) ∙
      part_written w w₁ to (take (size w i) (drop (start w i) w)) (start w k) (size w k) e (⊎_elim
      (λ (q : to + r ≤ start w k). inr (omega (arith, copied)))
      (λ (q : start w k + room w k ≤ to). inl (omega (arith, g.fits k kn)))
      (free k kn)))

  pub moved_is : Moved w moved n i to r
  moved_is =
      record {
        good = moved_good;
        same = segs_same w moved n (λ k kn. ⊎_elim (λ (q : k ≡ i). rw q moved_seg) (λ (q : k ≢ i). moved_same k kn q) (cases_eq k i));
        sizes = moved_size;
        place = (moved_start, moved_room);
        others = λ k kn ne. (moved_other k 0 kn ne (omega arith), moved_other k 4 kn ne (omega arith));
        used = λ k kn. moved_part k 6 kn (omega arith) (inl (omega arith)) (inl (omega arith));
      }

-- the free words of a segment that goes there do not meet it
pub free_out : (w : List ℕ) (n i to r : ℕ) → Good w n → i < n → size w i ≤ r → Free w n to (to + r) →
    (start w i + size w i ≤ to) ⊎ (to + size w i ≤ start w i)
free_out w n i to r g h fr free = ⊎_elim
    (λ (q : to + r ≤ start w i). inr (omega arith))
    (λ (q : start w i + room w i ≤ to). inl (omega (arith, g.fits i h)))
    (free i h)
