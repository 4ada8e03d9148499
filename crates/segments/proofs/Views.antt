-- What words say, once they have changed.
use Rattle.std.proofs.Common.{◌≡◌, ℕ, ◌+◌, ◌-◌, ◌*◌, ◌<◌, ◌≤◌, true, false, eqb, ◌≢◌, ◌⊎◌, List, [], ◌∷◌, ◌++◌, map, length, get_or, sym, refl, ap, ◌∙◌, ap₂, inl, inr, ⊎_elim, arith}
use Rattle.std.proofs.lemmas.List.{ext_get_or, get_or-set_same, get_or-set_other, get_or_past, length-set, length-append, get_or_append_left, get_or-append_right}
use Rattle.std.proofs.lemmas.List.FromFn.{get_or-map-range_with_len, length-map-range_with_len}
use Rattle.std.proofs.lemmas.Bool.{cases_eq, cases_lt, eq-eqb, ne_eqb}
use Rattle.std.specs.List.{range_with_len}
use Rattle.segments.specs.Layout.{start, size, room, mark, seg, segs, Good, Changed, Moved, Exchanged, Opened, Marked, entry, table}
use Rattle.segments.specs.Table.{Segment, Table, none, nth, placed, written, moved, marked, exchanged, opened, as_used, Retired, Laid}
use Rattle.segments.proofs.Table.{segs_at, length_segs}
use Rattle.segments.proofs.SegmentLaws.{length_seg}
use Rattle.segments.proofs.Placed.{nth_same, nth_other, nth_past}

pub count_is : (w : List ℕ) (n : ℕ) → length (table w n).segments ≡ n
unfolding table
count_is w n = length-map-range_with_len (entry w) 0 n

pub lent_is : (w : List ℕ) (n : ℕ) → (table w n).lent ≡ length w
unfolding table
lent_is w n = refl

pub nth_is : (w : List ℕ) (n k : ℕ) → k < n → nth (table w n) k ≡ entry w k
unfolding table
nth_is w n k h = get_or-map-range_with_len (entry w) 0 n k k none h (omega arith)

pub past_is : (w : List ℕ) (n k : ℕ) → n ≤ k → nth (table w n) k ≡ none
past_is w n k h = nth_past (table w n) k (omega (arith, count_is w n))

-- the parts of a segment, from its entry
module _ (w : List ℕ) (n k : ℕ) (h : k < n) where
  pub start_is : (nth (table w n) k).start ≡ start w k
  start_is = ap (λ (s : Segment). s.start) (nth_is w n k h)

  pub room_is : (nth (table w n) k).room ≡ room w k
  room_is = ap (λ (s : Segment). s.room) (nth_is w n k h)

  pub words_are : (nth (table w n) k).words ≡ seg w k
  words_are = ap (λ (s : Segment). s.words) (nth_is w n k h)

  pub used_is : (nth (table w n) k).used ≡ eqb (mark w k) 1
  used_is = ap (λ (s : Segment). s.used) (nth_is w n k h)

  pub size_is : Good w n → length (nth (table w n) k).words ≡ size w k
  size_is g = ap length words_are ∙ length_seg w n g k h

-- how the words lie, by what they say
pub good_laid : (w : List ℕ) (n : ℕ) → Good w n → Laid (table w n)
good_laid w n g =
    let c = count_is w n in
    record {
      table = omega (arith, c, lent_is w n, g.table);
      fits = λ i h. let l : i < n = omega (arith, c) in omega (arith, size_is w n i l g, room_is w n i l, g.fits i l);
      above = λ i h. let l : i < n = omega (arith, c) in omega (arith, c, start_is w n i l, g.above i l);
      below = λ i h. let l : i < n = omega (arith, c) in omega (arith, lent_is w n, start_is w n i l, room_is w n i l, g.below i l);
      apart = λ i j h k ne.
          let l : i < n = omega (arith, c) in
          let m : j < n = omega (arith, c) in
          rw (start_is w n i l, room_is w n i l, start_is w n j m, room_is w n j m) (g.apart i j l m ne);
    }

pub segs_are : (w : List ℕ) (n k : ℕ) → get_or (segs w n) k [] ≡ (nth (table w n) k).words
segs_are w n k = ⊎_elim
    (λ (h : k < n). segs_at w n k h ∙ sym (words_are w n k h))
    (λ (h : n ≤ k). get_or_past (segs w n) k [] (omega (arith, length_segs w n)) ∙ sym (ap (λ (s : Segment). s.words) (past_is w n k h)))
    (cases_lt k n)

-- a table is known by its entries
entry_is : (w : List ℕ) (k : ℕ) (s : Segment) → start w k ≡ s.start → room w k ≡ s.room → seg w k ≡ s.words → eqb (mark w k) 1 ≡ s.used → entry w k ≡ s
entry_is w k s a b c d = rw (a, b, c, d)

pub table_by : (w : List ℕ) (n : ℕ) (t : Table) → length w ≡ t.lent → length t.segments ≡ n → ((k : ℕ) → k < n → entry w k ≡ nth t k) → table w n ≡ t
unfolding table
table_by w n t l c f = ap₂ (λ (a : ℕ) (b : List Segment). record { lent = a; segments = b }) l
    (ext_get_or none (map (entry w) (range_with_len 0 n)) t.segments (length-map-range_with_len (entry w) 0 n ∙ sym c)
    (λ k h. let m : k < n = omega (arith, length-map-range_with_len (entry w) 0 n) in get_or-map-range_with_len (entry w) 0 n k k none m (omega arith) ∙ f k m))

-- one entry is now s
placed_view : (w w' : List ℕ) (n i : ℕ) (s : Segment) → length w' ≡ length w → (i < n → entry w' i ≡ s) →
    ((k : ℕ) → k < n → k ≢ i → entry w' k ≡ entry w k) → table w' n ≡ placed (table w n) i s
placed_view w w' n i s l e f = table_by w' n (placed (table w n) i s) (l ∙ sym (lent_is w n)) (length-set (table w n).segments i s ∙ count_is w n)
    (λ k h. ⊎_elim
    (λ (q : k ≡ i). let m : i < n = omega arith in rw q (e m ∙ sym (nth_same (table w n) i s (omega (arith, count_is w n)))))
    (λ (q : k ≢ i). f k h q ∙ sym (nth_other (table w n) i k s q ∙ nth_is w n k h))
    (cases_eq k i))

module _ (w w' : List ℕ) (n i : ℕ) (l : length w' ≡ length w) where
  pub changed_view : (x : List ℕ) → Changed w w' n i x → table w' n ≡ written (table w n) i x
  changed_view x c = placed_view w w' n i _ l
      (λ h. entry_is w' i _ ((c.places i h).0 ∙ sym (start_is w n i h)) ((c.places i h).1 ∙ sym (room_is w n i h))
      (sym (segs_at w' n i h) ∙ ap (λ (y : List (List ℕ)). get_or y i []) c.after ∙ get_or-set_same (segs w n) i x [] (omega (arith, length_segs w n)))
      (ap (λ (y : ℕ). eqb y 1) (c.used i h) ∙ sym (used_is w n i h)))
      (λ k h ne. entry_is w' k (entry w k) (c.places k h).0 (c.places k h).1
      (sym (segs_at w' n k h) ∙ ap (λ (y : List (List ℕ)). get_or y k []) c.after ∙ get_or-set_other (segs w n) i k x [] ne ∙ segs_at w n k h)
      (ap (λ (y : ℕ). eqb y 1) (c.used k h)))

  seg_same : segs w' n ≡ segs w n → (k : ℕ) → k < n → seg w' k ≡ seg w k
  seg_same e k h = sym (segs_at w' n k h) ∙ ap (λ (y : List (List ℕ)). get_or y k []) e ∙ segs_at w n k h

  pub moved_view : (to r : ℕ) → Moved w w' n i to r → table w' n ≡ moved (table w n) i to r
  moved_view to r m = placed_view w w' n i _ l
      (λ h. entry_is w' i _ m.place.0 m.place.1 (seg_same m.same i h ∙ sym (words_are w n i h)) (ap (λ (y : ℕ). eqb y 1) (m.used i h) ∙ sym (used_is w n i h)))
      (λ k h ne. entry_is w' k (entry w k) (m.others k h ne).0 (m.others k h ne).1 (seg_same m.same k h) (ap (λ (y : ℕ). eqb y 1) (m.used k h)))

  pub marked_view : (v : ℕ) → Marked w w' n i v → table w' n ≡ marked (table w n) i (eqb v 1)
  marked_view v m = placed_view w w' n i _ l
      (λ h. entry_is w' i _ ((m.places i h).0 ∙ sym (start_is w n i h)) ((m.places i h).1 ∙ sym (room_is w n i h))
      (seg_same m.same i h ∙ sym (words_are w n i h)) (ap (λ (y : ℕ). eqb y 1) m.here))
      (λ k h ne. entry_is w' k (entry w k) (m.places k h).0 (m.places k h).1 (seg_same m.same k h) (ap (λ (y : ℕ). eqb y 1) (m.others k h ne)))

pub exchanged_view : (w w' : List ℕ) (n i j : ℕ) → length w' ≡ length w → i < n → j < n → i ≢ j → Exchanged w w' n i j → table w' n ≡ exchanged (table w n) i j
exchanged_view w w' n i j l hi hj ne x =
    let t = table w n in
    let a = as_used t j i in
    let b = as_used t i j in
    let c = count_is w n in
    let d = length-set t.segments i a in
    table_by w' n (exchanged t i j) (l ∙ sym (lent_is w n)) (length-set (placed t i a).segments j b ∙ d ∙ c)
    (λ k h. ⊎_elim
    (λ (q : k ≡ j). rw q (entry_is w' j b (x.right.0 ∙ sym (start_is w n i hi)) (x.right.1 ∙ sym (room_is w n i hi)) (x.right.2 ∙ sym (words_are w n i hi))
    (ap (λ (y : ℕ). eqb y 1) (x.used j hj) ∙ sym (used_is w n j hj)) ∙ sym (nth_same (placed t i a) j b (omega (arith, c, d)))))
    (λ (q : k ≢ j). ⊎_elim
    (λ (p : k ≡ i). rw p (entry_is w' i a (x.left.0 ∙ sym (start_is w n j hj)) (x.left.1 ∙ sym (room_is w n j hj)) (x.left.2 ∙ sym (words_are w n j hj))
    (ap (λ (y : ℕ). eqb y 1) (x.used i hi) ∙ sym (used_is w n i hi)) ∙ sym (nth_other (placed t i a) j i b ne ∙ nth_same t i a (omega (arith, c)))))
    (λ (p : k ≢ i). let o = x.others k h p q in entry_is w' k (entry w k) o.0 o.1 o.2 (ap (λ (y : ℕ). eqb y 1) (x.used k h)) ∙
    sym (nth_other (placed t i a) j k b q ∙ nth_other t i k a p ∙ nth_is w n k h))
    (cases_eq k i))
    (cases_eq k j))

pub opened_view : (w w' : List ℕ) (n at : ℕ) → length w' ≡ length w → Opened w w' n at → table w' (n + 1) ≡ opened (table w n) at
opened_view w w' n at l o =
    let t = table w n in
    let s : Segment = record { start = at; room = 0; words = []; used = true } in
    let c = count_is w n in
    table_by w' (n + 1) (opened t at) (l ∙ sym (lent_is w n)) (length-append t.segments (s ∷ []) ∙ omega (arith, c))
    (λ k h. ⊎_elim
    (λ (q : k ≡ n). rw q (entry_is w' n s o.place.0 o.place.1
    (sym (segs_at w' (n + 1) n (omega arith)) ∙ ap (λ (y : List (List ℕ)). get_or y n []) o.after ∙ last (segs w n) n [] [] (length_segs w n))
    (ap (λ (y : ℕ). eqb y 1) o.live) ∙ sym (last t.segments n s none c)))
    (λ (q : k ≢ n). let m : k < n = omega arith in
    entry_is w' k (entry w k) (o.places k m).0 (o.places k m).1
    (sym (segs_at w' (n + 1) k h) ∙ ap (λ (y : List (List ℕ)). get_or y k []) o.after ∙ get_or_append_left (segs w n) ([] ∷ []) [] k (omega (arith, length_segs w n)) ∙ segs_at w n k m)
    (ap (λ (y : ℕ). eqb y 1) (o.used k m)) ∙ sym (get_or_append_left t.segments (s ∷ []) none k (omega (arith, c)) ∙ nth_is w n k m))
    (cases_eq k n))
  where
    last : {X : Type 0} (xs : List X) (n : ℕ) (x d : X) → length xs ≡ n → get_or (xs ++ (x ∷ [])) n d ≡ x
    last xs n x d l = get_or-append_right xs (x ∷ []) n n d l (omega arith) ∙ (let z : n - n ≡ 0 = omega arith in rw z)

pub retired_view : (w w' : List ℕ) (n i m : ℕ) → length w' ≡ length w → Marked w w' n i 0 → m ≤ n →
    ((k : ℕ) → m ≤ k → k < n → mark w' k ≢ 1) → (m ≡ 0) ⊎ (mark w' (m - 1) ≡ 1) → Retired (table w n) (table w' m) i
retired_view w w' n i m l k b f e =
    let v : table w' n ≡ marked (table w n) i false = marked_view w w' n i l 0 k in
    record {
      lent = lent_is w' m ∙ l ∙ sym (lent_is w n);
      within = omega (arith, count_is w' m, count_is w n);
      before = λ j h. let jm : j < m = omega (arith, count_is w' m) in
          nth_is w' m j jm ∙ sym (nth_is w' n j (omega arith)) ∙ ap (λ (t : Table). nth t j) v;
      behind = λ j h. let jm : m ≤ j = omega (arith, count_is w' m) in sym (ap (λ (t : Table). (nth t j).used) v) ∙ (⊎_elim
          (λ (q : j < n). used_is w' n j q ∙ ne_eqb (mark w' j) 1 (f j jm q))
          (λ (q : n ≤ j). ap (λ (s : Segment). s.used) (past_is w' n j q))
          (cases_lt j n));
      last = ⊎_elim
          (λ (q : m ≡ 0). inl (count_is w' m ∙ q))
          (λ (q : m ≢ 0). ⊎_elim (λ (z : m ≡ 0). absurd (q z))
          (λ (z : mark w' (m - 1) ≡ 1). inr (rw (count_is w' m) (used_is w' m (m - 1) (omega arith) ∙ eq-eqb (mark w' (m - 1)) 1 z))) e)
          (cases_eq m 0);
    }

-- what is known of segment i of a table
pub record Here (w : List ℕ) (n : ℕ) (t : Table) (i : ℕ) : Type 0 where
  pub lt : i < n
  pub row : 8 * i + 7 < length w
  pub fits : size w i ≤ room w i
  pub inside : start w i + room w i ≤ length w
  pub above : 8 * n ≤ start w i
  pub size_at : size w i ≡ length (nth t i).words
  pub room_at : room w i ≡ (nth t i).room
  pub start_at : start w i ≡ (nth t i).start
  pub words_at : get_or (segs w n) i [] ≡ (nth t i).words

pub here : (w : List ℕ) (n : ℕ) (t : Table) (i : ℕ) → Good w n → table w n ≡ t → i < length t.segments → Here w n t i
here w n t i g e h =
    let l : i < n = let q : i < length (table w n).segments = rw (← e) at h in omega (arith, count_is w n) in
    record {
      lt = l;
      row = omega (arith, g.table);
      fits = g.fits i l;
      inside = g.below i l;
      above = g.above i l;
      size_at = rw e at (sym (size_is w n i l g));
      room_at = rw e at (sym (room_is w n i l));
      start_at = rw e at (sym (start_is w n i l));
      words_at = rw e at (segs_are w n i);
    }

-- a segment with words is there
pub here_by : (w : List ℕ) (n : ℕ) (t : Table) (i j : ℕ) → Good w n → table w n ≡ t → j < length (nth t i).words → Here w n t i
here_by w n t i j g e h = here w n t i g e (⊎_elim
    (λ (q : i < length t.segments). q)
    (λ (q : length t.segments ≤ i). absurd (omega (arith, ap (λ (s : Segment). length s.words) (nth_past t i q))))
    (cases_lt i (length t.segments)))
