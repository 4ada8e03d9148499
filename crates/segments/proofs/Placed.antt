-- A segment of a table that is now another.
use Rattle.std.proofs.Common.{◌≡◌, ℕ, ◌<◌, ◌≤◌, false, ◌≢◌, List, [], map, length, get_or, set, sym, ap, ◌∙◌, ⊎_elim, arith}
use Rattle.std.proofs.lemmas.List.{get_or-set_same, get_or-set_other, get_or_past, length-map, map-set, get_or-map, set-get_or}
use Rattle.std.proofs.lemmas.Bool.{cases_lt}
use Rattle.segments.specs.Table.{Segment, Table, none, nth, segs, marks, placed, written}

pub nth_same : (t : Table) (i : ℕ) (s : Segment) → i < length t.segments → nth (placed t i s) i ≡ s
nth_same t i s h = get_or-set_same t.segments i s none h

pub nth_other : (t : Table) (i k : ℕ) (s : Segment) → k ≢ i → nth (placed t i s) k ≡ nth t k
nth_other t i k s ne = get_or-set_other t.segments i k s none ne

pub nth_past : (t : Table) (i : ℕ) → length t.segments ≤ i → nth t i ≡ none
nth_past t i h = get_or_past t.segments i none h

pub segs_at : (t : Table) (i : ℕ) → get_or (segs t) i [] ≡ (nth t i).words
unfolding segs
segs_at t i = ⊎_elim
    (λ (h : i < length t.segments). get_or-map (λ (s : Segment). s.words) t.segments i none [] h)
    (λ (h : length t.segments ≤ i). get_or_past (map (λ (s : Segment). s.words) t.segments) i [] (omega (arith, length-map t.segments (λ (s : Segment). s.words))) ∙
    sym (ap (λ (s : Segment). s.words) (nth_past t i h)))
    (cases_lt i (length t.segments))

pub marks_at : (t : Table) (i : ℕ) → get_or (marks t) i false ≡ (nth t i).used
unfolding marks
marks_at t i = ⊎_elim
    (λ (h : i < length t.segments). get_or-map (λ (s : Segment). s.used) t.segments i none false h)
    (λ (h : length t.segments ≤ i). get_or_past (map (λ (s : Segment). s.used) t.segments) i false (omega (arith, length-map t.segments (λ (s : Segment). s.used))) ∙
    sym (ap (λ (s : Segment). s.used) (nth_past t i h)))
    (cases_lt i (length t.segments))

pub length_segs : (t : Table) → length (segs t) ≡ length t.segments
unfolding segs
length_segs t = length-map t.segments (λ (s : Segment). s.words)

pub length_marks : (t : Table) → length (marks t) ≡ length t.segments
unfolding marks
length_marks t = length-map t.segments (λ (s : Segment). s.used)

pub segs_placed : (t : Table) (i : ℕ) (s : Segment) → segs (placed t i s) ≡ set (segs t) i s.words
unfolding segs
segs_placed t i s = map-set (λ (s : Segment). s.words) t.segments i s

pub marks_placed : (t : Table) (i : ℕ) (s : Segment) → marks (placed t i s) ≡ set (marks t) i s.used
unfolding marks
marks_placed t i s = map-set (λ (s : Segment). s.used) t.segments i s

-- a segment with the same words, or as much in use
pub segs_kept : (t : Table) (i : ℕ) (s : Segment) → s.words ≡ (nth t i).words → segs (placed t i s) ≡ segs t
segs_kept t i s e = segs_placed t i s ∙ ap (set (segs t) i) (e ∙ sym (segs_at t i)) ∙ set-get_or (segs t) i []

pub marks_kept : (t : Table) (i : ℕ) (s : Segment) → s.used ≡ (nth t i).used → marks (placed t i s) ≡ marks t
marks_kept t i s e = marks_placed t i s ∙ ap (set (marks t) i) (e ∙ sym (marks_at t i)) ∙ set-get_or (marks t) i false

-- nothing changes
pub written_same : (t : Table) (i : ℕ) (x : List ℕ) → x ≡ (nth t i).words → t ≡ written t i x
written_same t i x e = rw e (sym (ap (λ (y : List Segment). record { lent = t.lent; segments = y }) (set-get_or t.segments i none)))

pub words_same : (t u : Table) (k : ℕ) → segs t ≡ segs u → (nth t k).words ≡ (nth u k).words
words_same t u k e = sym (segs_at t k) ∙ ap (λ (y : List (List ℕ)). get_or y k []) e ∙ segs_at u k
