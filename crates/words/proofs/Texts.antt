-- Words and text, encoded.
use Rattle.std.proofs.Common.{◌≡◌, ℕ, zero, suc, ◌+◌, ◌-◌, ◌*◌, ◌%◌, ◌<◌, ◌≤◌, min, Bool, true, false, not, ◌&&◌, ◌||◌, eqb, leb, List, [], ◌∷◌, ◌++◌, length, get_or, take, drop, Ok, Result, sym, refl, ap, ◌∙◌, ⊎_elim, arith}
use Rattle.std.proofs.lemmas.List.{append_assoc, append-nil, length-append, drop_more, take_more, drop_all, length-drop, get_or-set_other, drop_at, take_all, length-take, get_or-take}
use Rattle.std.proofs.lemmas.Bool.{cases_lt, lt-leb, ne_eqb}
use Rattle.syntax.specs.Base.{pick}
use Rattle.code.specs.Layout.{flag}
use Rattle.meaning.specs.System.{QuotedByte, File}
use Rattle.meaning.specs.Words.{bytes_of, quote_bytes, has_pattern, all_pathnames, join_words}
use Rattle.words.specs.Encoding.{encoded, coded, marked, plain, Bytes, Small, AllSmall, patterned, any_pattern, shown, rev, word_length, second}
use Rattle.store.specs.declared.Refusal.{Refusal}
use Rattle.store.specs.declared.Store.{Store}
use Rattle.store.specs.Held.{model}
use Rattle.words.specs.Pushed.{Pushed}
use Rattle.words.proofs.Pushes.{push_more, differ}

-- literals
coded_append : (q : ℕ) (xs ys : List ℕ) → coded q (xs ++ ys) ≡ coded q xs ++ coded q ys
coded_append q [] ys = refl
coded_append q (x ∷ xs) ys = ap (λ z. (x + 256 * q) ∷ z) (coded_append q xs ys)

coded_length : (q : ℕ) (xs : List ℕ) → length (coded q xs) ≡ length xs
coded_length q [] = refl
coded_length q (x ∷ xs) = ap suc (coded_length q xs)

pub coded_is : (q : Bool) (bs : List ℕ) → coded (flag q) bs ≡ encoded (quote_bytes q bs)
coded_is q [] = refl
coded_is q (b ∷ bs) = ap (λ z. (b + 256 * flag q) ∷ z) (coded_is q bs)

pub coded_next : {s s₁ s₂ : Store} {i : ℕ} (q : ℕ) (bs : List ℕ) (k : ℕ) {u : Unit {0}} {r : Result (Unit {0}) Refusal} → k < length bs → Pushed s s₁ i (coded q (take k bs)) (Ok u) → Pushed s₁ s₂ i ((get_or bs k 0 + 256 * q) ∷ []) r → Pushed s s₂ i (coded q (take (k + 1) bs)) r
coded_next q bs k l e f = rw (take_more bs k 0 l, coded_append q (take k bs) (get_or bs k 0 ∷ [])) (push_more e f)

pub coded_short : (q : ℕ) (bs : List ℕ) (k : ℕ) → length (coded q (take k bs)) ≤ length (coded q bs)
coded_short q bs k = omega (arith, coded_length q (take k bs), coded_length q bs, shorter k bs)
  where
    shorter : (k : ℕ) (bs : List ℕ) → length (take k bs) ≤ length bs
    shorter zero bs = omega arith
    shorter (suc k) [] = omega arith
    shorter (suc k) (b ∷ bs) = omega (arith, shorter k bs)

or_assoc : (a b d : Bool) → ((a || b) || d) ≡ (a || (b || d))
or_assoc true b d = refl
or_assoc false b d = refl

one_pattern : (c : QuotedByte) → (eqb (c.byte + 256 * flag c.quoted) 42 || eqb (c.byte + 256 * flag c.quoted) 63) ≡ (not c.quoted && (eqb c.byte 42 || eqb c.byte 63))
one_pattern c = by c.byte c.quoted
  where
    by : (b : ℕ) (q : Bool) → (eqb (b + 256 * flag q) 42 || eqb (b + 256 * flag q) 63) ≡ (not q && (eqb b 42 || eqb b 63))
    by b true = rw (ne_eqb (b + 256 * 1) 42 (λ e. omega arith), ne_eqb (b + 256 * 1) 63 (λ e. omega arith))
    by b false = let e : b + 256 * 0 ≡ b = omega arith in rw e

pattern_append : (d : List QuotedByte) (r : List ℕ) → patterned (encoded d ++ r) ≡ (has_pattern d || patterned r)
pattern_append [] r = refl
pattern_append (c ∷ d) r = rw (one_pattern c, pattern_append d r) (sym (or_assoc (not c.quoted && (eqb c.byte 42 || eqb c.byte 63)) (has_pattern d) (patterned r)))

pub pattern_words : (ds : List (List QuotedByte)) → patterned (marked ds) ≡ any_pattern ds
pattern_words [] = refl
pattern_words (d ∷ ds) = pattern_append d (marked ds) ∙ ap (λ z. has_pattern d || z) (pattern_words ds)

-- words without patterns stand for themselves
pub all_plain : (fs : List File) (ds : List (List QuotedByte)) → any_pattern ds ≡ false → all_pathnames fs ds ≡ plain ds
all_plain fs [] e = refl
all_plain fs (d ∷ ds) e = let h = neither (has_pattern d) (any_pattern ds) e in rw h.0 (ap (λ z. bytes_of d ∷ z) (all_plain fs ds h.1))
  where
    neither : (a b : Bool) → (a || b) ≡ false → (a ≡ false) × (b ≡ false)
    neither true b h = absurd (differ h)
    neither false b h = (refl, h)

-- bytes
pub all_bytes : (s : List ℕ) → ((i : ℕ) → get_or s i 0 < 256) → Bytes s
all_bytes [] h = tt
all_bytes (b ∷ s) h = (h 0, all_bytes s (λ i. h (suc i)))

pub small_quoted : (q : Bool) (s : List ℕ) → Bytes s → Small (quote_bytes q s)
small_quoted q [] h = tt
small_quoted q (b ∷ s) h = (h.0, small_quoted q s h.1)

pub small_append : (f g : List QuotedByte) → Small f → Small g → Small (f ++ g)
small_append [] g p q = q
small_append (c ∷ f) g p q = (p.0, small_append f g p.1 q)

pub small_push : (ds : List (List QuotedByte)) (f : List QuotedByte) → AllSmall ds → Small f → AllSmall (ds ++ (f ∷ []))
small_push [] f t p = (p, tt)
small_push (d ∷ ds) f t p = (t.0, small_push ds f t.1 p)

pub small_last : (ds : List (List QuotedByte)) (f : List QuotedByte) → AllSmall (ds ++ (f ∷ [])) → AllSmall ds × Small f
small_last [] f t = (tt, t.0)
small_last (d ∷ ds) f t = let r = small_last ds f t.1 in ((t.0, r.0), r.1)

-- marks
pub encoded_append : (f g : List QuotedByte) → encoded (f ++ g) ≡ encoded f ++ encoded g
encoded_append [] g = refl
encoded_append (c ∷ f) g = ap (λ z. (c.byte + 256 * flag c.quoted) ∷ z) (encoded_append f g)

pub marked_push : (ds : List (List QuotedByte)) (f : List QuotedByte) → marked (ds ++ (f ∷ [])) ≡ marked ds ++ (512 ∷ encoded f)
marked_push [] f = ap (λ z. 512 ∷ z) (append-nil (encoded f))
marked_push (d ∷ ds) f = ap (λ z. 512 ∷ z) (ap (λ z. encoded d ++ z) (marked_push ds f) ∙ sym (append_assoc (encoded d) (marked ds) (512 ∷ encoded f)))

-- a line, its last byte first
pub rev_length : (bs : List ℕ) → length (rev bs) ≡ length bs
rev_length [] = refl
rev_length (b ∷ bs) = omega (arith, length-append (rev bs) (b ∷ []), rev_length bs)

pub shown_length : (bs : List ℕ) → length (shown bs) ≡ length bs
shown_length [] = refl
shown_length (b ∷ bs) = ap suc (shown_length bs)

pub rev_push : (xs : List ℕ) (b : ℕ) → rev (xs ++ (b ∷ [])) ≡ b ∷ rev xs
rev_push [] b = refl
rev_push (x ∷ xs) b = ap (λ z. z ++ (x ∷ [])) (rev_push xs b)

-- a list that another's pushes leave as it is
pub left_alone : {s s₁ : Store} {i j : ℕ} {y : List ℕ} {u : Unit {0}} → j < i → Pushed s s₁ i y (Ok u) → get_or (model s₁) j [] ≡ get_or (model s) j []
left_alone {s} {i = i} {j = j} {y = y} l p = ap (λ z. get_or z j []) p.ok ∙ get_or-set_other (model s) i j (get_or (model s) i [] ++ y) [] (omega arith)

-- the part of a list from j up to n
abbrev pub span : List ℕ → ℕ → ℕ → List ℕ
span V j n = drop j (take n V)

pub span_none : (V : List ℕ) (n : ℕ) → span V n n ≡ []
span_none V n = drop_all n (take n V) (omega (arith, length-take n V))

pub span_length : (V : List ℕ) (i j n : ℕ) → i ≤ j → length (rev (shown (span V j n))) ≤ length (rev (shown (span V i n)))
span_length V i j n h = omega (arith, rev_length (shown (span V j n)), shown_length (span V j n), length-drop j (take n V), rev_length (shown (span V i n)), shown_length (span V i n), length-drop i (take n V))

pub back_on : {s s₁ s₂ : Store} {f t : ℕ} (j n w v : ℕ) {u : Unit {0}} {r : Result (Unit {0}) Refusal} → f < t → 0 < j → j ≤ n → n ≤ length (get_or (model s) f []) → w ≡ get_or (get_or (model s₁) f []) (j - 1) 0 → v ≡ pick (leb 512 w) 32 (w % 256) → Pushed s s₁ t (rev (shown (span (get_or (model s) f []) j n))) (Ok u) → Pushed s₁ s₂ t (v ∷ []) r → Pushed s s₂ t (rev (shown (span (get_or (model s) f []) (j - 1) n))) r
back_on {s} {f = f} j n w v o z l k d e p q =
    let g : j - 1 + 1 ≡ j = omega arith in
    let y : w ≡ get_or (take n (get_or (model s) f [])) (j - 1) 0 = d ∙ ap (λ z. get_or z (j - 1) 0) (left_alone o p) ∙ sym (get_or-take n (get_or (model s) f []) (j - 1) 0 (omega arith)) in
    rw (drop_more (take n (get_or (model s) f [])) (j - 1) 0 (omega (arith, length-take n (get_or (model s) f []))), g, ← y, ← e) (push_more p q)

pub line_on : {s s₁ s₂ : Store} {f t : ℕ} (i n : ℕ) {u : Unit {0}} {r : Result (Unit {0}) Refusal} → f < t → Pushed s s₁ t (10 ∷ []) (Ok u) → Pushed s₁ s₂ t (rev (shown (span (get_or (model s₁) f []) i n))) r → Pushed s s₂ t (rev (shown (span (get_or (model s) f []) i n) ++ (10 ∷ []))) r
line_on {s} {f = f} i n o p q = rw (rev_push (shown (span (get_or (model s) f []) i n)) 10, ← left_alone o p) (push_more p q)

pub line_length : (V : List ℕ) (i n : ℕ) → 1 ≤ length (rev (shown (span V i n) ++ (10 ∷ [])))
line_length V i n = omega (arith, rev_length (shown (span V i n) ++ (10 ∷ [])), length-append (shown (span V i n)) (10 ∷ []))

pub low : (b : ℕ) (q : Bool) → b < 256 → leb 512 (b + 256 * flag q) ≡ false
low b true h = lt-leb 512 (b + 256 * 1) (omega arith)
low b false h = lt-leb 512 (b + 256 * 0) (omega arith)

pub byte_is : (b : ℕ) (q : Bool) → b < 256 → (b + 256 * flag q) % 256 ≡ b
byte_is b true h = omega arith
byte_is b false h = omega arith

pub encoded_length : (x : List QuotedByte) → length (encoded x) ≡ length x
encoded_length [] = refl
encoded_length (c ∷ x) = ap suc (encoded_length x)

pub word_is : (x : List QuotedByte) (ds : List (List QuotedByte)) → Small x → word_length (encoded x ++ marked ds) ≡ length x
word_is [] [] s = refl
word_is [] (d ∷ ds) s = refl
word_is (c ∷ x) ds s = rw (low c.byte c.quoted s.0, word_is x ds s.1) (omega arith)

-- the words behind the first
pub behind : (x : List QuotedByte) (ds : List (List QuotedByte)) → Small x → drop (second (marked (x ∷ ds))) (marked (x ∷ ds)) ≡ marked ds
behind x ds s =
    let e : second (marked (x ∷ ds)) ≡ suc (length (encoded x)) = ap (λ z. 1 + z) (word_is x ds s ∙ sym (encoded_length x)) ∙ omega arith in
    rw e (drop_at (encoded x) (marked ds) (length (encoded x)) refl)

shown_word : (d : List QuotedByte) (r : List ℕ) → Small d → shown (encoded d ++ r) ≡ bytes_of d ++ shown r
shown_word [] r s = refl
shown_word (c ∷ d) r s = rw (low c.byte c.quoted s.0, byte_is c.byte c.quoted s.0, shown_word d r s.1)

pub shown_words : (es : List (List QuotedByte)) → AllSmall es → shown (drop 1 (marked es)) ≡ join_words (plain es)
shown_words [] t = refl
shown_words (e ∷ []) t = shown_word e [] t.0 ∙ append-nil (bytes_of e)
shown_words (e ∷ f ∷ es) t = shown_word e (512 ∷ (encoded f ++ marked es)) t.0 ∙ ap (λ z. bytes_of e ++ (32 ∷ z)) (shown_words (f ∷ es) t.1)

shown_byte : (b : Bool) (w : ℕ) → pick b 32 (w % 256) < 256
shown_byte true w = omega arith
shown_byte false w = omega arith

pub line_bytes : (V : List ℕ) → Bytes (shown V ++ (10 ∷ []))
line_bytes [] = (omega arith, tt)
line_bytes (w ∷ V) = (shown_byte (leb 512 w) w, line_bytes V)

-- a span from i or the end on
pub span_from : (V : List ℕ) (i : ℕ) → span V (min i (length V)) (length V) ≡ drop i V
span_from V i = ap (λ z. drop (min i (length V)) z) (take_all (length V) V (omega arith)) ∙ ⊎_elim
    (λ (h : i < length V). ap (λ j. drop j V) (omega arith))
    (λ (h : length V ≤ i). drop_all (min i (length V)) V (omega arith) ∙ sym (drop_all i V h))
    (cases_lt i (length V))

-- the words behind the first mark, as a slice has them
pub tail_is : (V W : List ℕ) → V ≡ W → take (length V - 1) (drop 1 V) ≡ drop 1 W
tail_is V W e = take_all (length V - 1) (drop 1 V) (omega (arith, length-drop 1 V)) ∙ ap (drop 1) e

pub rest_is : (V W : List ℕ) (i : ℕ) → V ≡ W → take (length V - i) (drop i V) ≡ drop i W
rest_is V W i e = take_all (length V - i) (drop i V) (omega (arith, length-drop i V)) ∙ ap (drop i) e
