-- Steps over words being expanded.
use Rattle.std.proofs.Common.{◌≡◌, ℕ, suc, ◌+◌, ◌<◌, ◌≤◌, Bool, true, false, List, [], ◌∷◌, ◌++◌, length, get_or, take, drop, set, sym, refl, ap, ◌∙◌, subst, arith}
use mathlib.Core.Option.{some, none}
use Rattle.std.proofs.lemmas.List.{append_assoc, length-append}
use Rattle.segments.specs.Layout.{need}
use Rattle.syntax.specs.Tree.{literal, parameter, substitution, no_parts, and_part, no_words, and_word, no_redirects}
use Rattle.code.specs.Layout.{flag}
use Rattle.meaning.specs.System.{QuotedByte, then_invoke, to_invoke, Control, at_words, at_redirects, Frame, f_handles}
use Rattle.meaning.specs.Words.{close_word, quote_bytes}
use Rattle.machine.specs.declared.process.Control.TheVariants.{AtWords, AtInvoke}
use Rattle.machine.specs.declared.process.Expansion.{Expansion}
use Rattle.machine.specs.declared.process.Process.{Process as Process'}
use Rattle.machine.specs.declared.frames.Frame.TheVariants.{Handles}
use Rattle.machine.specs.Frames.{words_of}
use Rattle.machine.proofs.Trees.{positive}
use Rattle.words.specs.Encoding.{at, encoded, coded, marked, plain, Bytes, mark, patterned, any_pattern}
use Rattle.machine.specs.Decide.{going, words_start}
use Rattle.machine.specs.Represent.{Rest, ControlRep, r_words, r_invoke, r_f_handles, Rep}
use Rattle.words.specs.Pushed.{Scarce}
use Rattle.machine.specs.Promises.{After, Beyond, no_parameter, no_substitution, no_pattern, Tight, tight_then}
use Rattle.machine.proofs.Places.{now_frames, now_words, kept_none, kept_set}
use Rattle.words.proofs.Texts.{coded_is, pattern_words, all_plain, small_quoted, small_append, small_push, small_last, encoded_append, marked_push}

-- the words with a literal behind them
opens : (q : Bool) (ds : List (List QuotedByte)) (bs : List ℕ) → marked ds ++ (512 ∷ coded (flag q) bs) ≡ marked (ds ++ (quote_bytes q bs ∷ []))
opens q ds bs = ap (λ z. marked ds ++ (512 ∷ z)) (coded_is q bs) ∙ sym (marked_push ds (quote_bytes q bs))

grows : (q : Bool) (ds : List (List QuotedByte)) (x : List QuotedByte) (bs : List ℕ) → marked (ds ++ (x ∷ [])) ++ coded (flag q) bs ≡ marked (ds ++ ((x ++ quote_bytes q bs) ∷ []))
grows q ds x bs = rw (coded_is q bs, marked_push ds x, marked_push ds (x ++ quote_bytes q bs), encoded_append x (quote_bytes q bs)) (append_assoc (marked ds) (512 ∷ encoded x) (encoded (quote_bytes q bs)))

flag_most : (q : Bool) → flag q ≤ 1
flag_most true = omega arith
flag_most false = omega arith

flag_same : (a b : Bool) → flag a ≡ flag b → a ≡ b
flag_same true true e = refl
flag_same true false e = absurd (omega arith)
flag_same false true e = absurd (omega arith)
flag_same false false e = refl

-- where the bytes of a literal stand
pub part_cell : (text code : List ℕ) (a : ℕ) {s : List ℕ} → s ≡ take (at code (a + 2 + 1)) (drop (at code (a + 2)) text) → s ≡ take (at code (a + 3)) (drop (at code (a + 2)) text)
part_cell text code a e = let z : a + 2 + 1 ≡ a + 3 = omega arith in rw z at e

-- the words being expanded with a part more
abbrev pub part_words : Expansion → Bool → List ℕ → List ℕ
part_words x q s = mark x.opened ++ coded (flag q) s

-- the words once that part is expanded
abbrev pub expanded : List ℕ → Expansion → Expansion
expanded code x = record { words = x.words; parts = at code x.parts; opened = true }

pub part_on : {text code : List ℕ} {number : ℕ → ℕ} {live : List Bool} {m m' : List (List ℕ)} {p : Process'} {r : Rest} {c : Control} {k : List Frame} (x : Expansion) (q : Bool) (s : List ℕ) → Bytes s → p.control ≡ AtWords x → (x.parts ≡ 0 → ⊥) → at code (x.parts + 1) ≡ flag q → s ≡ take (at code (x.parts + 3)) (drop (at code (x.parts + 2)) text) → m' ≡ set m (p.base + 1) (get_or m (p.base + 1) [] ++ part_words x q s) → Rep text code number live m p r c k → After text code number live m m' p r c k (going p (AtWords (expanded code x)))
part_on {text} {code} {number} {live} {m} {m'} {p} {r} {c} {k} x q s ty e z j d u h = go (rw e at h.control)
  where
    go : {c : Control} → ControlRep text code h.lists.words h.lists.text h.lists.line (AtWords x) c → After text code number live m m' p r c k (going p (AtWords (expanded code x)))
    go (r_words {v = no_parts} w t l i v f g) = absurd (z g)
    go (r_words {sp = sp} {ws = ws} {v = and_part (literal y bs) v} {o = none} {ds = ds} w t l i b f g) =
        let n : Bytes bs = subst Bytes (d ∙ g.1.1) ty in
        let a : q ≡ y = flag_same q y (sym j ∙ g.1.0) in
        let d : s ≡ bs = d ∙ g.1.1 in
        record { c' = _; k' = k; steps_to = λ s. refl; rep = record { lists = record { frames = h.lists.frames; words = marked (ds ++ (quote_bytes y bs ∷ [])); text = h.lists.text; line = h.lists.line }; has = now_words (λ z. z ++ part_words x q s) u (rw (w, i, a, d) (opens y ds bs)) h.has; control = r_words {sp = sp} {o = some (quote_bytes y bs)} refl t l refl (small_push ds (quote_bytes y bs) b (small_quoted y bs n)) f g.2; frames = h.frames; status = h.status; functions = h.functions }; kept = rw u (kept_set (p.base + 1) _ (omega arith) (omega arith)); base = refl }
    go (r_words {sp = sp} {ws = ws} {v = and_part (literal y bs) v} {o = some o} {ds = ds} w t l i b f g) =
        let n : Bytes bs = subst Bytes (d ∙ g.1.1) ty in
        let a : q ≡ y = flag_same q y (sym j ∙ g.1.0) in
        let d : s ≡ bs = d ∙ g.1.1 in
        let sl = small_last ds o b in
        record { c' = _; k' = k; steps_to = λ s. refl; rep = record { lists = record { frames = h.lists.frames; words = marked (ds ++ ((o ++ quote_bytes y bs) ∷ [])); text = h.lists.text; line = h.lists.line }; has = now_words (λ z. z ++ part_words x q s) u (rw (w, i, a, d) (grows y ds o bs)) h.has; control = r_words {sp = sp} {o = some (o ++ quote_bytes y bs)} refl t l refl (small_push ds (o ++ quote_bytes y bs) sl.0 (small_append o (quote_bytes y bs) sl.1 (small_quoted y bs n))) f g.2; frames = h.frames; status = h.status; functions = h.functions }; kept = rw u (kept_set (p.base + 1) _ (omega arith) (omega arith)); base = refl }
    go (r_words {v = and_part (parameter y n) v} w t l i b f g) = absurd (omega (arith, g.1.0, j, flag_most q))
    go (r_words {v = and_part (substitution y n) v} w t l i b f g) = absurd (omega (arith, g.1.0, j, flag_most q))

quoted_length : (q : Bool) (bs : List ℕ) → length (quote_bytes q bs) ≡ length bs
quoted_length q [] = refl
quoted_length q (b ∷ bs) = ap suc (quoted_length q bs)

coded_length : (f : ℕ) (bs : List ℕ) → length (coded f bs) ≡ length bs
coded_length f [] = refl
coded_length f (b ∷ bs) = ap suc (coded_length f bs)

mark_length : (o : Bool) (f : ℕ) (bs : List ℕ) → length (mark o ++ coded f bs) ≤ length bs + 1
mark_length true f bs = omega (arith, coded_length f bs)
mark_length false f bs = omega (arith, coded_length f bs)

pub part_tight : {text code : List ℕ} {number : ℕ → ℕ} {b : ℕ × List Bool} {m : List (List ℕ)} {p : Process'} {r : Rest} {c : Control} {k : List Frame} (x : Expansion) (q : Bool) (s : List ℕ) → p.control ≡ AtWords x → (x.parts ≡ 0 → ⊥) → at code (x.parts + 1) ≡ flag q → s ≡ take (at code (x.parts + 3)) (drop (at code (x.parts + 2)) text) → (get_or b.1 (p.base + 1) false ≡ true → Scarce b (need m + length (part_words x q s))) → Rep text code number b.1 m p r c k → Tight b m number p r c k
part_tight {text} {code} {number} {b} {m} {p} {r} {c} {k} x q s e z j d u h = go (rw e at h.control)
  where
    go : {c : Control} → ControlRep text code h.lists.words h.lists.text h.lists.line (AtWords x) c → Tight b m number p r c k
    go (r_words {v = no_parts} w t l i v f g) = absurd (z g)
    go (r_words {sp = sp} {ws = ws} {v = and_part (literal y bs) v} {o = none} {ds = ds} w t l i v' f g) = tight_then (length (part_words x q s)) p (at_words (record { words = ws; parts = v; current = some (quote_bytes y bs); complete = ds; split = sp }) (to_invoke no_redirects)) k (λ s. refl) (u h.has.live1) (omega (arith, mark_length x.opened (flag q) s, ap length (d ∙ g.1.1), quoted_length y bs))
    go (r_words {sp = sp} {ws = ws} {v = and_part (literal y bs) v} {o = some o} {ds = ds} w t l i v' f g) = tight_then (length (part_words x q s)) p (at_words (record { words = ws; parts = v; current = some (o ++ quote_bytes y bs); complete = ds; split = sp }) (to_invoke no_redirects)) k (λ s. refl) (u h.has.live1) (omega (arith, mark_length x.opened (flag q) s, ap length (d ∙ g.1.1), quoted_length y bs, length-append o (quote_bytes y bs)))
    go (r_words {v = and_part (parameter y n) v} w t l i v' f g) = absurd (omega (arith, g.1.0, j, flag_most q))
    go (r_words {v = and_part (substitution y n) v} w t l i v' f g) = absurd (omega (arith, g.1.0, j, flag_most q))

pub part_beyond : {text code : List ℕ} {number : ℕ → ℕ} {live : List Bool} {m : List (List ℕ)} {p : Process'} {r : Rest} {c : Control} {k : List Frame} (x : Expansion) → p.control ≡ AtWords x → (x.parts ≡ 0 → ⊥) → 1 < at code (x.parts + 1) → Rep text code number live m p r c k → Beyond c
part_beyond {text} {code} x e z q h = go (rw e at h.control)
  where
    go : {c : Control} → ControlRep text code h.lists.words h.lists.text h.lists.line (AtWords x) c → Beyond c
    go (r_words {v = no_parts} w t l i s f g) = absurd (z g)
    go (r_words {v = and_part (literal a bs) v} w t l i s f g) = absurd (omega (arith, g.1.0, flag_most a))
    go (r_words {v = and_part (parameter a n) v} w t l i s f g) = no_parameter
    go (r_words {v = and_part (substitution a n) v} w t l i s f g) = no_substitution

pub next_on : {text code : List ℕ} {number : ℕ → ℕ} {live : List Bool} {m : List (List ℕ)} {p : Process'} {r : Rest} {c : Control} {k : List Frame} (x : Expansion) → p.control ≡ AtWords x → x.parts ≡ 0 → (x.words ≡ 0 → ⊥) → Rep text code number live m p r c k → After text code number live m m p r c k (going p (AtWords (words_start code x.words)))
next_on {text} {code} {number} {live} {m} {p} {r} {c} {k} x e y z h = go (rw e at h.control)
  where
    go : {c : Control} → ControlRep text code h.lists.words h.lists.text h.lists.line (AtWords x) c → After text code number live m m p r c k (going p (AtWords (words_start code x.words)))
    go (r_words {ws = no_words} {v = no_parts} w t l i s f g) = absurd (z f)
    go (r_words {ws = and_word n ws} {v = no_parts} w t l i s f g) = rw (positive x.words f.0) (record { c' = _; k' = k; steps_to = λ s. refl; rep = record { lists = h.lists; has = h.has; control = r_words {o = none} w t l refl s f.2 f.1; frames = h.frames; status = h.status; functions = h.functions }; kept = kept_none; base = refl })
    go (r_words {v = and_part n v} w t l i s f g) = absurd (omega (arith, g.0))

pub pattern_beyond : {text code : List ℕ} {number : ℕ → ℕ} {live : List Bool} {m : List (List ℕ)} {p : Process'} {r : Rest} {c : Control} {k : List Frame} (x : Expansion) → p.control ≡ AtWords x → x.parts ≡ 0 → x.words ≡ 0 → patterned (get_or m (p.base + 1) []) ≡ true → Rep text code number live m p r c k → Beyond c
pattern_beyond {text} {code} x e y z q h = go (rw e at h.control)
  where
    go : {c : Control} → ControlRep text code h.lists.words h.lists.text h.lists.line (AtWords x) c → Beyond c
    go (r_words {ws = no_words} {v = no_parts} {o = d} {ds = ds} w t l i s f g) = no_pattern (sym (pattern_words (close_word d ds)) ∙ sym (ap patterned (h.has.words ∙ w)) ∙ q)
    go (r_words {ws = and_word n ws} {v = no_parts} w t l i s f g) = absurd (omega (arith, f.0))
    go (r_words {v = and_part n v} w t l i s f g) = absurd (omega (arith, g.0))

pub expanded_on : {text code : List ℕ} {number : ℕ → ℕ} {live : List Bool} {m m' : List (List ℕ)} {p : Process'} {r : Rest} {c : Control} {k : List Frame} (x : Expansion) → p.control ≡ AtWords x → x.parts ≡ 0 → x.words ≡ 0 → patterned (get_or m (p.base + 1) []) ≡ false → m' ≡ set m p.base (get_or m p.base [] ++ words_of (Handles p.stdin p.stdout)) → Rep text code number live m p r c k → After text code number live m m' p r c k (going p AtInvoke)
expanded_on {text} {code} {number} {live} {m} {m'} {p} {r} {c} {k} x e y z q u h = go (rw e at h.control)
  where
    go : {c : Control} → ControlRep text code h.lists.words h.lists.text h.lists.line (AtWords x) c → After text code number live m m' p r c k (going p AtInvoke)
    go (r_words {ws = no_words} {v = no_parts} {o = d} {ds = ds} w t l i s f g) =
        let n : any_pattern (close_word d ds) ≡ false = sym (pattern_words (close_word d ds)) ∙ sym (ap patterned (h.has.words ∙ w)) ∙ q in
        record { c' = at_redirects no_redirects (then_invoke (plain (close_word d ds))); k' = f_handles (number p.stdin) (number p.stdout) ∷ k; steps_to = λ s. rw (all_plain s.files (close_word d ds) n); rep = record { lists = record { frames = h.lists.frames ++ (p.stdin ∷ p.stdout ∷ 2 ∷ []); words = h.lists.words; text = h.lists.text; line = h.lists.line }; has = now_frames (λ z. z ++ words_of (Handles p.stdin p.stdout)) u refl h.has; control = r_invoke (close_word d ds) w t l s; frames = (h.lists.frames, p.stdin, p.stdout, 2, Handles p.stdin p.stdout, refl, refl, r_f_handles p.stdin p.stdout, h.frames); status = h.status; functions = h.functions }; kept = rw u (kept_set p.base _ (omega arith) (omega arith)); base = refl }
    go (r_words {ws = and_word n ws} {v = no_parts} w t l i s f g) = absurd (omega (arith, f.0))
    go (r_words {v = and_part n v} w t l i s f g) = absurd (omega (arith, g.0))
