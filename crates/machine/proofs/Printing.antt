-- Printing, and a builtin between prints.
use Rattle.std.proofs.Common.{◌≡◌, ℕ, suc, ◌+◌, ◌-◌, ◌%◌, ◌<◌, ◌≤◌, min, Bool, true, false, List, [], ◌∷◌, ◌++◌, length, get_or, take, set, refl, ap, ◌∙◌, arith}
use Rattle.std.proofs.lemmas.Bool.{lt-leb, le-leb}
use Rattle.std.proofs.lemmas.List.{length-append, get_or_at, take_at}
use Rattle.meaning.specs.System.{Control, b_print, b_seq, b_yes, at_builtin, at_status, Frame}
use Rattle.machine.specs.declared.process.Builtin.{Builtin as Builtin'}
use Rattle.machine.specs.declared.process.Builtin.TheVariants.{Done, Seq, Yes}
use Rattle.machine.specs.declared.process.Control.TheVariants.{AtPrint, AtBuiltin, AtStatus}
use Rattle.machine.specs.declared.process.Process.{Process as Process'}
use Rattle.words.specs.Encoding.{rev}
use Rattle.machine.specs.Decide.{going}
use Rattle.machine.specs.Represent.{Rest, abstract, ControlRep, r_print, r_builtin, r_status, r_done, r_seq, r_yes, Rep}
use Rattle.words.specs.Pushed.{Scarce}
use Rattle.machine.specs.Promises.{After, Printed, Filled, Tight, tight_now, tight_then}
use Rattle.machine.proofs.Places.{now_text, kept_none, kept_set}
use Rattle.segments.specs.Layout.{need}
use Rattle.meaning.specs.Words.{decimal, as_line}
use Rattle.words.proofs.Texts.{rev_length}
use Rattle.machine.proofs.Decimals.{bytes_decimal}

pub print_none : {text code : List ℕ} {number : ℕ → ℕ} {live : List Bool} {m : List (List ℕ)} {p : Process'} {r : Rest} {c : Control} {k : List Frame} (v : Builtin') → p.control ≡ AtPrint v → length (get_or m (p.base + 2) []) ≡ 0 → Rep text code number live m p r c k → After text code number live m m p r c k (going p (AtBuiltin v))
print_none {text} {code} {number} {live} {m} {p} {r} {k = k} v e z h = go (rw e at h.control)
  where
    go : {c : Control} → ControlRep text code h.lists.words h.lists.text h.lists.line (AtPrint v) c → After text code number live m m p r c k (going p (AtBuiltin v))
    go (r_print {u = u} [] w t b d) = record { c' = at_builtin u; k' = k; steps_to = λ s. refl; rep = record { lists = h.lists; has = h.has; control = r_builtin w t d; frames = h.frames; status = h.status; functions = h.functions }; kept = kept_none; base = refl }
    go (r_print (x ∷ bs) w t b d) = absurd (omega (arith, ap length (h.has.text ∙ t), rev_length (x ∷ bs)))

last_word : (r : List ℕ) (b n : ℕ) → n ≡ length (r ++ (b ∷ [])) → (get_or (r ++ (b ∷ [])) (n - 1) 0 ≡ b) × (take (n - 1) (r ++ (b ∷ [])) ≡ r)
last_word r b n e = let l : length r ≡ n - 1 = omega (arith, length-append r (b ∷ [])) in (get_or_at r b [] 0 (n - 1) l, take_at r (b ∷ []) (n - 1) l)

pub print_byte : {text code : List ℕ} {number : ℕ → ℕ} {live : List Bool} {m m' : List (List ℕ)} {o o' : List ℕ} {place : ℕ} {p : Process'} {r : Rest} {c : Control} {k : List Frame} (v : Builtin') (n x : ℕ) → p.control ≡ AtPrint v → n ≡ length (get_or m (p.base + 2) []) → (n ≡ 0 → ⊥) → x ≡ get_or (get_or m (p.base + 2) []) (n - 1) 0 → m' ≡ set m (p.base + 2) (take (n - 1) (get_or m (p.base + 2) [])) → p.stdout ≡ 1 → place < length o → o' ≡ set o place (x % 256) → Rep text code number live m p r c k → Printed text code number live m m' o o' place p r c k p
print_byte {text} {code} {number} {live} {m} {m'} {o} {o'} {place} {p} {r} {k = k} v n x e l z f u y₁ i q h = go (rw e at h.control)
  where
    go : {c : Control} → ControlRep text code h.lists.words h.lists.text h.lists.line (AtPrint v) c → Printed text code number live m m' o o' place p r c k p
    go (r_print [] w t b d) = absurd (z (l ∙ ap length (h.has.text ∙ t)))
    go (r_print {u = y} (a ∷ bs) w t b d) =
        let s : get_or m (p.base + 2) [] ≡ rev bs ++ (a ∷ []) = h.has.text ∙ t in
        let j = last_word (rev bs) a n (l ∙ ap length s) in
        let g : x ≡ a = f ∙ ap (λ z. get_or z (n - 1) 0) s ∙ j.0 in
        let w₁ : x % 256 ≡ a = rw g (omega (arith, b.0)) in
        record { c' = at_builtin (b_print bs y); k' = k; byte = a; steps_to = λ s h. rw h; rep = record { lists = record { frames = h.lists.frames; words = h.lists.words; text = rev bs; line = h.lists.line }; has = now_text (λ z. take (n - 1) z) u (ap (λ z. take (n - 1) z) t ∙ j.1) h.has; control = rw e (r_print bs w refl b.1 d); frames = h.frames; status = h.status; functions = h.functions }; kept = rw u (kept_set (p.base + 2) _ (omega arith) (omega arith)); base = refl; output = y₁; inside = i; paper = rw w₁ at q }

pub print_full : {text code : List ℕ} {number : ℕ → ℕ} {live : List Bool} {m : List (List ℕ)} {o : List ℕ} {place : ℕ} {p : Process'} {r : Rest} {c : Control} {k : List Frame} (v : Builtin') → p.control ≡ AtPrint v → (length (get_or m (p.base + 2) []) ≡ 0 → ⊥) → p.stdout ≡ 1 → length o ≤ place → Rep text code number live m p r c k → Filled number o place p r c k
print_full {text} {code} {number} {o = o} {place = place} {p = p} {r = r} {k = k} v e z y₁ i h = go (rw e at h.control)
  where
    go : {c : Control} → ControlRep text code h.lists.words h.lists.text h.lists.line (AtPrint v) c → Filled number o place p r c k
    go (r_print [] w t b d) = absurd (z (ap length (h.has.text ∙ t)))
    go (r_print {u = y} (a ∷ bs) w t b d) = record { w' = abstract number p r (at_builtin (b_print bs y)) k; byte = a; steps_to = λ s h. rw h; output = y₁; full = i }

-- a builtin between prints
pub done_on : {text code : List ℕ} {number : ℕ → ℕ} {live : List Bool} {m : List (List ℕ)} {p : Process'} {r : Rest} {c : Control} {k : List Frame} (n : ℕ) → p.control ≡ AtBuiltin (Done n) → Rep text code number live m p r c k → After text code number live m m p r c k (going p (AtStatus n))
done_on {text} {code} {number} {live} {m} {p} {r} {k = k} n e h = go (rw e at h.control)
  where
    go : {c : Control} → ControlRep text code h.lists.words h.lists.text h.lists.line (AtBuiltin (Done n)) c → After text code number live m m p r c k (going p (AtStatus n))
    go (r_builtin w t (r_done l z)) = record { c' = at_status n; k' = k; steps_to = λ s. refl; rep = record { lists = h.lists; has = h.has; control = r_status w t l z; frames = h.frames; status = h.status; functions = h.functions }; kept = kept_none; base = refl }

pub seq_done : {text code : List ℕ} {number : ℕ → ℕ} {live : List Bool} {m : List (List ℕ)} {p : Process'} {r : Rest} {c : Control} {k : List Frame} (a b : ℕ) → p.control ≡ AtBuiltin (Seq a b) → b < a → Rep text code number live m p r c k → After text code number live m m p r c k (going p (AtStatus 0))
seq_done {text} {code} {number} {live} {m} {p} {r} {k = k} a b e z h = go (rw e at h.control)
  where
    go : {c : Control} → ControlRep text code h.lists.words h.lists.text h.lists.line (AtBuiltin (Seq a b)) c → After text code number live m m p r c k (going p (AtStatus 0))
    go (r_builtin w t (r_seq l n)) = record { c' = at_status 0; k' = k; steps_to = λ s. rw (lt-leb a b z); rep = record { lists = h.lists; has = h.has; control = r_status w t l (omega arith); frames = h.frames; status = h.status; functions = h.functions }; kept = kept_none; base = refl }

pub seq_on : {text code : List ℕ} {number : ℕ → ℕ} {live : List Bool} {m m' : List (List ℕ)} {p : Process'} {r : Rest} {c : Control} {k : List Frame} (a b a' : ℕ) → p.control ≡ AtBuiltin (Seq a b) → a ≤ b → a' ≡ min (a + 1) 4294967295 → m' ≡ set m (p.base + 2) (get_or m (p.base + 2) [] ++ rev (as_line (decimal a))) → Rep text code number live m p r c k → After text code number live m m' p r c k (going p (AtPrint (Seq a' b)))
seq_on {text} {code} {number} {live} {m} {m'} {p} {r} {k = k} a b a' e z i u h = go (rw e at h.control)
  where
    go : {c : Control} → ControlRep text code h.lists.words h.lists.text h.lists.line (AtBuiltin (Seq a b)) c → After text code number live m m' p r c k (going p (AtPrint (Seq a' b)))
    go (r_builtin w t (r_seq l n)) =
        let j : a' ≡ suc a = omega (arith, i, n) in
        record { c' = at_builtin (b_print (as_line (decimal a)) (b_seq (suc a) b)); k' = k; steps_to = λ s. rw (le-leb a b z); rep = record { lists = record { frames = h.lists.frames; words = h.lists.words; text = rev (as_line (decimal a)); line = h.lists.line }; has = now_text (λ z. z ++ rev (as_line (decimal a))) u (ap (λ z. z ++ rev (as_line (decimal a))) t) h.has; control = rw j (r_print (as_line (decimal a)) w refl (bytes_decimal a) (r_seq l n)); frames = h.frames; status = h.status; functions = h.functions }; kept = rw u (kept_set (p.base + 2) _ (omega arith) (omega arith)); base = refl }

pub seq_tight : {text code : List ℕ} {number : ℕ → ℕ} {b : ℕ × List Bool} {m : List (List ℕ)} {p : Process'} {r : Rest} {c : Control} {k : List Frame} (x y : ℕ) → p.control ≡ AtBuiltin (Seq x y) → x ≤ y → (get_or b.1 (p.base + 2) false ≡ true → Scarce b (need m + length (rev (as_line (decimal x))))) → Rep text code number b.1 m p r c k → Tight b m number p r c k
seq_tight {text} {code} {number} {b} {m} {p} {r} {k = k} x y e z u h = go (rw e at h.control)
  where
    go : {c : Control} → ControlRep text code h.lists.words h.lists.text h.lists.line (AtBuiltin (Seq x y)) c → Tight b m number p r c k
    go (r_builtin w t (r_seq l n)) = tight_then (length (rev (as_line (decimal x)))) p (at_builtin (b_print (as_line (decimal x)) (b_seq (suc x) y))) k (λ s. rw (le-leb x y z)) (u h.has.live2) (omega (arith, rev_length (as_line (decimal x))))

pub yes_on : {text code : List ℕ} {number : ℕ → ℕ} {live : List Bool} {m m' : List (List ℕ)} {p : Process'} {r : Rest} {c : Control} {k : List Frame} → p.control ≡ AtBuiltin Yes → m' ≡ set m (p.base + 2) (get_or m (p.base + 2) [] ++ get_or m (p.base + 3) []) → Rep text code number live m p r c k → After text code number live m m' p r c k (going p (AtPrint Yes))
yes_on {text} {code} {number} {live} {m} {m'} {p} {r} {k = k} e u h = go (rw e at h.control)
  where
    go : {c : Control} → ControlRep text code h.lists.words h.lists.text h.lists.line (AtBuiltin Yes) c → After text code number live m m' p r c k (going p (AtPrint Yes))
    go (r_builtin w t (r_yes l e b)) = record { c' = at_builtin (b_print l (b_yes l)); k' = k; steps_to = λ s. refl; rep = record { lists = record { frames = h.lists.frames; words = h.lists.words; text = rev l; line = h.lists.line }; has = now_text (λ z. z ++ get_or m (p.base + 3) []) u (ap (λ z. z ++ get_or m (p.base + 3) []) t ∙ h.has.line ∙ e) h.has; control = r_print l w refl b (r_yes l e b); frames = h.frames; status = h.status; functions = h.functions }; kept = rw u (kept_set (p.base + 2) _ (omega arith) (omega arith)); base = refl }

pub yes_tight : {text code : List ℕ} {number : ℕ → ℕ} {b : ℕ × List Bool} {m : List (List ℕ)} {p : Process'} {r : Rest} {c : Control} {k : List Frame} → p.control ≡ AtBuiltin Yes → (get_or b.1 (p.base + 2) false ≡ true → Scarce b (need m + length (get_or m (p.base + 3) []))) → Rep text code number b.1 m p r c k → Tight b m number p r c k
yes_tight {text} {code} {number} {b} {m} {p} {r} {k = k} e u h = go (rw e at h.control)
  where
    go : {c : Control} → ControlRep text code h.lists.words h.lists.text h.lists.line (AtBuiltin Yes) c → Tight b m number p r c k
    go (r_builtin w t (r_yes l e n)) = tight_now (length (get_or m (p.base + 3) [])) (u h.has.live2) (omega (arith, ap length (h.has.line ∙ e), rev_length l))
