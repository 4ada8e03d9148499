-- A command begins.
use Rattle.std.proofs.Common.{◌≡◌, ℕ, suc, ◌+◌, ◌%◌, ◌<◌, ◌≤◌, min, Bool, true, false, List, [], ◌∷◌, ◌++◌, length, get_or, take, drop, set, Some, None, codes, Option as Maybe, sym, refl, ap, ◌∙◌, subst, arith}
use mathlib.Core.Option.{some}
use Rattle.std.proofs.lemmas.List.{length-append, length-drop, length-take, drop-drop}
use Rattle.segments.specs.Layout.{need}
use Rattle.syntax.specs.Tree.{no_redirects}
use Rattle.meaning.specs.System.{QuotedByte, b_print, b_done, b_seq, b_yes, then_invoke, Control, at_redirects, at_builtin, at_status, at_unwind, break, continue, exit, Frame, Process, System}
use Rattle.meaning.specs.Words.{bytes_of, as_line, join_words, first_or}
use Rattle.meaning.specs.Step.{goes_to}
use Rattle.meaning.specs.Space.{words_size}
use Rattle.machine.specs.declared.names.BuiltinName.{BuiltinName}
use Rattle.machine.specs.declared.names.BuiltinName.TheVariants.{Echo, Cat, Head, Wc, Grep, Seq, Rm, Yes, True, False, Test, Read, Exit, Return, Break, Continue, Shift, Wait, Other}
use Rattle.machine.specs.declared.process.Builtin.TheVariants.{Done, Seq as Seq', Yes as Yes'}
use Rattle.machine.specs.declared.process.Unwind.TheVariants.{Break as Break', Continue as Continue', Exit as Exit'}
use Rattle.machine.specs.declared.process.Control.{Control as Control'}
use Rattle.machine.specs.declared.process.Control.TheVariants.{AtInvoke, AtPrint, AtBuiltin, AtStatus, AtUnwind}
use Rattle.machine.specs.declared.process.Process.{Process as Process'}
use Rattle.words.specs.Encoding.{encoded, marked, plain, Bytes, Small, AllSmall, shown, rev, second}
use Rattle.machine.specs.Commands.{name_of, name_at, at_once, lacks, IsPlain, Invoked}
use Rattle.machine.specs.Arguments.{exit_number, chosen}
use Rattle.machine.specs.Decide.{going}
use Rattle.machine.specs.Represent.{Rest, process, abstract, Has, ControlRep, r_invoke, r_print, r_status, r_unwind, r_builtin, r_done, r_seq, r_yes, Rep}
use Rattle.words.specs.Pushed.{Scarce}
use Rattle.machine.specs.Promises.{StepsTo, After, Beyond, no_builtin, Tight, tight_now}
use Rattle.machine.proofs.Places.{now_words, now_text, now_line, kept_none, kept_set, kept_then}
use Rattle.words.proofs.Texts.{rev_length, shown_length, encoded_length, behind, shown_words, line_bytes, span, span_from}
use Rattle.machine.specs.declared.arguments.Range.{Range}
use Rattle.machine.specs.Ranges.{seq_range}
use Rattle.machine.proofs.Ranges.{seq_starts, seq_stops}
use Rattle.machine.proofs.Numbers.{exit_some, exit_none, chosen_words, chosen_bytes, chosen_length}
use Rattle.machine.proofs.Commands.{name_is, runs, invoked}

-- the words are there, and the first names a command
pub record Begun (m : List (List ℕ)) (p : Process') (c : Control) (T L : List ℕ) (N : BuiltinName) : Type 0 where
  pub x : List QuotedByte
  pub es : List (List QuotedByte)
  pub is : c ≡ at_redirects no_redirects (then_invoke (bytes_of x ∷ plain es))
  pub words : get_or m (p.base + 1) [] ≡ marked (x ∷ es)
  pub small : Small x
  pub smalls : AllSmall es
  pub name : name_at (bytes_of x) ≡ N
  pub text : T ≡ []
  pub line : L ≡ []

pub begun : {text code : List ℕ} {number : ℕ → ℕ} {live : List Bool} {m : List (List ℕ)} {p : Process'} {r : Rest} {c : Control} {k : List Frame} {N : BuiltinName} {first : ℕ} → Invoked m p N first → (h : Rep text code number live m p r c k) → Begun m p c h.lists.text h.lists.line N
begun {text} {code} {m = m} {p = p} {N = N} v h = go (rw v.control at h.control)
  where
    go : {c : Control} → ControlRep text code h.lists.words h.lists.text h.lists.line AtInvoke c → Begun m p c h.lists.text h.lists.line N
    go (r_invoke [] w t l s) = absurd (v.some (ap length (h.has.words ∙ w)))
    go (r_invoke (x ∷ es) w t l s) = record { x = x; es = es; is = refl; words = h.has.words ∙ w; small = s.0; smalls = s.1; name = sym (name_is x es s.0) ∙ sym (ap (λ z. name_of (drop 1 z)) (h.has.words ∙ w)) ∙ v.name; text = t; line = l }

-- no words at all
pub none_on : {text code : List ℕ} {number : ℕ → ℕ} {live : List Bool} {m : List (List ℕ)} {p : Process'} {r : Rest} {c : Control} {k : List Frame} → p.control ≡ AtInvoke → length (get_or m (p.base + 1) []) ≡ 0 → Rep text code number live m p r c k → After text code number live m m p r c k (going p (AtStatus 0))
none_on {text} {code} {number} {live} {m} {p} {r} {k = k} e z h = go (rw e at h.control)
  where
    go : {c : Control} → ControlRep text code h.lists.words h.lists.text h.lists.line AtInvoke c → After text code number live m m p r c k (going p (AtStatus 0))
    go (r_invoke [] w t l s) = record { c' = at_status 0; k' = k; steps_to = λ s. refl; rep = record { lists = h.lists; has = h.has; control = r_status w t l (omega arith); frames = h.frames; status = h.status; functions = h.functions }; kept = kept_none; base = refl }
    go (r_invoke (x ∷ es) w t l s) = absurd (omega (arith, ap length (h.has.words ∙ w)))

-- the lists of a process whose words are cleared
cleared : {m m' : List (List ℕ)} {live : List Bool} {b : ℕ} {F W T L : List ℕ} → m' ≡ set m (b + 1) [] → T ≡ [] → L ≡ [] → Has m live b (record { frames = F; words = W; text = T; line = L }) → Has m' live b (record { frames = F; words = []; text = []; line = [] })
cleared u t l h = now_words (λ z. []) u refl (rw (t, l) at h)

-- a step without further ado
at_once_on : {text code : List ℕ} {number : ℕ → ℕ} {live : List Bool} {m m' : List (List ℕ)} {p : Process'} {r : Rest} {c : Control} {k : List Frame} (d : Control') (c' : Control) (h : Rep text code number live m p r c k) → h.lists.text ≡ [] → h.lists.line ≡ [] → m' ≡ set m (p.base + 1) [] → ControlRep text code [] [] [] d c' → StepsTo (abstract number p r c k) (abstract number p r c' k) → After text code number live m m' p r c k (going p d)
at_once_on {p = p} {k = k} d c' h t l u now steps_to = record { c' = c'; k' = k; steps_to = steps_to; rep = record { lists = record { frames = h.lists.frames; words = []; text = []; line = [] }; has = cleared u t l h.has; control = now; frames = h.frames; status = h.status; functions = h.functions }; kept = rw u (kept_set (p.base + 1) [] (omega arith) (omega arith)); base = refl }

once : (text code : List ℕ) (N : BuiltinName) (d : Control') → Some d ≡ at_once N → (c' : Control) × ((s : System) (w : Process) (as₁ : List (List ℕ)) → runs N s w as₁ ≡ goes_to s w c' w.frames) × ControlRep text code [] [] [] d c'
once text code Echo d e = absurd (cc)
once text code Cat d e = absurd (cc)
once text code Head d e = absurd (cc)
once text code Wc d e = absurd (cc)
once text code Grep d e = absurd (cc)
once text code Seq d e = absurd (cc)
once text code Rm d e = absurd (cc)
once text code Yes d e = absurd (cc)
once text code True d e = let q : d ≡ AtStatus 0 = cc in (at_status 0, λ s w as₁. refl, subst (λ d. ControlRep text code [] [] [] d (at_status 0)) (sym q) (r_status {n = 0} refl refl refl (omega arith)))
once text code False d e = let q : d ≡ AtStatus 1 = cc in (at_status 1, λ s w as₁. refl, subst (λ d. ControlRep text code [] [] [] d (at_status 1)) (sym q) (r_status {n = 1} refl refl refl (omega arith)))
once text code Test d e = absurd (cc)
once text code Read d e = absurd (cc)
once text code Exit d e = absurd (cc)
once text code Return d e = absurd (cc)
once text code Break d e = let q : d ≡ AtUnwind Break' 0 = cc in (at_unwind break 0, λ s w as₁. refl, subst (λ d. ControlRep text code [] [] [] d (at_unwind break 0)) (sym q) (r_unwind {t = Break'} {n = 0} refl refl refl (omega arith)))
once text code Continue d e = let q : d ≡ AtUnwind Continue' 0 = cc in (at_unwind continue 0, λ s w as₁. refl, subst (λ d. ControlRep text code [] [] [] d (at_unwind continue 0)) (sym q) (r_unwind {t = Continue'} {n = 0} refl refl refl (omega arith)))
once text code Shift d e = absurd (cc)
once text code Wait d e = absurd (cc)
once text code Other d e = let q : d ≡ AtStatus 127 = cc in (at_status 127, λ s w as₁. refl, subst (λ d. ControlRep text code [] [] [] d (at_status 127)) (sym q) (r_status {n = 127} refl refl refl (omega arith)))

pub once_on : {text code : List ℕ} {number : ℕ → ℕ} {live : List Bool} {m m' : List (List ℕ)} {p : Process'} {r : Rest} {c : Control} {k : List Frame} (N : BuiltinName) (d : Control') {first : ℕ} → Invoked m p N first → Some d ≡ at_once N → m' ≡ set m (p.base + 1) [] → Rep text code number live m p r c k → After text code number live m m' p r c k (going p d)
once_on {text} {code} {number} {live} {m} {m'} {p} {r} {c} {k} N d v o u h =
    let b = begun v h in
    let w = once text code N d o in
    at_once_on d w.0 h b.text b.line u w.2 (rw b.is (λ s. invoked r k (number p.stdin) (number p.stdout) p.status (bytes_of b.x) (plain b.es) N h.functions b.name s ∙ ap some (w.1 s (process r (at_redirects no_redirects (then_invoke (bytes_of b.x ∷ plain b.es))) k (number p.stdin) (number p.stdout) p.status) (plain b.es))))

lacking : (N : BuiltinName) → None ≡ at_once N → (N ≡ Echo → ⊥) → (N ≡ Exit → ⊥) → (N ≡ Yes → ⊥) → (N ≡ Seq → ⊥) → lacks N ≡ true
lacking Echo e f g d q = absurd (f refl)
lacking Cat e f g d q = refl
lacking Head e f g d q = refl
lacking Wc e f g d q = refl
lacking Grep e f g d q = refl
lacking Seq e f g d q = absurd (q refl)
lacking Rm e f g d q = refl
lacking Yes e f g d q = absurd (d refl)
lacking True e f g d q = absurd (cc)
lacking False e f g d q = absurd (cc)
lacking Test e f g d q = refl
lacking Read e f g d q = refl
lacking Exit e f g d q = absurd (g refl)
lacking Return e f g d q = refl
lacking Break e f g d q = absurd (cc)
lacking Continue e f g d q = absurd (cc)
lacking Shift e f g d q = refl
lacking Wait e f g d q = refl
lacking Other e f g d q = absurd (cc)

pub once_beyond : {text code : List ℕ} {number : ℕ → ℕ} {live : List Bool} {m : List (List ℕ)} {p : Process'} {r : Rest} {c : Control} {k : List Frame} (N : BuiltinName) {first : ℕ} → Invoked m p N first → None ≡ at_once N → IsPlain N → Rep text code number live m p r c k → Beyond c
once_beyond N v o q h = let b = begun v h in rw b.is (no_builtin N b.name (lacking N o q.0 q.1 q.2 q.3))

-- the words behind the first
marked_rest : {V : List ℕ} {first : ℕ} (x : List QuotedByte) (es : List (List QuotedByte)) → first ≡ second V → V ≡ marked (x ∷ es) → Small x → drop first V ≡ marked es
marked_rest x es e f s = rw (e, f) (behind x es s)

-- echo
marked_room : (ds : List (List QuotedByte)) → length (marked ds) ≤ words_size (plain ds)
marked_room [] = omega arith
marked_room (d ∷ ds) = omega (arith, length-append (encoded d) (marked ds), encoded_length d, plain_length d, marked_room ds)
  where
    plain_length : (d : List QuotedByte) → length (bytes_of d) ≡ length d
    plain_length [] = refl
    plain_length (c ∷ d) = ap suc (plain_length d)

echo_line : (x : List QuotedByte) (es : List (List QuotedByte)) (V : List ℕ) (first len : ℕ) → Small x → AllSmall es → V ≡ marked (x ∷ es) → first ≡ second V → len ≡ length V → shown (span V (min (first + 1) len) len) ≡ join_words (plain es)
echo_line x es V first len s t e f l = rw (l, span_from V (first + 1), ← drop-drop 1 first V, f, e) (ap (λ z. shown (drop 1 z)) (behind x es s) ∙ shown_words es t)

pub echo_on : {text code : List ℕ} {number : ℕ → ℕ} {live : List Bool} {m m₁ m' : List (List ℕ)} {p : Process'} {r : Rest} {c : Control} {k : List Frame} (first low len : ℕ) → Invoked m p Echo first → len ≡ length (get_or m (p.base + 1) []) → low ≡ min (first + 1) len → m₁ ≡ set m (p.base + 2) (get_or m (p.base + 2) [] ++ rev (shown (span (get_or m (p.base + 1) []) low len) ++ (10 ∷ []))) → m' ≡ set m₁ (p.base + 1) [] → Rep text code number live m p r c k → After text code number live m m' p r c k (going p (AtPrint (Done 0)))
echo_on {text} {code} {number} {live} {m} {m₁} {m'} {p} {r} {c} {k} first low len a l i u v h =
    let b = begun a h in
    let V = get_or m (p.base + 1) [] in
    let y : shown (span V low len) ≡ join_words (plain b.es) = rw i (echo_line b.x b.es V first len b.small b.smalls b.words a.next l) in
    let bs = as_line (join_words (plain b.es)) in
    record { c' = at_builtin (b_print bs (b_done 0)); k' = k; steps_to = subst (λ c. StepsTo (abstract number p r c k) (abstract number p r (at_builtin (b_print bs (b_done 0))) k)) (sym b.is) (λ s. invoked r k (number p.stdin) (number p.stdout) p.status (bytes_of b.x) (plain b.es) Echo h.functions b.name s); rep = record { lists = record { frames = h.lists.frames; words = []; text = rev bs; line = [] }; has = now_words (λ z. []) v refl (now_text (λ z. z ++ rev (shown (span V low len) ++ (10 ∷ []))) u (ap (λ z. z ++ rev (shown (span V low len) ++ (10 ∷ []))) b.text ∙ ap (λ z. rev (z ++ (10 ∷ []))) y) (rw b.line at h.has)); control = r_print bs refl refl (subst (λ z. Bytes (z ++ (10 ∷ []))) y (line_bytes (span V low len))) (r_done refl (omega arith)); frames = h.frames; status = h.status; functions = h.functions }; kept = rw v (kept_then (rw u (kept_set (p.base + 2) _ (omega arith) (omega arith))) (kept_set (p.base + 1) [] (omega arith) (omega arith))); base = refl }

pub line_tight : {text code : List ℕ} {number : ℕ → ℕ} {b : ℕ × List Bool} {m : List (List ℕ)} {p : Process'} {r : Rest} {c : Control} {k : List Frame} (N : BuiltinName) (low len : ℕ) {first : ℕ} → Invoked m p N first → (get_or b.1 (p.base + 2) false ≡ true → Scarce b (need m + length (rev (shown (span (get_or m (p.base + 1) []) low len) ++ (10 ∷ []))))) → Rep text code number b.1 m p r c k → Tight b m number p r c k
line_tight {m = m} {p = p} {c = c} {k = k} N low len a u h =
    let b = begun a h in
    let V = get_or m (p.base + 1) [] in
    rw b.is (tight_now (length (rev (shown (span V low len) ++ (10 ∷ [])))) (u h.has.live2) (omega (arith, rev_length (shown (span V low len) ++ (10 ∷ [])), length-append (shown (span V low len)) (10 ∷ []), shown_length (span V low len), length-drop low (take len V), length-take len V, ap length b.words, marked_room (b.x ∷ b.es))))

-- exit
pub exit_on : {text code : List ℕ} {number : ℕ → ℕ} {live : List Bool} {m m' : List (List ℕ)} {p : Process'} {r : Rest} {c : Control} {k : List Frame} (first n : ℕ) → Invoked m p Exit first → Some n ≡ exit_number (drop first (get_or m (p.base + 1) [])) p.status → m' ≡ set m (p.base + 1) [] → Rep text code number live m p r c k → After text code number live m m' p r c k (going p (AtUnwind Exit' (n % 256)))
exit_on {text} {code} {number} {live} {m} {m'} {p} {r} {c} {k} first n a o u h =
    let b = begun a h in
    let y : drop first (get_or m (p.base + 1) []) ≡ marked b.es = marked_rest b.x b.es a.next b.words b.small in
    let v = exit_some b.es p.status n b.smalls h.status (o ∙ ap (λ A. exit_number A p.status) y) in
    at_once_on (AtUnwind Exit' (n % 256)) (at_unwind exit (n % 256)) h b.text b.line u (r_unwind {t = Exit'} {n = n % 256} refl refl refl (omega arith)) (rw b.is (λ s. invoked r k (number p.stdin) (number p.stdout) p.status (bytes_of b.x) (plain b.es) Exit h.functions b.name s ∙ rw v))

pub exit_bad : {text code : List ℕ} {number : ℕ → ℕ} {live : List Bool} {m m' : List (List ℕ)} {p : Process'} {r : Rest} {c : Control} {k : List Frame} (first : ℕ) → Invoked m p Exit first → ◌≡◌ {A = Maybe ℕ} None (exit_number (drop first (get_or m (p.base + 1) [])) p.status) → m' ≡ set m (p.base + 1) [] → Rep text code number live m p r c k → After text code number live m m' p r c k (going p (AtStatus 2))
exit_bad {text} {code} {number} {live} {m} {m'} {p} {r} {c} {k} first a o u h =
    let b = begun a h in
    let y : drop first (get_or m (p.base + 1) []) ≡ marked b.es = marked_rest b.x b.es a.next b.words b.small in
    let v = exit_none b.es p.status b.smalls (o ∙ ap (λ A. exit_number A p.status) y) in
    at_once_on (AtStatus 2) (at_status 2) h b.text b.line u (r_status {n = 2} refl refl refl (omega arith)) (rw b.is (λ s. invoked r k (number p.stdin) (number p.stdout) p.status (bytes_of b.x) (plain b.es) Exit h.functions b.name s ∙ rw v))

-- yes
pub yes_begins : {text code : List ℕ} {number : ℕ → ℕ} {live : List Bool} {m m₁ m' : List (List ℕ)} {p : Process'} {r : Rest} {c : Control} {k : List Frame} (first : ℕ) → Invoked m p Yes first → m₁ ≡ set m (p.base + 3) (get_or m (p.base + 3) [] ++ rev (chosen (drop first (get_or m (p.base + 1) [])) ++ (10 ∷ []))) → m' ≡ set m₁ (p.base + 1) [] → Rep text code number live m p r c k → After text code number live m m' p r c k (going p (AtBuiltin Yes'))
yes_begins {text} {code} {number} {live} {m} {m₁} {m'} {p} {r} {c} {k} first a u v h =
    let b = begun a h in
    let A = drop first (get_or m (p.base + 1) []) in
    let q : A ≡ marked b.es = marked_rest b.x b.es a.next b.words b.small in
    let y : chosen A ≡ first_or (codes "y") (plain b.es) = ap chosen q ∙ chosen_words b.es b.smalls in
    let l = as_line (first_or (codes "y") (plain b.es)) in
    record { c' = at_builtin (b_yes l); k' = k; steps_to = subst (λ c. StepsTo (abstract number p r c k) (abstract number p r (at_builtin (b_yes l)) k)) (sym b.is) (λ s. invoked r k (number p.stdin) (number p.stdout) p.status (bytes_of b.x) (plain b.es) Yes h.functions b.name s); rep = record { lists = record { frames = h.lists.frames; words = []; text = []; line = rev l }; has = now_words (λ z. []) v refl (now_line (λ z. z ++ rev (chosen A ++ (10 ∷ []))) u (ap (λ z. z ++ rev (chosen A ++ (10 ∷ []))) b.line ∙ ap (λ z. rev (z ++ (10 ∷ []))) y) (rw b.text at h.has)); control = r_builtin refl refl (r_yes l refl (subst (λ z. Bytes (z ++ (10 ∷ []))) y (chosen_bytes A))); frames = h.frames; status = h.status; functions = h.functions }; kept = rw v (kept_then (rw u (kept_set (p.base + 3) _ (omega arith) (omega arith))) (kept_set (p.base + 1) [] (omega arith) (omega arith))); base = refl }

pub choice_tight : {text code : List ℕ} {number : ℕ → ℕ} {b : ℕ × List Bool} {m : List (List ℕ)} {p : Process'} {r : Rest} {c : Control} {k : List Frame} (first : ℕ) → Invoked m p Yes first → (get_or b.1 (p.base + 3) false ≡ true → Scarce b (need m + length (rev (chosen (drop first (get_or m (p.base + 1) [])) ++ (10 ∷ []))))) → Rep text code number b.1 m p r c k → Tight b m number p r c k
choice_tight {m = m} {p = p} {c = c} {k = k} first a u h =
    let b = begun a h in
    let V = get_or m (p.base + 1) [] in
    rw b.is (tight_now (length (rev (chosen (drop first V) ++ (10 ∷ [])))) (u h.has.live3) (omega (arith, rev_length (chosen (drop first V) ++ (10 ∷ [])), length-append (chosen (drop first V)) (10 ∷ []), chosen_length (drop first V), length-drop first V, ap length b.words, marked_room (b.x ∷ b.es))))

-- seq
pub seq_begins : {text code : List ℕ} {number : ℕ → ℕ} {live : List Bool} {m m' : List (List ℕ)} {p : Process'} {r : Rest} {c : Control} {k : List Frame} (first : ℕ) (x : Range) → Invoked m p Seq first → x.to < 1000000000 → ((es : List (List QuotedByte)) → AllSmall es → drop first (get_or m (p.base + 1) []) ≡ marked es → Some x ≡ seq_range es) → m' ≡ set m (p.base + 1) [] → Rep text code number live m p r c k → After text code number live m m' p r c k (going p (AtBuiltin (Seq' x.from x.to)))
seq_begins {text} {code} {number} {live} {m} {m'} {p} {r} {c} {k} first x a l o u h =
    let b = begun a h in
    let y : drop first (get_or m (p.base + 1) []) ≡ marked b.es = marked_rest b.x b.es a.next b.words b.small in
    let w = abstract number p r (at_redirects no_redirects (then_invoke (bytes_of b.x ∷ plain b.es))) k in
    at_once_on (AtBuiltin (Seq' x.from x.to)) (at_builtin (b_seq x.from x.to)) h b.text b.line u (r_builtin refl refl (r_seq refl l)) (subst (λ c. StepsTo (abstract number p r c k) (abstract number p r (at_builtin (b_seq x.from x.to)) k)) (sym b.is) (λ s. invoked r k (number p.stdin) (number p.stdout) p.status (bytes_of b.x) (plain b.es) Seq h.functions b.name s ∙ ap some (seq_starts b.es x (o b.es b.smalls y) s w)))

pub seq_bad : {text code : List ℕ} {number : ℕ → ℕ} {live : List Bool} {m m' : List (List ℕ)} {p : Process'} {r : Rest} {c : Control} {k : List Frame} (first : ℕ) → Invoked m p Seq first → ((es : List (List QuotedByte)) → AllSmall es → drop first (get_or m (p.base + 1) []) ≡ marked es → ◌≡◌ {A = Maybe Range} None (seq_range es)) → m' ≡ set m (p.base + 1) [] → Rep text code number live m p r c k → After text code number live m m' p r c k (going p (AtStatus 2))
seq_bad {text} {code} {number} {live} {m} {m'} {p} {r} {c} {k} first a o u h =
    let b = begun a h in
    let y : drop first (get_or m (p.base + 1) []) ≡ marked b.es = marked_rest b.x b.es a.next b.words b.small in
    let w = abstract number p r (at_redirects no_redirects (then_invoke (bytes_of b.x ∷ plain b.es))) k in
    at_once_on (AtStatus 2) (at_status 2) h b.text b.line u (r_status {n = 2} refl refl refl (omega arith)) (subst (λ c. StepsTo (abstract number p r c k) (abstract number p r (at_status 2) k)) (sym b.is) (λ s. invoked r k (number p.stdin) (number p.stdout) p.status (bytes_of b.x) (plain b.es) Seq h.functions b.name s ∙ ap some (seq_stops b.es (o b.es b.smalls y) s w)))
