-- A step over trees and frames, as a step of the process that is represented.
use Rattle.std.proofs.Common.{◌≡◌, ℕ, zero, suc, ◌+◌, ◌-◌, ◌<◌, ◌≤◌, Bool, true, false, eqb, List, [], ◌∷◌, ◌++◌, length, get_or, set, Some, None, Option as Maybe, sym, refl, ap, ◌∙◌, subst, ⊎_elim, arith}
use mathlib.Core.Option.{Option, some, none}
use Rattle.std.proofs.lemmas.List.{append-nil, length-append, take_at, get_or-append-add, get_or-set_same, set-set}
use Rattle.std.proofs.lemmas.Bool.{cases_lt, le-ltb, lt-ltb}
use Rattle.segments.specs.Layout.{need}
use Rattle.meaning.specs.System.{Control, at_status, at_unwind, Frame}
use Rattle.machine.specs.declared.process.Unwind.{Unwind as Unwind'}
use Rattle.machine.specs.declared.process.Control.{Control as Control'}
use Rattle.machine.specs.declared.process.Control.TheVariants.{AtStatus, AtUnwind}
use Rattle.machine.specs.declared.process.Process.{Process as Process'}
use Rattle.machine.specs.declared.frames.Frame.{Frame as Frame'}
use Rattle.machine.specs.declared.frames.Frame.TheVariants.{List as FList, Handles, AndOr, Not, If, Condition, Body}
use Rattle.machine.specs.Frames.{words_of, frame_of, framed, top_frame, settled}
use Rattle.machine.specs.declared.control.Next.{Next}
use Rattle.machine.specs.declared.control.Resumed.{Resumed}
use Rattle.machine.specs.Decide.{going, Tree, tree_next, status_next, unwind_next}
use Rattle.machine.specs.Represent.{Rest, abstract, unwind_is, Has, ControlRep, r_list, r_and_or, r_pipeline, r_command, r_words, r_invoke, r_print, r_builtin, r_status, r_unwind, FrameRep, FramesRep, Rep}
use Rattle.words.specs.Pushed.{Scarce}
use Rattle.machine.specs.Promises.{StepsTo, Ends, After, Keeps, kept_frame, Beyond, Grows, Leads, Backs, Tight, tight_now}
use Rattle.machine.proofs.Trees.{with_status, list_leads, and_or_leads, pipeline_leads, command_leads, status_backs, unwind_backs}
use Rattle.machine.proofs.Places.{now_frames, kept_set}

-- a frame's words, and that they are read as this frame
pub record Stored (f : Frame') : Type 0 where
  pub x : ℕ
  pub y : ℕ
  pub t : ℕ
  pub words : words_of f ≡ x ∷ y ∷ t ∷ []
  pub read : frame_of x y t ≡ Some f

pub stored : (f : Frame') → Stored f
stored (FList x) = record { x = x; y = 0; t = 1; words = refl; read = refl }
stored (Handles i o) = record { x = i; y = o; t = 2; words = refl; read = refl }
stored (AndOr x) = record { x = x; y = 0; t = 3; words = refl; read = refl }
stored Not = record { x = 0; y = 0; t = 4; words = refl; read = refl }
stored (If x) = record { x = x; y = 0; t = 5; words = refl; read = refl }
stored (Condition x) = record { x = x; y = 0; t = 6; words = refl; read = refl }
stored (Body x) = record { x = x; y = 0; t = 7; words = refl; read = refl }

leads : {text code W T L : List ℕ} {d : Control'} {c : Control} (number : ℕ → ℕ) (n : ℕ) → n < 256 → Tree d → ControlRep text code W T L d c → Leads text code number c n (tree_next code d n)
leads {text} {code} number n z b (r_list {a = a} {l = l} p q u e) = list_leads text code number a n l z e
leads {text} {code} number n z b (r_and_or {a = a} {x = x} p q u e) = and_or_leads text code number a n x e
leads {text} {code} number n z b (r_pipeline {a = a} {n = m} {x = x} p q u e) = pipeline_leads text code number a n m x e
leads {text} {code} number n z b (r_command {a = a} {x = x} p q u e) = command_leads text code number a n x e
leads number n z b (r_words p q u i t e f) = absurd b
leads number n z b (r_invoke ds p q u t) = absurd b
leads number n z b (r_print bs p q t u) = absurd b
leads number n z b (r_builtin p q u) = absurd b
leads number n z b (r_status p q u e) = absurd b
leads number n z b (r_unwind p q u e) = absurd b

bare : {text code W T L : List ℕ} {d : Control'} {c : Control} → Tree d → ControlRep text code W T L d c → (W ≡ []) × (T ≡ []) × (L ≡ [])
bare b (r_list p q u e) = (p, q, u)
bare b (r_and_or p q u e) = (p, q, u)
bare b (r_pipeline p q u e) = (p, q, u)
bare b (r_command p q u e) = (p, q, u)
bare b (r_words p q u i t e f) = absurd b
bare b (r_invoke ds p q u t) = absurd b
bare b (r_print bs p q t u) = absurd b
bare b (r_builtin p q u) = absurd b
bare b (r_status p q u e) = absurd b
bare b (r_unwind p q u e) = absurd b

-- a frame more, or none
pub tree_on : {text code : List ℕ} {number : ℕ → ℕ} {live : List Bool} {m m' : List (List ℕ)} {p : Process'} {r : Rest} {c : Control} {k : List Frame} (q : Next) → Tree p.control → Some q ≡ tree_next code p.control p.status → m' ≡ set m p.base (get_or m p.base [] ++ framed q.frame) → Rep text code number live m p r c k → After text code number live m m' p r c k (going p q.control)
tree_on {text} {code} {number} {live} {m} {m'} {p} {r} {c} {k} q b e u h = by g.κ' q.frame refl refl g.keeps
  where
    g : Grows text code number c p.status q
    g = subst (λ o. Leads text code number c p.status o) (sym e) (leads number p.status h.status b h.control)

    w : (h.lists.words ≡ []) × (h.lists.text ≡ []) × (h.lists.line ≡ [])
    w = bare b h.control

    has : Has m live p.base (record { frames = h.lists.frames; words = []; text = []; line = [] })
    has = rw (w.0, w.1, w.2) at h.has

    by : (o : Option Frame) (f : Maybe Frame') → g.κ' ≡ o → q.frame ≡ f → Keeps text code number f o → After text code number live m m' p r c k (going p q.control)
    by none None i j z = record { c' = g.c'; k' = k; steps_to = subst (λ o. StepsTo (abstract number p r c k) (abstract number (going p q.control) r g.c' (kept_frame o k))) i (g.steps_to r k (number p.stdin) (number p.stdout)); rep = record { lists = record { frames = h.lists.frames; words = []; text = []; line = [] }; has = now_frames (λ z. z ++ framed q.frame) u (ap (λ f. h.lists.frames ++ framed f) j ∙ append-nil h.lists.frames) has; control = g.now; frames = h.frames; status = h.status; functions = h.functions }; kept = rw u (kept_set p.base _ (omega arith) (omega arith)); base = refl }
    by (some κ) (Some f) i j z = let s = stored f in record { c' = g.c'; k' = κ ∷ k; steps_to = subst (λ o. StepsTo (abstract number p r c k) (abstract number (going p q.control) r g.c' (kept_frame o k))) i (g.steps_to r k (number p.stdin) (number p.stdout)); rep = record { lists = record { frames = h.lists.frames ++ (s.x ∷ s.y ∷ s.t ∷ []); words = []; text = []; line = [] }; has = now_frames (λ z. z ++ framed q.frame) u (ap (λ f. h.lists.frames ++ framed f) j ∙ ap (λ t. h.lists.frames ++ t) s.words) has; control = g.now; frames = (h.lists.frames, s.x, s.y, s.t, f, refl, s.read, z, h.frames); status = h.status; functions = h.functions }; kept = rw u (kept_set p.base _ (omega arith) (omega arith)); base = refl }
    by none (Some f) i j z = absurd z
    by (some κ) None i j z = absurd z

-- three words more are never more than a process takes
pub frame_tight : {text code : List ℕ} {number : ℕ → ℕ} {b : ℕ × List Bool} {m : List (List ℕ)} {p : Process'} {r : Rest} {c : Control} {k : List Frame} (f : Maybe Frame') → (get_or b.1 p.base false ≡ true → Scarce b (need m + length (framed f))) → Rep text code number b.1 m p r c k → Tight b m number p r c k
frame_tight f e h = tight_now (length (framed f)) (e h.has.live0) (few f _)
  where
    few : (f : Maybe Frame') (n : ℕ) → length (framed f) ≤ n + 4
    few None n = omega arith
    few (Some f) n = omega (arith, ap length (stored f).words)

pub tree_beyond : {text code : List ℕ} {number : ℕ → ℕ} {live : List Bool} {m : List (List ℕ)} {p : Process'} {r : Rest} {c : Control} {k : List Frame} → Tree p.control → None ≡ tree_next code p.control p.status → Rep text code number live m p r c k → Beyond c
tree_beyond {text} {code} {number} {p = p} {c = c} b e h = subst (λ o. Leads text code number c p.status o) (sym e) (leads number p.status h.status b h.control)

-- the last frame
pub record Seen (text code : List ℕ) (number : ℕ → ℕ) (F : List ℕ) (f : Frame') (k : List Frame) : Type 0 where
  pub κ : Frame
  pub ks : List Frame
  pub is : k ≡ κ ∷ ks
  pub frame : FrameRep text code number f κ
  pub rest : List ℕ
  pub x : ℕ
  pub y : ℕ
  pub t : ℕ
  pub ends : F ≡ rest ++ (x ∷ y ∷ t ∷ [])
  pub later : FramesRep text code number rest ks

-- the frame that the last three words are
top_at : (F G : List ℕ) (x y t : ℕ) → F ≡ G ++ (x ∷ y ∷ t ∷ []) → top_frame F ≡ frame_of x y t
top_at F G x y t e =
    let v = x ∷ y ∷ t ∷ [] in
    let l : length F ≡ length G + 3 = ap length e ∙ length-append G v in
    let xs : get_or F (length F - 3) 0 ≡ x = ap (λ z. get_or z (length F - 3) 0) e ∙ ap (λ j. get_or (G ++ v) j 0) (omega arith) ∙ get_or-append-add G v 0 0 in
    let ys : get_or F (length F - 2) 0 ≡ y = ap (λ z. get_or z (length F - 2) 0) e ∙ ap (λ j. get_or (G ++ v) j 0) (omega arith) ∙ get_or-append-add G v 1 0 in
    let ts : get_or F (length F - 1) 0 ≡ t = ap (λ z. get_or z (length F - 1) 0) e ∙ ap (λ j. get_or (G ++ v) j 0) (omega arith) ∙ get_or-append-add G v 2 0 in
    rw (le-ltb (length F) 3 (omega arith), xs, ys, ts)

top_short : (F : List ℕ) → length F < 3 → top_frame F ≡ None
top_short F h = rw (lt-ltb (length F) 3 h)

pub top_long : (F : List ℕ) (f : Frame') → Some f ≡ top_frame F → 3 ≤ length F
top_long F f h = ⊎_elim
    (λ (l : length F < 3). let z : Some f ≡ None = h ∙ top_short F l in absurd (cc))
    (λ (l : 3 ≤ length F). l)
    (cases_lt (length F) 3)

seen : (text code : List ℕ) (number : ℕ → ℕ) (F : List ℕ) (f : Frame') (k : List Frame) → Some f ≡ top_frame F → FramesRep text code number F k → Seen text code number F f k
seen text code number F f [] h r = absurd (omega (arith, ap length r, top_long F f h))
seen text code number F f (κ ∷ k) h (G, x, y, t, g, e, d, i, r) =
    let z : Some f ≡ Some g = h ∙ top_at F G x y t e ∙ d in
    let q : g ≡ f = cc in
    record { κ = κ; ks = k; is = refl; frame = subst (λ f. FrameRep text code number f κ) q i; rest = G; x = x; y = y; t = t; ends = e; later = r }

unseen : (text code : List ℕ) (number : ℕ → ℕ) (F : List ℕ) (k : List Frame) → None ≡ top_frame F → FramesRep text code number F k → k ≡ []
unseen text code number F [] h r = refl
unseen text code number F (κ ∷ k) h (G, x, y, t, g, e, d, i, r) = let z : None ≡ Some g = h ∙ top_at F G x y t e ∙ d in absurd (cc)

-- the list below the last frame
settled_is : (F G : List ℕ) (x y t : ℕ) (q : Maybe Frame') → F ≡ G ++ (x ∷ y ∷ t ∷ []) → settled F q ≡ G ++ framed q
settled_is F G x y t q e = rw e (ap (λ z. z ++ framed q) (take_at G (x ∷ y ∷ t ∷ []) (length (G ++ (x ∷ y ∷ t ∷ [])) - 3) (omega (arith, length-append G (x ∷ y ∷ t ∷ [])))))

back_on : {text code : List ℕ} {number : ℕ → ℕ} {live : List Bool} {m m' : List (List ℕ)} {p : Process'} {r : Rest} {c : Control} {k : List Frame} (f : Frame') (p₁ : Process') (q : Resumed) (h : Rep text code number live m p r c k) → h.lists.words ≡ [] → h.lists.text ≡ [] → h.lists.line ≡ [] → (u : Seen text code number h.lists.frames f k) → Backs text code number c u.κ p p₁ q → p₁.base ≡ p.base → p₁.status < 256 → m' ≡ set m p.base (settled (get_or m p.base []) q.frame) → After text code number live m m' p r c k q.process
back_on {text} {code} {number} {live} {m} {m'} {p} {r} {c} {k} f p₁ q h wz tz lz u b eb es st = subst (λ k. After text code number live m m' p r c k q.process) (sym u.is) (by b.κ' q.frame refl refl b.keeps)
  where
    has : Has m live p.base (record { frames = h.lists.frames; words = []; text = []; line = [] })
    has = rw (wz, tz, lz) at h.has

    there : (X : List ℕ) → settled h.lists.frames q.frame ≡ X → Has m' live q.process.base (record { frames = X; words = []; text = []; line = [] })
    there X e = subst (λ z. Has m' live z (record { frames = X; words = []; text = []; line = [] })) (sym (b.base ∙ eb)) (now_frames (λ z. settled z q.frame) st e has)

    by : (o : Option Frame) (g : Maybe Frame') → b.κ' ≡ o → q.frame ≡ g → Keeps text code number g o → After text code number live m m' p r c (u.κ ∷ u.ks) q.process
    by none None i j z = record { c' = b.c'; k' = u.ks; steps_to = subst (λ o. StepsTo (abstract number p r c (u.κ ∷ u.ks)) (abstract number q.process r b.c' (kept_frame o u.ks))) i (b.steps_to r u.ks); rep = record { lists = record { frames = u.rest; words = []; text = []; line = [] }; has = there u.rest (settled_is h.lists.frames u.rest u.x u.y u.t q.frame u.ends ∙ ap (λ q. u.rest ++ framed q) j ∙ append-nil u.rest); control = b.now; frames = u.later; status = omega (arith, b.status, es); functions = h.functions }; kept = rw st (kept_set p.base _ (omega arith) (omega arith)); base = b.base ∙ eb }
    by (some κ) (Some g) i j z = let s = stored g in record { c' = b.c'; k' = κ ∷ u.ks; steps_to = subst (λ o. StepsTo (abstract number p r c (u.κ ∷ u.ks)) (abstract number q.process r b.c' (kept_frame o u.ks))) i (b.steps_to r u.ks); rep = record { lists = record { frames = u.rest ++ (s.x ∷ s.y ∷ s.t ∷ []); words = []; text = []; line = [] }; has = there (u.rest ++ (s.x ∷ s.y ∷ s.t ∷ [])) (settled_is h.lists.frames u.rest u.x u.y u.t q.frame u.ends ∙ ap (λ q. u.rest ++ framed q) j ∙ ap (λ t. u.rest ++ t) s.words); control = b.now; frames = (u.rest, s.x, s.y, s.t, g, refl, s.read, z, u.later); status = omega (arith, b.status, es); functions = h.functions }; kept = rw st (kept_set p.base _ (omega arith) (omega arith)); base = b.base ∙ eb }
    by none (Some g) i j z = absurd z
    by (some κ) None i j z = absurd z

status_is : {text code W T L : List ℕ} {n : ℕ} {c : Control} → ControlRep text code W T L (AtStatus n) c → (c ≡ at_status n) × (W ≡ []) × (T ≡ []) × (L ≡ []) × (n < 256)
status_is (r_status p q u z) = (refl, p, q, u, z)

unwind_was : {text code W T L : List ℕ} {t : Unwind'} {n : ℕ} {c : Control} → ControlRep text code W T L (AtUnwind t n) c → (c ≡ at_unwind (unwind_is t) n) × (W ≡ []) × (T ≡ []) × (L ≡ []) × (n < 256)
unwind_was (r_unwind p q u z) = (refl, p, q, u, z)

pub status_on : {text code : List ℕ} {number : ℕ → ℕ} {live : List Bool} {m m' : List (List ℕ)} {p : Process'} {r : Rest} {c : Control} {k : List Frame} (n : ℕ) (f : Frame') (q : Resumed) → p.control ≡ AtStatus n → Some f ≡ top_frame (get_or m p.base []) → q ≡ status_next code (with_status p n) f n → m' ≡ set m p.base (settled (get_or m p.base []) q.frame) → Rep text code number live m p r c k → After text code number live m m' p r c k q.process
status_on {text} {code} {number} {live} {m} {m'} {p} {r} {c} {k} n f q e t d st h =
    let i = status_is (rw e at h.control) in
    let u = seen text code number h.lists.frames f k (rw h.has.frames at t) h.frames in
    back_on f (with_status p n) q h i.1 i.2 i.3 u (rw (d, i.0) (status_backs {κ = u.κ} p n (eqb n 0) i.4 refl u.frame)) refl i.4 st

pub unwind_on : {text code : List ℕ} {number : ℕ → ℕ} {live : List Bool} {m m' : List (List ℕ)} {p : Process'} {r : Rest} {c : Control} {k : List Frame} (v : Unwind') (n : ℕ) (f : Frame') (q : Resumed) → p.control ≡ AtUnwind v n → Some f ≡ top_frame (get_or m p.base []) → q ≡ unwind_next code p v f n → m' ≡ set m p.base (settled (get_or m p.base []) q.frame) → Rep text code number live m p r c k → After text code number live m m' p r c k q.process
unwind_on {text} {code} {number} {live} {m} {m'} {p} {r} {c} {k} v n f q e t d st h =
    let i = unwind_was (rw e at h.control) in
    let u = seen text code number h.lists.frames f k (rw h.has.frames at t) h.frames in
    back_on f p q h i.1 i.2 i.3 u (rw (d, i.0) (unwind_backs {κ = u.κ} p n v i.4 u.frame)) refl h.status st

pub status_ends : {text code : List ℕ} {number : ℕ → ℕ} {live : List Bool} {m : List (List ℕ)} {p : Process'} {r : Rest} {c : Control} {k : List Frame} (n : ℕ) → p.control ≡ AtStatus n → None ≡ top_frame (get_or m p.base []) → Rep text code number live m p r c k → Ends (abstract number p r c k) n
status_ends {text} {code} {number} {k = k} n e t h = let i = status_is (rw e at h.control) in rw (i.0, unseen text code number h.lists.frames k (rw h.has.frames at t) h.frames) (λ s. refl)

pub unwind_ends : {text code : List ℕ} {number : ℕ → ℕ} {live : List Bool} {m : List (List ℕ)} {p : Process'} {r : Rest} {c : Control} {k : List Frame} (v : Unwind') (n : ℕ) → p.control ≡ AtUnwind v n → None ≡ top_frame (get_or m p.base []) → Rep text code number live m p r c k → Ends (abstract number p r c k) n
unwind_ends {text} {code} {number} {k = k} v n e t h = let i = unwind_was (rw e at h.control) in rw (i.0, unseen text code number h.lists.frames k (rw h.has.frames at t) h.frames) (λ s. refl)

-- three words in the place of the last three
three_set : (G : List ℕ) (a b c x y t : ℕ) → set (set (set (G ++ (a ∷ b ∷ c ∷ [])) (length G) x) (length G + 1) y) (length G + 2) t ≡ G ++ (x ∷ y ∷ t ∷ [])
three_set [] a b c x y t = refl
three_set (g ∷ G) a b c x y t =
    let i : suc (length G) + 1 ≡ suc (length G + 1) = omega arith in
    let j : suc (length G) + 2 ≡ suc (length G + 2) = omega arith in
    rw (i, j) (ap (λ z. g ∷ z) (three_set G a b c x y t))

last_three : (F : List ℕ) → 3 ≤ length F → (G : List ℕ) × (a : ℕ) × (b : ℕ) × (c : ℕ) × (F ≡ G ++ (a ∷ b ∷ c ∷ []))
last_three [] h = absurd (omega arith)
last_three (a ∷ []) h = absurd (omega arith)
last_three (a ∷ b ∷ []) h = absurd (omega arith)
last_three (a ∷ b ∷ c ∷ []) h = ([], a, b, c, refl)
last_three (a ∷ b ∷ c ∷ d ∷ F) h = let r = last_three (b ∷ c ∷ d ∷ F) (omega arith) in (a ∷ r.0, r.1, r.2, r.3, ap (λ z. a ∷ z) r.4)

set_last : (F ws : List ℕ) (n : ℕ) (f : Frame') → 3 ≤ length F → n ≡ length F - 3 → ws ≡ words_of f → set (set (set F n (get_or ws 0 0)) (n + 1) (get_or ws 1 0)) (n + 2) (get_or ws 2 0) ≡ settled F (Some f)
set_last F ws n f h e w =
    let s = stored f in
    let l = last_three F h in
    let G = l.0 in
    let g : n ≡ length G = omega (arith, ap length l.4, length-append G (l.1 ∷ l.2 ∷ l.3 ∷ [])) in
    let x : get_or ws 0 0 ≡ s.x = ap (λ z. get_or z 0 0) (w ∙ s.words) in
    let y : get_or ws 1 0 ≡ s.y = ap (λ z. get_or z 1 0) (w ∙ s.words) in
    let t : get_or ws 2 0 ≡ s.t = ap (λ z. get_or z 2 0) (w ∙ s.words) in
    rw (g, x, y, t) (ap (λ F. set (set (set F (length G) s.x) (length G + 1) s.y) (length G + 2) s.t) l.4 ∙ three_set G l.1 l.2 l.3 s.x s.y s.t ∙ sym (settled_is F G l.1 l.2 l.3 (Some f) l.4 ∙ ap (λ z. G ++ z) s.words))

-- the same in a list of lists
pub settled_on : (m m₁ m₂ m₃ : List (List ℕ)) (b n : ℕ) (ws : List ℕ) (f : Frame') → 3 ≤ length (get_or m b []) → n ≡ length (get_or m b []) - 3 → ws ≡ words_of f → m₁ ≡ set m b (set (get_or m b []) n (get_or ws 0 0)) → m₂ ≡ set m₁ b (set (get_or m₁ b []) (n + 1) (get_or ws 1 0)) → m₃ ≡ set m₂ b (set (get_or m₂ b []) (n + 2) (get_or ws 2 0)) → m₃ ≡ set m b (settled (get_or m b []) (Some f))
settled_on m m₁ m₂ m₃ b n ws f h e w p q r =
    let F = get_or m b [] in
    let l : b < length m = there b m (omega arith) in
    let x = set F n (get_or ws 0 0) in
    let y = set x (n + 1) (get_or ws 1 0) in
    let p₁ : get_or m₁ b [] ≡ x = ap (λ z. get_or z b []) p ∙ get_or-set_same m b x [] l in
    let q₁ : m₂ ≡ set m b y = q ∙ ap (λ z. set m₁ b (set z (n + 1) (get_or ws 1 0))) p₁ ∙ ap (λ z. set z b y) p ∙ set-set m b x y in
    let q₂ : get_or m₂ b [] ≡ y = ap (λ z. get_or z b []) q₁ ∙ get_or-set_same m b y [] l in
    let z = set y (n + 2) (get_or ws 2 0) in
    r ∙ ap (λ v. set m₂ b (set v (n + 2) (get_or ws 2 0))) q₂ ∙ ap (λ v. set v b z) q₁ ∙ set-set m b y z ∙ ap (set m b) (set_last F ws n f h e w)
  where
    there : (b : ℕ) (m : List (List ℕ)) → 0 < length (get_or m b []) → b < length m
    there b [] h = absurd (omega arith)
    there zero (x ∷ m) h = omega arith
    there (suc b) (x ∷ m) h = omega (arith, there b m h)
