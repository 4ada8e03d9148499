-- Assignments, as a chain.
use Rattle.std.proofs.Common.{◌≡◌, ℕ, zero, suc, ◌+◌, ◌-◌, ◌<◌, ◌≤◌, max, false, List, [], ◌∷◌, ◌++◌, length, get_or, take, drop, set, sym, refl, ap, ◌∙◌, subst, arith, length-set}
use mathlib.Core.Option.{some, none}
use Rattle.std.proofs.lemmas.List.{get_or-set_same, get_or-set_other, drop_more, take-take, take_at, drop_at, drop-take, drop-drop, length-append, length-take}
use Rattle.syntax.specs.Base.{on_some}
use Rattle.syntax.specs.Tree.{Word, and_part, literal, Assignments, no_assignments, assign}
use Rattle.grammar.specs.Tokens.{Token, token}
use Rattle.grammar.specs.Grammar.{Split, put_before}
use Rattle.grammar.specs.Parser.{Parsed, level, parse_more, parse_assignments_go, parse_assignments, assignment_at, after_first}
use Rattle.code.specs.Layout.{BytesAt, PartsAt, AssignmentsAt}
use Rattle.lexer.specs.Stored.{Spelled, tokens_of, tokens_from, Has, code_at}
use Rattle.syntax.specs.Stage.{word_stage, assignments_stage, has_wildcard}
use Rattle.syntax.specs.Base.{pick}
use Rattle.reader.specs.Reading.{GotMore, GotValue, value_of, GotAssignments}
use Rattle.reader.proofs.Views.{here}
use Rattle.reader.proofs.Basics.{not_none}
use Rattle.grammar.proofs.Find.{some_is}
use Rattle.reader.proofs.Frame.{parts_frame}
use Rattle.reader.proofs.Sets.{SetAt, none_at, some_at, set_is, bytes1, tag1}
use Rattle.reader.proofs.Chains.{Chain, chain, step, finish, fail}

only1_some : (b : List ℕ) (w : Word) → 0 < length b → put_before b w ≡ and_part (literal false b) w
only1_some [] w h = absurd (omega arith)
only1_some (c ∷ b) w h = refl

some_bytes : (t : List ℕ) (s l : ℕ) → 0 < l → s < length t → 0 < length (take l (drop s t))
some_bytes t s zero a b = absurd (omega arith)
some_bytes t s (suc l) a b = rw (drop_more t s 0 b) (omega arith)

bytes_of : (t bs m : List ℕ) (x y s l : ℕ) → get_or m x 0 ≡ s → get_or m y 0 ≡ l → take l (drop s t) ≡ bs → BytesAt t bs m x y
bytes_of t bs m x y s l e f h = rw (e, f) h

pub value_part : (t : List ℕ) (n i d s l : ℕ) (w : List ℕ) (top link : ℕ) {w1 : List ℕ} {j free s0 s1 : ℕ} (st : ℕ) → st ≡ pick (has_wildcard (take l (drop s t))) 4 0 → 0 < l → s < length t → link < top → top + 4 ≤ length w → GotMore t n i d (set (set (set (set w link top) (top + 1) 0) (top + 2) s) (top + 3) l) w1 (top + 4) top j free (max s0 st) s1 → GotValue t n i d s l w w1 top link j free s0 s1
value_part t n i d s l w top link {w1} {j} {free} {s0} {s1} st stg a b lt z g =
    let bs = take l (drop s t) in
    let v0 = set w link top in
    let v1 = set v0 (top + 1) 0 in
    let v2 = set v1 (top + 2) s in
    let e1 : get_or w1 (top + 1) 0 ≡ 0 = g.kept (top + 1) (omega arith) (omega arith) ∙ (get_or-set_other v2 (top + 3) (top + 1) l 0 (omega arith) ∙ (get_or-set_other v1 (top + 2) (top + 1) s 0 (omega arith) ∙ get_or-set_same v0 (top + 1) 0 0 (omega (arith, length-set w link top)))) in
    let e2 : get_or w1 (top + 2) 0 ≡ s = g.kept (top + 2) (omega arith) (omega arith) ∙ (get_or-set_other v2 (top + 3) (top + 2) l 0 (omega arith) ∙ get_or-set_same v1 (top + 2) s 0 (omega (arith, length-set v0 (top + 1) 0, length-set w link top))) in
    let e3 : get_or w1 (top + 3) 0 ≡ l = g.kept (top + 3) (omega arith) (omega arith) ∙ get_or-set_same v2 (top + 3) l 0 (omega (arith, length-set v1 (top + 2) s, length-set v0 (top + 1) 0, length-set w link top)) in
    let bytes : BytesAt t bs w1 (top + 2) (top + 3) = bytes_of t bs w1 (top + 2) (top + 3) s l e2 e3 refl in
    let lk : get_or w1 link 0 ≡ top = g.kept link (omega arith) (omega arith) ∙ (get_or-set_other v2 (top + 3) link l 0 (omega arith) ∙ (get_or-set_other v1 (top + 2) link s 0 (omega arith) ∙ (get_or-set_other v0 (top + 1) link 0 0 (omega arith) ∙ get_or-set_same w link top 0 (omega arith)))) in
    record { tree = put_before bs g.tree; is = rw g.is; coded = subst (λ x. PartsAt t x top free w1 link) (sym (only1_some bs g.tree (some_bytes t s l a b))) (top, top + 4, (lk, omega arith, omega arith, omega arith, g.above), (e1, bytes), g.coded); staged = omega (arith, g.staged, stg, ap word_stage (only1_some bs g.tree (some_bytes t s l a b))); kept = λ k x y. g.kept k (omega arith) (omega arith) ∙ (get_or-set_other v2 (top + 3) k l 0 (omega arith) ∙ (get_or-set_other v1 (top + 2) k s 0 (omega arith) ∙ (get_or-set_other v0 (top + 1) k 0 0 (omega arith) ∙ get_or-set_other w link k top 0 y))); goes = g.goes; within = g.within; above = omega (arith, g.above); fits = g.fits; room = omega (arith, g.room) }

abbrev SetHere : List ℕ → ℕ → ℕ → ℕ → ℕ → Type 0
SetHere t i k s l = (c : Split) × (assignment_at (tokens_from t i) ≡ some c) × (k ≡ length c.before) × (take l (drop s t) ≡ c.before ++ (61 ∷ c.behind))

module _ {t : List ℕ} {n : ℕ} {m : List ℕ} (i : ℕ) (h : Has t n m) where
  pub set_none : (k : ℕ) → k ≡ code_at (tokens_from t i) → k < 64 → assignment_at (tokens_from t i) ≡ none
  set_none k ke l = go (set_is (tokens_from t i))
    where
      go : SetAt (tokens_from t i) (code_at (tokens_from t i)) → assignment_at (tokens_from t i) ≡ none
      go (none_at a b) = b
      go (some_at c a b d e) = absurd (omega (arith, ke, b))

  -- a name of k bytes and =, the bytes are l of the text from s on
  module _ (k : ℕ) (ke : 64 + k ≡ code_at (tokens_from t i)) (z : i < n) (s l : ℕ) (sp : Spelled t s l (get_or (tokens_of t) i (token false 0 []))) where
    pub set_here : SetHere t i k s l
    set_here = go (set_is (tokens_from t i))
      where
        go : SetAt (tokens_from t i) (code_at (tokens_from t i)) → SetHere t i k s l
        go (none_at a b) = absurd (omega (arith, ke, a))
        go (some_at c a b d e) = (c, a, omega (arith, ke, b), sp (omega (arith, sym (ap tag1 (here i h z)) ∙ e)) ∙ (sym (ap bytes1 (here i h z)) ∙ d))

    pub set_bounds : k + 1 ≤ l
    set_bounds =
        let q = set_here in
        let c = q.0 in
        omega (arith, q.2, ap length q.3, length-append c.before (61 ∷ c.behind), length-take l (drop s t))

before_is : (t b r : List ℕ) (s l m : ℕ) → take l (drop s t) ≡ b ++ (61 ∷ r) → length b ≡ m → m ≤ l → take m (drop s t) ≡ b
before_is t b r s l m e f g = sym (take-take m l (drop s t) g) ∙ (ap (take m) e ∙ take_at b (61 ∷ r) m f)

behind_is : (t b r : List ℕ) (s l m : ℕ) → take l (drop s t) ≡ b ++ (61 ∷ r) → length b ≡ m → m + 1 ≤ l → take (l - (m + 1)) (drop (s + (m + 1)) t) ≡ r
behind_is t b r s l m e f g =
    let x : m + 1 + (l - (m + 1)) ≡ l = omega arith in
    let y : take (l - (m + 1)) (drop (m + 1) (drop s t)) ≡ drop (m + 1) (take l (drop s t)) = sym (drop-take (m + 1) (l - (m + 1)) (drop s t)) ∙ ap (λ z. drop (m + 1) (take z (drop s t))) x in
    ap (take (l - (m + 1))) (sym (drop-drop (m + 1) s t)) ∙ (y ∙ (ap (drop (m + 1)) e ∙ (sym (drop-drop 1 m (b ++ (61 ∷ r))) ∙ ap (drop 1) (drop_at b (61 ∷ r) m f))))

abbrev Undone : Parsed Word → List ℕ → Word → List Token → Type 0
Undone o b T R = (x : Word) × (o ≡ some (x, R)) × (put_before b x ≡ T)

undo : (o : Parsed Word) (b : List ℕ) (T : Word) (R : List Token) → on_some {A = Word × List Token} {C = Word × List Token} o (λ x. some (put_before b x.0, x.1)) ≡ some (T, R) → Undone o b T R
undo none b T R e = absurd (not_none e)
undo (some y) b T R e = let q = some_is e in (y.0, ap (λ r. some (y.0, r)) (ap (λ z. z.1) q), ap (λ z. z.0) q)

pub assignments_hold : (t : List ℕ) (n i d : ℕ) (m w : List ℕ) (top link s : ℕ) → Has t n m → i ≤ n → top ≤ length w → link < top → Chain Assignments assignments_stage (parse_assignments_go (level d)) (AssignmentsAt t) t n i w w top link i top link s s
assignments_hold t n i d m w top link s h = chain Assignments assignments_stage (parse_assignments_go (level d)) (AssignmentsAt t) t n i w top link s h.count

module _ (d : ℕ) {t : List ℕ} {n i0 : ℕ} {m w0 w : List ℕ} (hs : Has t n m) {top link i free p s0 st : ℕ} (h : Chain Assignments assignments_stage (parse_assignments_go (level d)) (AssignmentsAt t) t n i0 w0 w top link i free p s0 st) where
  pub assignments_end : (k : ℕ) → k ≡ code_at (tokens_from t i) → k < 64 → GotAssignments t n i0 d w0 (set w p 0) top link i free s0 st
  assignments_end k ke e = finish Assignments assignments_stage (parse_assignments_go (level d)) (AssignmentsAt t) t n i0 w0 top link s0 h no_assignments (λ fu. rw (set_none i hs k ke e)) (λ v x. x) refl

  module _ (k : ℕ) (ke : 64 + k ≡ code_at (tokens_from t i)) (z : i < n) (s l : ℕ) (sp : Spelled t s l (get_or (tokens_of t) i (token false 0 []))) where
    tl_is : after_first (tokens_from t i) ≡ tokens_from t (i + 1)
    tl_is = ap after_first (here i hs z)

    pub assignments_fail : value_of t d (i + 1) (s + (k + 1)) (l - (k + 1)) ≡ none → parse_assignments (level d) (tokens_from t i0) ≡ none
    assignments_fail f = fail Assignments assignments_stage (parse_assignments_go (level d)) (AssignmentsAt t) t n i0 w0 top link s0 h (λ fu. rw ((set_here i hs k ke z s l sp).1, tl_is, unmade (parse_more (level d) (tokens_from t (i + 1))) f))
      where
        unmade : (o : Parsed Word) → on_some {A = Word × List Token} {C = Word × List Token} o (λ x. some (put_before (take (l - (k + 1)) (drop (s + (k + 1)) t)) x.0, x.1)) ≡ none → o ≡ none
        unmade none e = refl
        unmade (some x) e = absurd (not_none (sym e))

    pub assignments_step : free + 4 ≤ length w → {w1 : List ℕ} {j free1 s1 : ℕ} → GotValue t n (i + 1) d (s + (k + 1)) (l - (k + 1)) (set (set (set w p free) (free + 1) s) (free + 2) k) w1 (free + 4) (free + 3) j free1 st s1 → Chain Assignments assignments_stage (parse_assignments_go (level d)) (AssignmentsAt t) t n i0 w0 w1 top link j free1 free s0 s1
    assignments_step z4 {w1} {j} {free1} {s1} g =
        let q = set_here i hs k ke z s l sp in
        let c = q.0 in
        let bd = set_bounds i hs k ke z s l sp in
        let u = undo (parse_more (level d) (tokens_from t (i + 1))) (take (l - (k + 1)) (drop (s + (k + 1)) t)) g.tree (tokens_from t j) g.is in
        let len : length c.before ≡ k = omega (arith, q.2) in
        let bh : take (l - (k + 1)) (drop (s + (k + 1)) t) ≡ c.behind = behind_is t c.before c.behind s l k q.3 len (omega (arith, bd)) in
        let bf : take k (drop s t) ≡ c.before = before_is t c.before c.behind s l k q.3 len (omega (arith, bd)) in
        let tr : put_before c.behind u.0 ≡ g.tree = ap (λ x. put_before x u.0) (sym bh) ∙ u.2 in
        let v0 = set w p free in
        let v1 = set v0 (free + 1) s in
        let e1 : get_or w1 (free + 1) 0 ≡ s = g.kept (free + 1) (omega arith) (omega arith) ∙ (get_or-set_other v1 (free + 2) (free + 1) k 0 (omega arith) ∙ get_or-set_same v0 (free + 1) s 0 (omega (arith, length-set w p free))) in
        let e2 : get_or w1 (free + 2) 0 ≡ k = g.kept (free + 2) (omega arith) (omega arith) ∙ get_or-set_same v1 (free + 2) k 0 (omega (arith, length-set v0 (free + 1) s, length-set w p free)) in
        step Assignments assignments_stage (parse_assignments_go (level d)) (AssignmentsAt t) t n i0 w0 top link s0 h (λ x. assign c.before g.tree x) w1 j free1 (λ fu. rw (q.1, tl_is, u.1) (ap (λ T. on_some {A = Assignments × List Token} {C = Assignments × List Token} (parse_assignments_go (level d) fu (tokens_from t j)) (λ y. some (assign c.before T y.0, y.1))) tr)) (omega (arith, g.goes)) g.within (omega (arith, g.above)) g.fits (λ x y. g.kept x (omega arith) (omega arith) ∙ (get_or-set_other v1 (free + 2) x k 0 (omega arith) ∙ get_or-set_other v0 (free + 1) x s 0 (omega arith))) (omega (arith, g.room)) (λ v hi le f l1 x y. (free, free1, (x, omega arith, omega (arith, h.at_p), g.above, le), bytes_of t c.before v (free + 1) (free + 2) s k (f (free + 1) (omega (arith, g.above)) (omega arith) ∙ e1) (f (free + 2) (omega (arith, g.above)) (omega arith) ∙ e2) bf, parts_frame t w1 v g.tree (free + 4) free1 (free + 3) (λ o m r. f o r (omega arith)) (f (free + 3) (omega (arith, g.above)) (omega arith)) g.coded, y)) s1 (λ l. omega (arith, g.staged))
