-- Parts and words.
use Rattle.std.proofs.Common.{◌≡◌, ℕ, zero, suc, ◌+◌, ◌-◌, ◌<◌, ◌≤◌, max, Bool, true, false, ◌≢◌, List, [], ◌∷◌, length, get_or, take, drop, set, sym, refl, ap, ◌∙◌, subst, arith, length-set}
use mathlib.Core.Option.{some, none}
use Rattle.std.proofs.lemmas.List.{get_or-set_same, get_or-set_other}
use Rattle.syntax.specs.Base.{on_some}
use Rattle.syntax.specs.Tree.{WordPart, literal, parameter, substitution, Word, no_parts, and_part}
use Rattle.grammar.specs.Tokens.{Token, token}
use Rattle.grammar.specs.Grammar.{sign}
use Rattle.grammar.specs.Parser.{Deeper, level, parse_part_go, parse_part, parse_more_go, parse_more, parse_word, next_joined, expect, parse_substitution, after_first}
use Rattle.code.specs.Layout.{BytesAt, PartAt, PartsAt, flag}
use Rattle.lexer.specs.Stored.{Spelled, token_code, tokens_of, tokens_from, Has, code_at}
use Rattle.syntax.specs.Stage.{part_stage, word_stage}
use Rattle.reader.specs.Reading.{part_tag, tag_stage, joins, GotPart, GotMore, GotWord, GotList}
use Rattle.reader.proofs.Eats.{eat_sign, eat_no, code_41}
use Rattle.reader.proofs.Views.{View, v_low, v_run, v_none, view, here, glued_is}
use Rattle.reader.proofs.Frame.{part_frame}
use Rattle.reader.proofs.Chains.{Chain, chain, step, finish, fail}

view_none : {t : ℕ} {b : List ℕ} {k : ℕ} → View t b k → k ≡ 4 → (S : Deeper) (r : List Token) → parse_part_go S t b r ≡ none
view_none (v_low h) e = absurd (omega arith)
view_none (v_run h k z) e = absurd (omega arith)
view_none (v_none h) e = h

view_low : {t : ℕ} {b : List ℕ} {k : ℕ} → View t b k → k < 4 → (k ≡ t) × (t ≤ 3)
view_low (v_low h) e = (refl, h)
view_low (v_run h k z) e = absurd (omega arith)
view_low (v_none h) e = absurd (omega arith)

view_run : {t : ℕ} {b : List ℕ} {k : ℕ} → View t b k → 4 < k → (k ≡ t) × (5 ≤ t) × (t ≤ 6) × (b ≡ [])
view_run (v_low h) e = absurd (omega arith)
view_run (v_run h k z) e = (refl, h, k, z)
view_run (v_none h) e = absurd (omega arith)

pub part_none : (S : Deeper) (ps : List Token) (q : ℕ) → q ≡ part_tag (code_at ps) → q ≡ 4 → parse_part S ps ≡ none
part_none S [] q e f = refl
part_none S (p ∷ r) q e f = view_none (view p) (sym e ∙ f) S r

abbrev Low : List ℕ → ℕ → List ℕ → Type 0
Low t k b = (x : WordPart) × ((S : Deeper) (r : List Token) → parse_part_go S k b r ≡ some (x, r)) × ((a hi : ℕ) (m : List ℕ) → get_or m (a + 1) 0 ≡ k → BytesAt t b m (a + 2) (a + 3) → PartAt t x a hi m) × (part_stage x ≡ tag_stage k b)

low : (t : List ℕ) (k : ℕ) (b : List ℕ) → k ≤ 3 → Low t k b
low t zero b h = (literal false b, λ S r. refl, λ a hi m x y. (x, y), refl)
low t (suc zero) b h = (literal true b, λ S r. refl, λ a hi m x y. (x, y), refl)
low t (suc (suc zero)) b h = (parameter false b, λ S r. refl, λ a hi m x y. (x, y), refl)
low t (suc (suc (suc zero))) b h = (parameter true b, λ S r. refl, λ a hi m x y. (x, y), refl)
low t (suc (suc (suc (suc k)))) b h = absurd (omega arith)

same_at : (m : List ℕ) (i x k : ℕ) → k ≡ i → i < length m → get_or (set m i x) k 0 ≡ x
same_at m i x k e h = rw e (get_or-set_same m i x 0 h)

pub part_low : (t : List ℕ) (n i d : ℕ) (m w : List ℕ) (top q s0 st s k : ℕ) → Has t n m → Spelled t s k (get_or (tokens_of t) i (token false 0 [])) → i < n → top + 4 ≤ length w → q ≡ part_tag (code_at (tokens_from t i)) → q < 4 → st ≡ tag_stage q (take k (drop s t)) → GotPart t n i d w (set (set (set w (top + 1) q) (top + 2) s) (top + 3) k) top (i + 1) (top + 4) s0 (max s0 st)
part_low t n i d m w top q s0 st s k h sp l z e f g =
    let p = get_or (tokens_of t) i (token false 0 []) in
    let e1 : q ≡ part_tag (token_code p) = e ∙ ap (λ ps. part_tag (code_at ps)) (here i h l) in
    let v = view_low (view p) (omega (arith, e1)) in
    let x = low t p.kind p.bytes v.1 in
    let tb : take k (drop s t) ≡ p.bytes = sp v.1 in
    let w1 = set w (top + 1) q in
    let w2 = set w1 (top + 2) s in
    let bytes : BytesAt t p.bytes (set w2 (top + 3) k) (top + 2) (top + 3) = rw (get_or-set_other w2 (top + 3) (top + 2) k 0 (omega arith), get_or-set_same w1 (top + 2) s 0 (omega (arith, length-set w (top + 1) q)), get_or-set_same w2 (top + 3) k 0 (omega (arith, length-set w1 (top + 2) s, length-set w (top + 1) q))) tb in
    let qk : q ≡ p.kind = e1 ∙ v.0 in
    let stg : st ≡ part_stage x.0 = g ∙ (ap (λ b. tag_stage q b) tb ∙ (ap (λ z. tag_stage z p.bytes) qk ∙ sym x.3)) in
    record { tree = x.0; is = ap (parse_part (level d)) (here i h l) ∙ x.1 (level d) (tokens_from t (i + 1)); coded = (x.2 top (top + 4) _ (get_or-set_other w2 (top + 3) (top + 1) k 0 (omega arith) ∙ (get_or-set_other w1 (top + 2) (top + 1) s 0 (omega arith) ∙ (get_or-set_same w (top + 1) q 0 (omega arith) ∙ qk))) bytes, omega arith); staged = ap (max s0) stg; kept = λ j a b. get_or-set_other w2 (top + 3) j k 0 (omega arith) ∙ (get_or-set_other w1 (top + 2) j s 0 (omega arith) ∙ get_or-set_other w (top + 1) j q 0 (omega arith)); goes = omega arith; within = omega arith; above = omega arith; fits = omega (arith, length-set w2 (top + 3) k, length-set w1 (top + 2) s, length-set w (top + 1) q); room = omega arith }

run_is : (k : ℕ) (b : List ℕ) → 5 ≤ k → k ≤ 6 → b ≡ [] → (f : Bool) × (k - 1 ≡ 4 + flag f) × ((S : Deeper) (r : List Token) → parse_part_go S k b r ≡ parse_substitution S f [] r)
run_is (suc (suc (suc (suc (suc zero))))) b x y e = (false, refl, λ S r. rw e)
run_is (suc (suc (suc (suc (suc (suc zero)))))) b x y e = (true, refl, λ S r. rw e)
run_is zero b x y e = absurd (omega arith)
run_is (suc zero) b x y e = absurd (omega arith)
run_is (suc (suc zero)) b x y e = absurd (omega arith)
run_is (suc (suc (suc zero))) b x y e = absurd (omega arith)
run_is (suc (suc (suc (suc zero)))) b x y e = absurd (omega arith)
run_is (suc (suc (suc (suc (suc (suc (suc k))))))) b x y e = absurd (omega arith)

module _ (t : List ℕ) (n i d : ℕ) (m : List ℕ) (q : ℕ) (h : Has t n m) (l : i < n) (e : q ≡ part_tag (code_at (tokens_from t i))) (ne : q ≢ 4) (ge : 4 ≤ q) where
  abbrev Runs : Type 0
  Runs = (f : Bool) × (q - 1 ≡ 4 + flag f) × (parse_part (level d) (tokens_from t i) ≡ parse_substitution (level d) f [] (tokens_from t (i + 1)))

  runs : Runs
  runs =
      let p = get_or (tokens_of t) i (token false 0 []) in
      let e1 : q ≡ part_tag (token_code p) = e ∙ ap (λ ps. part_tag (code_at ps)) (here i h l) in
      let v = view_run (view p) (omega (arith, e1)) in
      let r = run_is p.kind p.bytes v.1 v.2 v.3 in
      (r.0, subst (λ z. z - 1 ≡ 4 + flag r.0) (sym (e1 ∙ v.0)) r.1, ap (parse_part (level d)) (here i h l) ∙ r.2 (level d) (tokens_from t (i + 1)))

  pub run_none : (level d).lists true (tokens_from t (i + 1)) ≡ none → parse_part (level d) (tokens_from t i) ≡ none
  run_none x = runs.2 ∙ rw x

  pub run_open : {w1 : List ℕ} {j free top link s0 s : ℕ} {w0 : List ℕ} → GotList t n (i + 1) d true w0 w1 top link j free s0 s → (code_at (tokens_from t j) ≡ 41 → ⊥) → parse_part (level d) (tokens_from t i) ≡ none
  run_open {j = j} g x = runs.2 ∙ rw g.is (ap (λ o. on_some o (λ r1. some (substitution runs.0 g.tree, r1))) (eat_no (sign (41 ∷ [])) (tokens_from t j) (λ y. x (y ∙ code_41))))

  pub run_got : {w w1 : List ℕ} {top j free s0 s : ℕ} → top + 4 ≤ length w → (y : ℕ) → y + 1 ≡ q → GotList t n (i + 1) d true (set w (top + 1) y) w1 (top + 4) (top + 2) j free (max s0 2) s → code_at (tokens_from t j) ≡ 41 → j < n → GotPart t n i d w w1 top (j + 1) free s0 s
  run_got {w} {w1} {top} {j} {free} {s0} {s} z y ye g x in1 =
      let yr : y ≡ q - 1 = omega (arith, ye) in
      let a : expect (sign (41 ∷ [])) (tokens_from t j) ≡ some (tokens_from t (j + 1)) = eat_sign (41 ∷ []) (tokens_from t j) (x ∙ sym code_41) (omega (arith, code_41)) (omega (arith, code_41)) ∙ ap (λ ps. some (after_first ps)) (here j h in1) in
      record { tree = substitution runs.0 g.tree; is = runs.2 ∙ rw g.is (ap (λ o. on_some o (λ r1. some (substitution runs.0 g.tree, r1))) a); coded = ((g.kept (top + 1) (omega arith) (omega arith) ∙ (get_or-set_same w (top + 1) y 0 (omega arith) ∙ (yr ∙ runs.1)), g.coded), g.above); staged = omega (arith, g.staged); kept = λ k u v. g.kept k (omega arith) (omega arith) ∙ get_or-set_other w (top + 1) k y 0 (omega arith); goes = omega (arith, g.goes); within = omega arith; above = omega (arith, g.above); fits = g.fits; room = omega (arith, g.room, g.goes) }

pub more_holds : (t : List ℕ) (n i d : ℕ) (m w : List ℕ) (top link s : ℕ) → Has t n m → i ≤ n → top ≤ length w → link < top → Chain Word word_stage (parse_more_go (level d)) (PartsAt t) t n i w w top link i top link s s
more_holds t n i d m w top link s h = chain Word word_stage (parse_more_go (level d)) (PartsAt t) t n i w top link s h.count

module _ (d : ℕ) {t : List ℕ} {n i0 : ℕ} {w0 w : List ℕ} {top link i free p s0 s : ℕ} (h : Chain Word word_stage (parse_more_go (level d)) (PartsAt t) t n i0 w0 w top link i free p s0 s) (k : ℕ) (ke : k ≡ code_at (tokens_from t i)) where
  gl : {b : Bool} → b ≡ joins k → next_joined (tokens_from t i) ≡ b
  gl e = glued_is (tokens_from t i) ∙ (ap joins (sym ke) ∙ sym e)

  pub more_ends : false ≡ joins k → GotMore t n i0 d w0 (set w p 0) top link i free s0 s
  more_ends e = finish Word word_stage (parse_more_go (level d)) (PartsAt t) t n i0 w0 top link s0 h no_parts (λ m. rw (gl e)) (λ v x. x) refl

  pub more_fails : true ≡ joins k → parse_part (level d) (tokens_from t i) ≡ none → parse_more (level d) (tokens_from t i0) ≡ none
  more_fails e f = fail Word word_stage (parse_more_go (level d)) (PartsAt t) t n i0 w0 top link s0 h (λ m. rw (gl e, f))

  pub more_steps : true ≡ joins k → {w1 : List ℕ} {j free1 s1 : ℕ} → GotPart t n i d (set w p free) w1 free j free1 s s1 → Chain Word word_stage (parse_more_go (level d)) (PartsAt t) t n i0 w0 w1 top link j free1 free s0 s1
  more_steps e {w1} {j} {free1} {s1} g = step Word word_stage (parse_more_go (level d)) (PartsAt t) t n i0 w0 top link s0 h (λ x. and_part g.tree x) w1 j free1 (λ m. rw (gl e, g.is)) (omega (arith, g.room, g.above, g.within)) g.within (omega (arith, g.coded.1)) g.fits (λ x y. g.kept x y (omega arith)) (omega (arith, g.room)) (λ v hi le q l a y. (free, free1, (a, omega arith, omega (arith, h.at_p), g.coded.1, le), part_frame t w1 v g.tree free free1 (omega (arith, g.coded.1)) (λ x u z. q x z (omega arith)) g.coded.0, y)) s1 (λ l. omega (arith, g.staged))

pub word_sticky : (t : List ℕ) (i d k : ℕ) → k ≡ code_at (tokens_from t i) → true ≡ joins k → parse_word (level d) (tokens_from t i) ≡ none
word_sticky t i d k e f = rw (glued_is (tokens_from t i) ∙ (ap joins (sym e) ∙ sym f))

pub word_no_part : (t : List ℕ) (i d k : ℕ) → k ≡ code_at (tokens_from t i) → false ≡ joins k → parse_part (level d) (tokens_from t i) ≡ none → parse_word (level d) (tokens_from t i) ≡ none
word_no_part t i d k e f g = rw (glued_is (tokens_from t i) ∙ (ap joins (sym e) ∙ sym f), g)

module _ (t : List ℕ) (n i d : ℕ) (w : List ℕ) (top link s : ℕ) {w1 : List ℕ} {j free1 k s1 : ℕ} (e : k ≡ code_at (tokens_from t i)) (f : false ≡ joins k) (g : GotPart t n i d (set w link top) w1 top j free1 s s1) where
  gl2 : next_joined (tokens_from t i) ≡ false
  gl2 = glued_is (tokens_from t i) ∙ (ap joins (sym e) ∙ sym f)

  pub word_none : parse_more (level d) (tokens_from t j) ≡ none → parse_word (level d) (tokens_from t i) ≡ none
  word_none x = rw (gl2, g.is, x)

  pub word_got : link < top → top ≤ length w → {w2 : List ℕ} {j2 free2 s2 : ℕ} → GotMore t n j d w1 w2 free1 top j2 free2 s1 s2 → GotWord t n i d w w2 top link j2 free2 s s2
  word_got lt le {w2} {j2} {free2} {s2} m = record { tree = and_part g.tree m.tree; is = rw (gl2, g.is, m.is); coded = (top, free1, (m.kept link (omega (arith, g.above)) (omega arith) ∙ (g.kept link lt (omega arith) ∙ get_or-set_same w link top 0 (omega arith)), omega arith, omega arith, g.coded.1, m.above), part_frame t w1 w2 g.tree top free1 (omega (arith, g.coded.1)) (λ x u z. m.kept x z (omega arith)) g.coded.0, m.coded); staged = omega (arith, m.staged, g.staged); kept = λ x u v. m.kept x (omega (arith, g.above)) (omega arith) ∙ (g.kept x u (omega arith) ∙ get_or-set_other w link x top 0 v); goes = omega (arith, g.goes, m.goes); within = m.within; above = omega (arith, g.above, m.above); fits = m.fits; room = omega (arith, g.room, m.room) }
