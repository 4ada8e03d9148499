-- A chain that is made from the front: whatever is coded at the open link later, the whole is coded then.
use Rattle.std.proofs.Common.{◌≡◌, ℕ, zero, suc, ◌+◌, ◌*◌, ◌<◌, ◌≤◌, max, ◌≢◌, ◌⊎◌, List, length, get_or, set, sym, refl, ap, ◌∙◌, inl, inr, arith, length-drop, length-set}
use mathlib.Core.Option.{some, none}
use Rattle.std.proofs.lemmas.List.{get_or-set_same, get_or-set_other}
use Rattle.syntax.specs.Base.{on_some}
use Rattle.grammar.specs.Tokens.{Token}
use Rattle.grammar.specs.Parser.{Parsed}
use Rattle.lexer.specs.Stored.{tokens_of, tokens_from}
use Rattle.reader.specs.Reading.{Made}

pub record Chain (A : Type 0) (St : A → ℕ) (F : ℕ → List Token → Parsed A) (At : A → ℕ → ℕ → List ℕ → ℕ → Type 0) (t : List ℕ) (n i0 : ℕ) (w0 w : List ℕ) (top link i free p s0 s : ℕ) : Type 0 where
  pub wrap : A → A
  pub fuel : ℕ
  pub enough : length (tokens_from t i) < fuel
  pub says : F (suc (length (tokens_from t i0))) (tokens_from t i0) ≡ on_some (F fuel (tokens_from t i)) (λ y. some (wrap y.0, y.1))
  pub codes : (v : List ℕ) (hi : ℕ) → free ≤ hi → ((k : ℕ) → k < free → k ≢ p → get_or v k 0 ≡ get_or w k 0) → (l : A) → At l free hi v p → At (wrap l) top hi v link
  pub staged : (l : A) → max s0 (St (wrap l)) ≡ max s (St l)
  pub count : length (tokens_of t) ≡ n
  pub kept : (k : ℕ) → k < top → k ≢ link → get_or w k 0 ≡ get_or w0 k 0
  pub goes : i0 ≤ i
  pub within : i ≤ n
  pub above : top ≤ free
  pub fits : free ≤ length w
  pub at_p : p < free
  pub far : (p ≡ link) ⊎ (top ≤ p)
  pub room : free + 16 * i0 ≤ top + 16 * i

module _ (A : Type 0) (St : A → ℕ) (F : ℕ → List Token → Parsed A) (At : A → ℕ → ℕ → List ℕ → ℕ → Type 0) (t : List ℕ) (n i0 : ℕ) (w0 : List ℕ) (top link s0 : ℕ) where
  eta : (o : Parsed A) → o ≡ on_some o (λ y. some (y.0, y.1))
  eta none = refl
  eta (some x) = refl

  pub chain : length (tokens_of t) ≡ n → i0 ≤ n → top ≤ length w0 → link < top → Chain A St F At t n i0 w0 w0 top link i0 top link s0 s0
  chain h a b c = record { wrap = λ l. l; fuel = suc (length (tokens_from t i0)); enough = omega arith; says = eta _; codes = λ v hi le s l x. x; staged = λ l. refl; count = h; kept = λ k x y. refl; goes = omega arith; within = a; above = omega arith; fits = b; at_p = c; far = inl refl; room = omega arith }

  module _ {w : List ℕ} {i free p s : ℕ} (h : Chain A St F At t n i0 w0 w top link i free p s0 s) where
    far_kept : (v : ℕ) (k : ℕ) → k < top → k ≢ link → get_or (set w p v) k 0 ≡ get_or w k 0
    far_kept v k a b = go h.far
      where
        go : (p ≡ link) ⊎ (top ≤ p) → get_or (set w p v) k 0 ≡ get_or w k 0
        go (inl e) = get_or-set_other w p k v 0 (λ c. b (c ∙ e))
        go (inr e) = get_or-set_other w p k v 0 (omega arith)

    wrapped : (K H : A → A) (o : Parsed A) → on_some {A = A × List Token} {C = A × List Token} (on_some {A = A × List Token} {C = A × List Token} o (λ y. some (K y.0, y.1))) (λ y. some (H y.0, y.1)) ≡ on_some o (λ y. some (H (K y.0), y.1))
    wrapped K H none = refl
    wrapped K H (some y) = refl

    turn : (K : A → A) (j : ℕ) (f : ℕ) → length (tokens_from t i) < f → length (tokens_from t j) < length (tokens_from t i) → ((m : ℕ) → F (suc m) (tokens_from t i) ≡ on_some (F m (tokens_from t j)) (λ y. some (K y.0, y.1))) → (X : Parsed A) → X ≡ on_some (F f (tokens_from t i)) (λ y. some (h.wrap y.0, y.1)) → (m : ℕ) × (length (tokens_from t j) < m) × (X ≡ on_some (F m (tokens_from t j)) (λ y. some (h.wrap (K y.0), y.1)))
    turn K j zero a b e X x = absurd (omega arith)
    turn K j (suc f) a b e X x = (f, omega arith, x ∙ (ap (λ o. on_some o (λ y. some (h.wrap y.0, y.1))) (e f) ∙ wrapped K h.wrap (F f (tokens_from t j))))

    shorter : (j : ℕ) → i < j → j ≤ n → length (tokens_from t j) < length (tokens_from t i)
    shorter j a b = omega (arith, length-drop j (tokens_of t), length-drop i (tokens_of t), h.count)

    -- one more cell, at free; its link is its first word
    pub step : (K : A → A) (w1 : List ℕ) (j free1 : ℕ) → ((m : ℕ) → F (suc m) (tokens_from t i) ≡ on_some (F m (tokens_from t j)) (λ y. some (K y.0, y.1))) → i < j → j ≤ n → free < free1 → free1 ≤ length w1 → ((k : ℕ) → k < free → get_or w1 k 0 ≡ get_or (set w p free) k 0) → free1 + 16 * i ≤ free + 16 * j → ((v : List ℕ) (hi : ℕ) → free1 ≤ hi → ((k : ℕ) → k < free1 → k ≢ free → get_or v k 0 ≡ get_or w1 k 0) → (l : A) → get_or v p 0 ≡ free → At l free1 hi v free → At (K l) free hi v p) → (s1 : ℕ) → ((l : A) → max s (St (K l)) ≡ max s1 (St l)) → Chain A St F At t n i0 w0 w1 top link j free1 free s0 s1
    step K w1 j free1 e a b c z sm r cd s1 sk =
        let u = turn K j h.fuel h.enough (shorter j a b) e _ h.says in
        record { wrap = λ l. h.wrap (K l); fuel = u.0; enough = u.1; says = u.2; codes = λ v hi le q l y. h.codes v hi (omega arith) (λ k m o. q k (omega arith) (omega arith) ∙ (sm k m ∙ get_or-set_other w p k free 0 o)) (K l) (cd v hi le q l (q p (omega (arith, h.at_p)) (omega (arith, h.at_p)) ∙ (sm p h.at_p ∙ get_or-set_same w p free 0 (omega (arith, h.at_p, h.fits)))) y); staged = λ l. h.staged (K l) ∙ sk l; count = h.count; kept = λ k m o. sm k (omega (arith, h.above)) ∙ (far_kept free k m o ∙ h.kept k m o); goes = omega (arith, h.goes); within = b; above = omega (arith, h.above); fits = z; at_p = c; far = inr h.above; room = omega (arith, h.room) }

    stopped : (z : A) (j : ℕ) (f : ℕ) → length (tokens_from t i) < f → ((m : ℕ) → F (suc m) (tokens_from t i) ≡ some (z, tokens_from t j)) → (X : Parsed A) → X ≡ on_some (F f (tokens_from t i)) (λ y. some (h.wrap y.0, y.1)) → X ≡ some (h.wrap z, tokens_from t j)
    stopped z j zero a e X x = absurd (omega arith)
    stopped z j (suc f) a e X x = x ∙ ap (λ o. on_some o (λ y. some (h.wrap y.0, y.1))) (e f)

    -- the end: 0 at the open link
    pub finish : (z : A) → ((m : ℕ) → F (suc m) (tokens_from t i) ≡ some (z, tokens_from t i)) → ((v : List ℕ) → get_or v p 0 ≡ 0 → At z free free v p) → St z ≡ 0 → Made A St (F (suc (length (tokens_from t i0))) (tokens_from t i0)) (λ x hi m. At x top hi m link) t n i0 w0 (set w p 0) top link 16 i free s0 s
    finish z e c zs = record { tree = h.wrap z; is = stopped z i h.fuel h.enough e _ h.says; coded = h.codes (set w p 0) free (omega arith) (λ k a b. get_or-set_other w p k 0 0 b) z (c (set w p 0) (get_or-set_same w p 0 0 (omega (arith, h.at_p, h.fits)))); staged = sym (h.staged z ∙ omega (arith, zs)); kept = λ k a b. far_kept 0 k a b ∙ h.kept k a b; goes = h.goes; within = h.within; above = h.above; fits = omega (arith, h.fits, length-set w p 0); room = omega (arith, h.room) }

    broken : (f : ℕ) → length (tokens_from t i) < f → ((m : ℕ) → F (suc m) (tokens_from t i) ≡ none) → (X : Parsed A) → X ≡ on_some (F f (tokens_from t i)) (λ y. some (h.wrap y.0, y.1)) → X ≡ none
    broken zero a e X x = absurd (omega arith)
    broken (suc f) a e X x = x ∙ ap (λ o. on_some o (λ y. some (h.wrap y.0, y.1))) (e f)

    pub fail : ((m : ℕ) → F (suc m) (tokens_from t i) ≡ none) → F (suc (length (tokens_from t i0))) (tokens_from t i0) ≡ none
    fail e = broken h.fuel h.enough e _ h.says

    -- nothing but tokens that make no cell
    pub skip : (j : ℕ) → ((m : ℕ) → F (suc m) (tokens_from t i) ≡ F m (tokens_from t j)) → i < j → j ≤ n → Chain A St F At t n i0 w0 w top link j free p s0 s
    skip j e a b =
        let u = turn (λ l. l) j h.fuel h.enough (shorter j a b) (λ m. e m ∙ eta (F m (tokens_from t j))) _ h.says in
        record { wrap = h.wrap; fuel = u.0; enough = u.1; says = u.2; codes = h.codes; staged = h.staged; count = h.count; kept = h.kept; goes = omega (arith, h.goes); within = b; above = h.above; fits = h.fits; at_p = h.at_p; far = h.far; room = omega (arith, h.room) }

    -- the end: a last cell at free
    pub close : (z : A) (w1 : List ℕ) (e j free1 s1 : ℕ) → ((m : ℕ) → F (suc m) (tokens_from t i) ≡ some (z, tokens_from t j)) → i ≤ j → j ≤ n → free ≤ free1 → free1 ≤ length w1 → ((k : ℕ) → k < free → get_or w1 k 0 ≡ get_or (set w p free) k 0) → (get_or w1 p 0 ≡ free → At z free free1 w1 p) → s1 ≡ max s (St z) → free1 + (16 * i + e) ≤ free + (16 * j + 16) → Made A St (F (suc (length (tokens_from t i0))) (tokens_from t i0)) (λ x hi m. At x top hi m link) t n i0 w0 w1 top link e j free1 s0 s1
    close z w1 e j free1 s1 f a b c y sm cd sg r = record { tree = h.wrap z; is = stopped z j h.fuel h.enough f _ h.says; coded = h.codes w1 free1 c (λ k x o. sm k x ∙ get_or-set_other w p k free 0 o) z (cd (sm p h.at_p ∙ get_or-set_same w p free 0 (omega (arith, h.at_p, h.fits)))); staged = sg ∙ sym (h.staged z); kept = λ k x o. sm k (omega (arith, h.above)) ∙ (far_kept free k x o ∙ h.kept k x o); goes = omega (arith, h.goes); within = b; above = omega (arith, h.above); fits = y; room = omega (arith, h.room) }
