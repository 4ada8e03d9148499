-- Chains of && and ||, from the first to the last.
use Rattle.std.proofs.Common.{◌≡◌, ℕ, zero, suc, ◌+◌, ◌-◌, ◌*◌, ◌<◌, ◌≤◌, max, true, false, T, eqb, ◌≢◌, ◌⊎◌, List, length, get_or, set, sym, refl, ◌∙◌, subst, inl, inr, arith, eqb→eq, length-drop, length-set}
use mathlib.Core.Option.{some, none}
use Rattle.std.proofs.lemmas.List.{get_or-set_same, get_or-set_other}
use Rattle.syntax.specs.Tree.{AndOr, first, joined}
use Rattle.syntax.specs.Stage.{and_or_stage, pipeline_stage}
use Rattle.grammar.specs.Parser.{level, parse_negatable, parse_and_or_go, parse_and_or, joiner_at}
use Rattle.lexer.specs.Stored.{tokens_of, tokens_from, code_at, Has}
use Rattle.grammar.proofs.Fit.{by_bool}
use Rattle.lexer.proofs.Next.{eqb_yes}
use Rattle.code.specs.Layout.{flag, AndOrAt}
use Rattle.reader.specs.Reading.{GotNegatable, GotAndOr}
use Rattle.reader.proofs.Basics.{max_assoc}
use Rattle.reader.proofs.Frame.{pipeline_frame, and_or_frame}
use Rattle.reader.proofs.Expects.{got_and_sign, no_and_sign, got_or_sign, no_or_sign}

joiner_yes : {t : List ℕ} {n : ℕ} {m : List ℕ} → Has t n m → (i k : ℕ) → k ≡ code_at (tokens_from t i) → i < n → 42 ≤ k → k ≤ 43 → joiner_at (tokens_from t i) ≡ some (eqb k 42, tokens_from t (i + 1))
joiner_yes {t} h i k ke l a b = by_bool (λ x. joiner_at (tokens_from t i) ≡ some (x, tokens_from t (i + 1))) (eqb k 42) (λ e. rw (got_and_sign h i l (sym ke ∙ eqb→eq k 42 (subst T (sym e) tt)))) (λ e. let q : k ≡ 43 = other e in rw (no_and_sign h i (omega (arith, q, ke)), got_or_sign h i l (sym ke ∙ q)))
  where
    other : eqb k 42 ≡ false → k ≡ 43
    other e = low k refl
      where
        low : (j : ℕ) → j ≡ k → k ≡ 43
        low j f = by_bool (λ x. eqb k 43 ≡ x → k ≡ 43) (eqb k 43) (λ x y. eqb→eq k 43 (subst T (sym x) tt)) (λ x y. absurd (omega (arith, not_eq 42 e, not_eq 43 x))) refl
          where
            not_eq : (v : ℕ) → eqb k v ≡ false → k ≢ v
            not_eq v x y = absurd (subst T (x' v x y) tt)
              where
                x' : (v : ℕ) → eqb k v ≡ false → k ≡ v → true ≡ false
                x' v x y = sym (eqb_yes k v y) ∙ x

joiner_no : {t : List ℕ} {n : ℕ} {m : List ℕ} → Has t n m → (i k : ℕ) → k ≡ code_at (tokens_from t i) → (k < 42) ⊎ (43 < k) → joiner_at (tokens_from t i) ≡ none
joiner_no h i k ke (inl a) = rw (no_and_sign h i (omega (arith, ke)), no_or_sign h i (omega (arith, ke)))
joiner_no h i k ke (inr a) = rw (no_and_sign h i (omega (arith, ke)), no_or_sign h i (omega (arith, ke)))

flag_is : (k : ℕ) → 42 ≤ k → k ≤ 43 → 43 - k ≡ flag (eqb k 42)
flag_is k a b = by_bool (λ x. eqb k 42 ≡ x → 43 - k ≡ flag x) (eqb k 42) (λ e f. let q = eqb→eq k 42 (subst T (sym e) tt) in omega arith) (λ e f. let q : k ≢ 42 = λ z. absurd (subst T (sym (eqb_yes k 42 z) ∙ e) tt) in omega arith) refl

pub record Joining (t : List ℕ) (n i0 d : ℕ) (w0 w : List ℕ) (top i free node s0 s : ℕ) : Type 0 where
  pub tree : AndOr
  pub fuel : ℕ
  pub enough : length (tokens_from t i) < fuel
  pub says : parse_and_or (level d) (tokens_from t i0) ≡ parse_and_or_go (level d) fuel tree (tokens_from t i)
  pub coded : AndOrAt t tree top free w node
  pub staged : s ≡ max s0 (and_or_stage tree)
  pub kept : (k : ℕ) → k < top → get_or w k 0 ≡ get_or w0 k 0
  pub goes : i0 ≤ i
  pub within : i ≤ n
  pub starts : 0 < top
  pub low : top ≤ node
  pub high : node + 4 ≤ free
  pub fits : free ≤ length w
  pub room : free + (16 * i0 + 7) ≤ top + (16 * i + 16)

pub joining : (t : List ℕ) (n i d : ℕ) (w : List ℕ) (top s : ℕ) {w1 : List ℕ} {j free s1 : ℕ} → 0 < top → GotNegatable t n i d w w1 top j free s s1 → Joining t n i d w (set w1 top 0) top j free top s s1
joining t n i d w top s {w1} {j} {free} {s1} z g =
    let hi = g.coded.0 in
    record { tree = first g.tree.0 g.tree.1; fuel = suc (length (tokens_from t j)); enough = omega arith; says = rw g.is; coded = (omega arith, hi, get_or-set_same w1 top 0 0 (omega (arith, g.fits)), get_or-set_other w1 top (top + 2) 0 0 (omega arith) ∙ g.coded.1, pipeline_frame t w1 (set w1 top 0) g.tree.1 (top + 4) free (top + 3) (λ k x y. get_or-set_other w1 top k 0 0 (omega arith)) (get_or-set_other w1 top (top + 3) 0 0 (omega arith)) g.coded.2); staged = g.staged; kept = λ k x. get_or-set_other w1 top k 0 0 (omega arith) ∙ g.kept k x (omega arith); goes = g.goes; within = g.within; starts = z; low = omega arith; high = hi; fits = omega (arith, g.fits, length-set w1 top 0); room = g.room }

module _ (d : ℕ) {t : List ℕ} {n i0 : ℕ} {m w0 w : List ℕ} (hs : Has t n m) {top i free node s0 s : ℕ} (h : Joining t n i0 d w0 w top i free node s0 s) (k : ℕ) (ke : k ≡ code_at (tokens_from t i)) where
  stopped : (f : ℕ) → length (tokens_from t i) < f → joiner_at (tokens_from t i) ≡ none → parse_and_or_go (level d) f h.tree (tokens_from t i) ≡ some (h.tree, tokens_from t i)
  stopped zero a e = absurd (omega arith)
  stopped (suc f) a e = rw e

  pub and_or_end : (link : ℕ) → link < top → (k < 42) ⊎ (43 < k) → GotAndOr t n i0 d w0 (set w link node) top link i free s0 s
  and_or_end link l e =
      let lo = h.low in
      let hi = h.high in
      let sm = get_or-set_same w link node 0 (omega (arith, h.fits)) in
      record { tree = h.tree; is = h.says ∙ stopped h.fuel h.enough (joiner_no hs i k ke e); coded = rw sm (and_or_frame t w (set w link node) h.tree top free node (λ x u v. get_or-set_other w link x node 0 (omega arith)) h.coded); staged = h.staged; kept = λ x u v. get_or-set_other w link x node 0 v ∙ h.kept x u; goes = h.goes; within = h.within; above = omega arith; fits = omega (arith, h.fits, length-set w link node); room = h.room }

  module _ (a : 42 ≤ k) (b : k ≤ 43) (l : i < n) where
    failed : (f : ℕ) → length (tokens_from t i) < f → parse_negatable (level d) (tokens_from t (i + 1)) ≡ none → parse_and_or_go (level d) f h.tree (tokens_from t i) ≡ none
    failed zero x e = absurd (omega arith)
    failed (suc f) x e = rw (joiner_yes hs i k ke l a b, e)

    pub and_or_fail : parse_negatable (level d) (tokens_from t (i + 1)) ≡ none → parse_and_or (level d) (tokens_from t i0) ≡ none
    and_or_fail e = h.says ∙ failed h.fuel h.enough e

    pub and_or_step : (y : ℕ) → y ≡ 43 - k → {w1 : List ℕ} {j free1 s1 : ℕ} → GotNegatable t n (i + 1) d w w1 free j free1 s s1 → Joining t n i0 d w0 (set (set w1 free node) (free + 1) y) top j free1 free s0 s1
    and_or_step y ye {w1} {j} {free1} {s1} g =
        let lo = h.low in
        let hi = h.high in
        let st = h.starts in
        let gh = g.coded.0 in
        let gf = g.fits in
        let gw = g.within in
        let gg = g.goes in
        let v1 = set w1 free node in
        let far : (x : ℕ) → x ≢ free → x ≢ free + 1 → get_or (set v1 (free + 1) y) x 0 ≡ get_or w1 x 0 = λ x u v. get_or-set_other v1 (free + 1) x y 0 v ∙ get_or-set_other w1 free x node 0 u in
        let u = more h.fuel h.enough g in
        record { tree = joined h.tree (eqb k 42) g.tree.0 g.tree.1; fuel = u.0; enough = u.1; says = h.says ∙ u.2; coded = (node, omega arith, gh, get_or-set_other v1 (free + 1) free y 0 (omega arith) ∙ get_or-set_same w1 free node 0 (omega arith), omega arith, get_or-set_same v1 (free + 1) y 0 (omega (arith, length-set w1 free node)) ∙ (ye ∙ flag_is k a b), far (free + 2) (omega arith) (omega arith) ∙ g.coded.1, and_or_frame t w (set v1 (free + 1) y) h.tree top free node (λ x y z. far x (omega arith) (omega arith) ∙ g.kept x z (omega arith)) h.coded, pipeline_frame t w1 (set v1 (free + 1) y) g.tree.1 (free + 4) free1 (free + 3) (λ x y z. far x (omega arith) (omega arith)) (far (free + 3) (omega arith) (omega arith)) g.coded.2); staged = rw (g.staged, h.staged) (max_assoc s0 (and_or_stage h.tree) (pipeline_stage g.tree.1)); kept = λ x y. far x (omega arith) (omega arith) ∙ (g.kept x (omega arith) (omega arith) ∙ h.kept x y); goes = omega (arith, h.goes); within = gw; starts = st; low = omega arith; high = gh; fits = omega (arith, length-set v1 (free + 1) y, length-set w1 free node); room = omega (arith, h.room, g.room) }
      where
        more : (f : ℕ) → length (tokens_from t i) < f → (g : GotNegatable t n (i + 1) d w w1 free j free1 s s1) → (q : ℕ) × (length (tokens_from t j) < q) × (parse_and_or_go (level d) f h.tree (tokens_from t i) ≡ parse_and_or_go (level d) q (joined h.tree (eqb k 42) g.tree.0 g.tree.1) (tokens_from t j))
        more zero x g = absurd (omega arith)
        more (suc f) x g = (f, omega (arith, g.goes, g.within, length-drop j (tokens_of t), length-drop i (tokens_of t), hs.count), rw (joiner_yes hs i k ke l a b, g.is))

-- the words before the chain may be taken from before its first pipeline
pub rebased : {t : List ℕ} {n i0 d : ℕ} {v w : List ℕ} {top i free node s0 s : ℕ} (w0 : List ℕ) → ((k : ℕ) → k < top → get_or v k 0 ≡ get_or w0 k 0) → Joining t n i0 d v w top i free node s0 s → Joining t n i0 d w0 w top i free node s0 s
rebased w0 e h = record { tree = h.tree; fuel = h.fuel; enough = h.enough; says = h.says; coded = h.coded; staged = h.staged; kept = λ k x. h.kept k x ∙ e k x; goes = h.goes; within = h.within; starts = h.starts; low = h.low; high = h.high; fits = h.fits; room = h.room }

pub negated_kept : (t : List ℕ) (n i d : ℕ) (w : List ℕ) (top s : ℕ) {w1 : List ℕ} {j free s1 : ℕ} → GotNegatable t n i d w w1 top j free s s1 → (k : ℕ) → k < top → get_or (set w1 top 0) k 0 ≡ get_or w k 0
negated_kept t n i d w top s {w1} g k l = get_or-set_other w1 top k 0 0 (omega arith) ∙ g.kept k l (omega arith)

pub joining_at : (t : List ℕ) (n i d : ℕ) (w : List ℕ) (top s : ℕ) {w1 : List ℕ} {j free s1 : ℕ} → 0 < top → GotNegatable t n i d w w1 top j free s s1 → Joining t n i d (set w1 top 0) (set w1 top 0) top j free top s s1
joining_at t n i d w top s {w1} z g = let h = joining t n i d w top s z g in record { tree = h.tree; fuel = h.fuel; enough = h.enough; says = h.says; coded = h.coded; staged = h.staged; kept = λ k x. refl; goes = h.goes; within = h.within; starts = h.starts; low = h.low; high = h.high; fits = h.fits; room = h.room }
