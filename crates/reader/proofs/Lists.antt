-- Lists of commands, as chains.
use Rattle.std.proofs.Common.{◌≡◌, ℕ, suc, ◌+◌, ◌-◌, ◌<◌, ◌≤◌, max, Bool, true, false, ◌&&◌, T, eqb, leb, ◌≢◌, List, length, get_or, set, sym, refl, ◌∙◌, subst, arith, eqb→eq, leb→le, length-set}
use mathlib.Core.Option.{some, none}
use Rattle.std.proofs.lemmas.List.{get_or-set_same, get_or-set_other}
use Rattle.syntax.specs.Base.{pick}
use Rattle.syntax.specs.Tree.{CommandList, end, next}
use Rattle.syntax.specs.Stage.{list_stage, and_or_stage}
use Rattle.grammar.specs.Parser.{level, lookahead, ends_list, is_newline, parse_and_or, terminator_at, parse_list_go, parse_list}
use Rattle.lexer.specs.Stored.{tokens_from, code_at, Has}
use Rattle.grammar.proofs.Fit.{by_bool}
use Rattle.lexer.proofs.Next.{eqb_yes}
use Rattle.lexer.proofs.Runs.{leb_yes}
use Rattle.code.specs.Layout.{flag, ListAt}
use Rattle.reader.specs.Reading.{Made, GotAndOr, GotList}
use Rattle.reader.proofs.Basics.{max_assoc}
use Rattle.reader.proofs.Frame.{and_or_frame}
use Rattle.reader.proofs.Chains.{Chain, chain, step, skip, finish, close, fail}
use Rattle.reader.proofs.Levels.{lists_are}
use Rattle.reader.proofs.Expects.{got_newline_sign, no_newline_sign, got_semicolon_sign, no_semicolon_sign, got_ampersand_sign, no_ampersand_sign}

no_eqb : (k v : ℕ) → eqb k v ≡ false → k ≢ v
no_eqb k v e f = absurd (subst T (sym (eqb_yes k v f) ∙ e) tt)

both : (a b : Bool) → true ≡ a && b → (a ≡ true) × (b ≡ true)
both true b e = (refl, sym e)
both false b e = absurd (subst T e tt)

pub inside : (k : ℕ) → true ≡ leb 32 k && leb k 34 → (32 ≤ k) × (k ≤ 34)
inside k e = let q = both (leb 32 k) (leb k 34) e in (leb→le 32 k (subst T (sym q.0) tt), leb→le k 34 (subst T (sym q.1) tt))

outside : (k v : ℕ) → false ≡ leb 32 k && leb k 34 → 32 ≤ v → v ≤ 34 → k ≢ v
outside k v e a b f = let q : leb 32 k && leb k 34 ≡ true = rw (leb_yes 32 k (omega arith), leb_yes k 34 (omega arith)) in absurd (subst T (sym (e ∙ q)) tt)

terminator_yes : {t : List ℕ} {n : ℕ} {m : List ℕ} → Has t n m → (i k : ℕ) → k ≡ code_at (tokens_from t i) → i < n → true ≡ leb 32 k && leb k 34 → terminator_at (tokens_from t i) ≡ some (eqb k 34, tokens_from t (i + 1))
terminator_yes {t} h i k ke l e = by_bool (λ x. terminator_at (tokens_from t i) ≡ some (x, tokens_from t (i + 1))) (eqb k 34) (λ f. let q = eqb→eq k 34 (subst T (sym f) tt) in rw (no_semicolon_sign h i (omega (arith, q, ke)), no_newline_sign h i (omega (arith, q, ke)), got_ampersand_sign h i l (sym ke ∙ q))) (λ f. low f)
  where
    low : eqb k 34 ≡ false → terminator_at (tokens_from t i) ≡ some (false, tokens_from t (i + 1))
    low f = by_bool (λ x. eqb k 32 ≡ x → terminator_at (tokens_from t i) ≡ some (false, tokens_from t (i + 1))) (eqb k 32) (λ g y. rw (got_semicolon_sign h i l (sym ke ∙ eqb→eq k 32 (subst T (sym g) tt)))) (λ g y. let r = inside k e in let q : k ≡ 33 = omega (arith, no_eqb k 34 f, no_eqb k 32 g, r.0, r.1) in rw (no_semicolon_sign h i (omega (arith, q, ke)), got_newline_sign h i l (sym ke ∙ q))) refl

terminator_no : {t : List ℕ} {n : ℕ} {m : List ℕ} → Has t n m → (i k : ℕ) → k ≡ code_at (tokens_from t i) → false ≡ leb 32 k && leb k 34 → terminator_at (tokens_from t i) ≡ none
terminator_no h i k ke e = rw (no_semicolon_sign h i (λ x. outside k 32 e (omega arith) (omega arith) (ke ∙ x)), no_newline_sign h i (λ x. outside k 33 e (omega arith) (omega arith) (ke ∙ x)), no_ampersand_sign h i (λ x. outside k 34 e (omega arith) (omega arith) (ke ∙ x)))

swapped : (s a b l : ℕ) → max s (max a (max b l)) ≡ max (max (max s a) b) l
swapped s a b l = sym (simp max_assoc)

pub list_hold : (t : List ℕ) (n i d : ℕ) (b : Bool) (m w : List ℕ) (top link s : ℕ) → Has t n m → i ≤ n → top ≤ length w → link < top → Chain CommandList list_stage (parse_list_go (level d) b) (ListAt t) t n i w w top link i top link s s
list_hold t n i d b m w top link s h = chain CommandList list_stage (parse_list_go (level d) b) (ListAt t) t n i w top link s h.count

fewer : (b : Bool) → pick b 4 16 ≤ 16
fewer true = omega arith
fewer false = omega arith

-- at the level that the list stands on
module _ (d : ℕ) (z : 0 < d) (t : List ℕ) (n i0 : ℕ) (b : Bool) where
  leveled : {w0 w : List ℕ} {top link j free s0 s : ℕ} (e : ℕ) → pick b 4 16 ≤ e → Made CommandList list_stage (parse_list (level (d - 1)) b (tokens_from t i0)) (λ x hi m. ListAt t x top hi m link) t n i0 w0 w top link e j free s0 s → GotList t n i0 d b w0 w top link j free s0 s
  leveled e l g = record { tree = g.tree; is = lists_are d b (tokens_from t i0) z ∙ g.is; coded = g.coded; staged = g.staged; kept = g.kept; goes = g.goes; within = g.within; above = g.above; fits = g.fits; room = omega (arith, g.room) }

  module _ {m w0 w : List ℕ} (hs : Has t n m) {top link i free p s0 s : ℕ} (h : Chain CommandList list_stage (parse_list_go (level (d - 1)) b) (ListAt t) t n i0 w0 w top link i free p s0 s) where
    failing : ((f : ℕ) → parse_list_go (level (d - 1)) b (suc f) (tokens_from t i) ≡ none) → (level d).lists b (tokens_from t i0) ≡ none
    failing e = lists_are d b (tokens_from t i0) z ∙ fail CommandList list_stage (parse_list_go (level (d - 1)) b) (ListAt t) t n i0 w0 top link s0 h e

    pub list_close : ends_list (lookahead (tokens_from t i)) ≡ true → GotList t n i0 d b w0 (set w p 0) top link i free s0 s
    list_close e = leveled 16 (fewer b) (finish CommandList list_stage (parse_list_go (level (d - 1)) b) (ListAt t) t n i0 w0 top link s0 h end (λ f. rw e) (λ v x. x) refl)

    module _ (e1 : ends_list (lookahead (tokens_from t i)) ≡ false) where
      module _ (e2 : is_newline (lookahead (tokens_from t i)) ≡ true) where
        pub list_blank : (i < n) × (code_at (tokens_from t i) ≡ 33) → Chain CommandList list_stage (parse_list_go (level (d - 1)) b) (ListAt t) t n i0 w0 w top link (i + 1) free p s0 s
        list_blank l = skip CommandList list_stage (parse_list_go (level (d - 1)) b) (ListAt t) t n i0 w0 top link s0 h (i + 1) (λ f. rw (e1, e2, got_newline_sign hs i l.0 l.1)) (omega arith) (omega arith)

      module _ (e2 : is_newline (lookahead (tokens_from t i)) ≡ false) where
        pub list_1 : parse_and_or (level (d - 1)) (tokens_from t i) ≡ none → (level d).lists b (tokens_from t i0) ≡ none
        list_1 x = failing (λ f. rw (e1, e2, x))

        module _ {w1 : List ℕ} {j f1 s1 : ℕ} (g : GotAndOr t n i (d - 1) (set w p free) w1 (free + 3) (free + 2) j f1 s s1) (k : ℕ) (ke : k ≡ code_at (tokens_from t j)) where
          pub list_next : (y : ℕ) → y ≡ flag (eqb k 34) → (s2 : ℕ) → s2 ≡ max s1 (pick (eqb k 34) 5 0) → true ≡ leb 32 k && leb k 34 → j < n → Chain CommandList list_stage (parse_list_go (level (d - 1)) b) (ListAt t) t n i0 w0 (set w1 (free + 1) y) top link (j + 1) f1 free s0 s2
          list_next y ye s2 se x l =
              let ga = g.above in
              let gf = g.fits in
              let v1 = set w1 (free + 1) y in
              step CommandList list_stage (parse_list_go (level (d - 1)) b) (ListAt t) t n i0 w0 top link s0 h (λ r. next g.tree (eqb k 34) r) v1 (j + 1) f1 (λ f. rw (e1, e2, g.is, terminator_yes hs j k ke l x)) (omega (arith, g.goes)) (omega arith) (omega arith) (omega (arith, length-set w1 (free + 1) y)) (λ c o. get_or-set_other w1 (free + 1) c y 0 (omega arith) ∙ g.kept c (omega arith) (omega arith)) (omega (arith, g.room)) (λ v hi le q r a o. (free, f1, get_or v (free + 2) 0, (a, omega arith, omega (arith, h.at_p), ga, le), q (free + 1) (omega arith) (omega arith) ∙ (get_or-set_same w1 (free + 1) y 0 (omega arith) ∙ ye), refl, rw (q (free + 2) (omega arith) (omega arith) ∙ get_or-set_other w1 (free + 1) (free + 2) y 0 (omega arith)) (and_or_frame t w1 v g.tree (free + 3) f1 (get_or w1 (free + 2) 0) (λ c u o. q c o (omega arith) ∙ get_or-set_other w1 (free + 1) c y 0 (omega arith)) g.coded), o)) s2 (λ r. rw (se, g.staged) (swapped s _ _ _))

          pub list_open : false ≡ leb 32 k && leb k 34 → b ≡ false → (level d).lists b (tokens_from t i0) ≡ none
          list_open x e = failing (λ f. rw (e1, e2, g.is, terminator_no hs j k ke x, e))

          pub list_last : false ≡ leb 32 k && leb k 34 → b ≡ true → (y : ℕ) → y ≡ 0 → GotList t n i0 d b w0 (set (set w1 (free + 1) y) free 0) top link j f1 s0 s1
          list_last x e y ye =
              let ga = g.above in
              let gf = g.fits in
              let v1 = set w1 (free + 1) y in
              let v2 = set v1 free 0 in
              let far : (c : ℕ) → c ≢ free → c ≢ free + 1 → get_or v2 c 0 ≡ get_or w1 c 0 = λ c u o. get_or-set_other v1 free c 0 0 u ∙ get_or-set_other w1 (free + 1) c y 0 o in
              leveled 4 (rw e (omega arith)) (close CommandList list_stage (parse_list_go (level (d - 1)) b) (ListAt t) t n i0 w0 top link s0 h (next g.tree false end) v2 4 j f1 s1 (λ f. rw (e1, e2, g.is, terminator_no hs j k ke x, e)) g.goes g.within (omega arith) (omega (arith, length-set v1 free 0, length-set w1 (free + 1) y)) (λ c o. far c (omega arith) (omega arith) ∙ g.kept c (omega arith) (omega arith)) (λ a. (free, f1, get_or v2 (free + 2) 0, (a, omega arith, omega (arith, h.at_p), ga, omega arith), get_or-set_other v1 free (free + 1) 0 0 (omega arith) ∙ (get_or-set_same w1 (free + 1) y 0 (omega arith) ∙ ye), refl, rw (far (free + 2) (omega arith) (omega arith)) (and_or_frame t w1 v2 g.tree (free + 3) f1 (get_or w1 (free + 2) 0) (λ c u o. far c (omega arith) (omega arith)) g.coded), get_or-set_same v1 free 0 0 (omega (arith, length-set w1 (free + 1) y)))) (g.staged ∙ same_max s (and_or_stage g.tree)) (omega (arith, g.room)))
            where
              same_max : (s a : ℕ) → max s a ≡ max s (max a (max 0 0))
              same_max s a = omega arith
