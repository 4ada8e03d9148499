-- What stands behind a then's list.
use Rattle.std.proofs.Common.{◌≡◌, ℕ, ◌+◌, ◌-◌, ◌<◌, ◌≤◌, max, false, ◌≢◌, List, length, get_or, set, sym, ◌∙◌, arith, length-set}
use mathlib.Core.Option.{some, none}
use Rattle.std.proofs.lemmas.List.{get_or-set_same, get_or-set_other}
use Rattle.syntax.specs.Tree.{no_redirects, if, no_else, else, single, first, end, next}
use Rattle.syntax.specs.Stage.{list_stage, else_stage}
use Rattle.grammar.specs.Parser.{level, parse_list}
use Rattle.lexer.specs.Stored.{tokens_from, code_at, Has}
use Rattle.reader.specs.Reading.{GotList, GotElse, Nest}
use Rattle.reader.proofs.Basics.{max_assoc}
use Rattle.reader.proofs.Frame.{list_frame}
use Rattle.reader.proofs.Levels.{lists_are, elses_are}
use Rattle.reader.proofs.Expects.{got_fi, no_fi, got_else, no_else_key, got_elif, no_elif, got_then, no_then}

module _ (t : List ℕ) (n i d : ℕ) (w : List ℕ) (top link s : ℕ) {m : List ℕ} (hs : Has t n m) (z : 0 < d) (le : top ≤ length w) (lt : link < top) where
  pub fi_got : i < n → code_at (tokens_from t i) ≡ 21 → GotElse t n i d w (set w link 0) top link (i + 1) top s s
  fi_got l e = record { tree = no_else; is = elses_are d (tokens_from t i) z ∙ rw (got_fi hs i l e); coded = get_or-set_same w link 0 0 (omega arith); staged = omega arith; kept = λ k x y. get_or-set_other w link k 0 0 y; goes = omega arith; within = omega arith; above = omega arith; fits = omega (arith, length-set w link 0); room = omega arith }

  module _ (nf : code_at (tokens_from t i) ≢ 21) where
    module _ (l : i < n) (e : code_at (tokens_from t i) ≡ 20) where
      pub else_none : (level d).lists false (tokens_from t (i + 1)) ≡ none → (level d).elses (tokens_from t i) ≡ none
      else_none f = elses_are d (tokens_from t i) z ∙ rw (no_fi hs i nf, got_else hs i l e, sym (lists_are d false (tokens_from t (i + 1)) z) ∙ f)

      module _ {w1 : List ℕ} {j f1 s1 : ℕ} (g : GotList t n (i + 1) d false (set w link top) w1 (top + 1) top j f1 s s1) where
        listed1 : parse_list (level (d - 1)) false (tokens_from t (i + 1)) ≡ some (g.tree, tokens_from t j)
        listed1 = sym (lists_are d false (tokens_from t (i + 1)) z) ∙ g.is

        pub else_open : (code_at (tokens_from t j) ≡ 21 → ⊥) → (level d).elses (tokens_from t i) ≡ none
        else_open f = elses_are d (tokens_from t i) z ∙ rw (no_fi hs i nf, got_else hs i l e, listed1, no_fi hs j f)

        pub else_got : (j < n) × (code_at (tokens_from t j) ≡ 21) → GotElse t n i d w w1 top link (j + 1) f1 s s1
        else_got q =
            let ga = g.above in
            record { tree = else g.tree; is = elses_are d (tokens_from t i) z ∙ rw (no_fi hs i nf, got_else hs i l e, listed1, got_fi hs j q.0 q.1); coded = (top, (g.kept link (omega arith) (omega arith) ∙ get_or-set_same w link top 0 (omega arith), omega arith, omega arith, ga, omega arith), g.coded); staged = g.staged; kept = λ k x y. g.kept k (omega arith) (omega arith) ∙ get_or-set_other w link k top 0 y; goes = omega (arith, g.goes); within = omega arith; above = omega arith; fits = g.fits; room = omega (arith, g.room) }

    module _ (ne : code_at (tokens_from t i) ≢ 20) where
      pub elif_no : (code_at (tokens_from t i) ≡ 19 → ⊥) → (level d).elses (tokens_from t i) ≡ none
      elif_no f = elses_are d (tokens_from t i) z ∙ rw (no_fi hs i nf, no_else_key hs i ne, no_elif hs i f)

      module _ (p : (i < n) × (code_at (tokens_from t i) ≡ 19)) where
        pub elif_1 : (level (d - 1)).lists false (tokens_from t (i + 1)) ≡ none → (level d).elses (tokens_from t i) ≡ none
        elif_1 f = elses_are d (tokens_from t i) z ∙ rw (no_fi hs i nf, no_else_key hs i ne, got_elif hs i p.0 p.1, f)

        module _ {w1 w2 : List ℕ} {j1 f1 s1 : ℕ} (ns : Nest (set w link top) w1 top (top + 1) (top + 1 + 3) (top + 1 + 3 + 4)) (a : GotList t n (i + 1) (d - 1) false w1 w2 (top + 1 + 3 + 4 + 6) (top + 1 + 3 + 4 + 2) j1 f1 s s1) where
          pub elif_2 : (code_at (tokens_from t j1) ≡ 18 → ⊥) → (level d).elses (tokens_from t i) ≡ none
          elif_2 f = elses_are d (tokens_from t i) z ∙ rw (no_fi hs i nf, no_else_key hs i ne, got_elif hs i p.0 p.1, a.is, no_then hs j1 f)

          module _ (q : (j1 < n) × (code_at (tokens_from t j1) ≡ 18)) where
            pub elif_3 : (level (d - 1)).lists false (tokens_from t (j1 + 1)) ≡ none → (level d).elses (tokens_from t i) ≡ none
            elif_3 f = elses_are d (tokens_from t i) z ∙ rw (no_fi hs i nf, no_else_key hs i ne, got_elif hs i p.0 p.1, a.is, got_then hs j1 q.0 q.1, f)

            module _ {w3 : List ℕ} {j2 f2 s2 : ℕ} (b : GotList t n (j1 + 1) (d - 1) false w2 w3 f1 (top + 1 + 3 + 4 + 3) j2 f2 s1 s2) where
              pub elif_4 : (level (d - 1)).elses (tokens_from t j2) ≡ none → (level d).elses (tokens_from t i) ≡ none
              elif_4 f = elses_are d (tokens_from t i) z ∙ rw (no_fi hs i nf, no_else_key hs i ne, got_elif hs i p.0 p.1, a.is, got_then hs j1 q.0 q.1, b.is, f)

              pub elif_got : {w4 : List ℕ} {j3 f3 s3 : ℕ} → GotElse t n j2 (d - 1) w3 w4 f2 (top + 1 + 3 + 4 + 4) j3 f3 s2 s3 → GotElse t n i d w w4 top link j3 f3 s s3
              elif_got {w4} {j3} {f3} {s3} c =
                  let aa = a.above in
                  let ba = b.above in
                  let ca = c.above in
                  let cell = top + 1 in
                  let node = top + 1 + 3 in
                  let cmd = top + 1 + 3 + 4 in
                  let down : (x : ℕ) → x < cmd + 6 → x ≢ cmd + 2 → x ≢ cmd + 3 → x ≢ cmd + 4 → get_or w4 x 0 ≡ get_or w1 x 0 = λ x u e f g. c.kept x (omega arith) g ∙ (b.kept x (omega arith) f ∙ a.kept x u e) in
                  record { tree = else (next (first false (single (if a.tree b.tree c.tree no_redirects))) false end); is = elses_are d (tokens_from t i) z ∙ rw (no_fi hs i nf, no_else_key hs i ne, got_elif hs i p.0 p.1, a.is, got_then hs j1 q.0 q.1, b.is, c.is); coded = (top, (down link (omega arith) (omega arith) (omega arith) (omega arith) ∙ (ns.kept link (omega arith) ∙ get_or-set_same w link top 0 (omega arith)), omega arith, omega arith, omega arith, omega arith), (cell, f3, node, (down top (omega arith) (omega arith) (omega arith) (omega arith) ∙ ns.list_link, omega arith, omega arith, omega arith, omega arith), down (cell + 1) (omega arith) (omega arith) (omega arith) (omega arith) ∙ ns.background, down (cell + 2) (omega arith) (omega arith) (omega arith) (omega arith) ∙ ns.chain_link, (omega arith, omega arith, down node (omega arith) (omega arith) (omega arith) (omega arith) ∙ ns.before, down (node + 2) (omega arith) (omega arith) (omega arith) (omega arith) ∙ ns.negated, (cmd, f3, (down (node + 3) (omega arith) (omega arith) (omega arith) (omega arith) ∙ ns.pipeline_link, omega arith, omega arith, omega arith, omega arith), (f1, f2, f3, down (cmd + 1) (omega arith) (omega arith) (omega arith) (omega arith) ∙ ns.tag, aa, ba, ca, omega arith, list_frame t w2 w4 a.tree (cmd + 6) f1 (cmd + 2) (λ x u y. c.kept x (omega arith) (omega arith) ∙ b.kept x y (omega arith)) (c.kept (cmd + 2) (omega arith) (omega arith) ∙ b.kept (cmd + 2) (omega arith) (omega arith)) a.coded, list_frame t w3 w4 b.tree f1 f2 (cmd + 3) (λ x u y. c.kept x y (omega arith)) (c.kept (cmd + 3) (omega arith) (omega arith)) b.coded, c.coded, down (cmd + 5) (omega arith) (omega arith) (omega arith) (omega arith) ∙ ns.redirects), down cmd (omega arith) (omega arith) (omega arith) (omega arith) ∙ ns.next)), down cell (omega arith) (omega arith) (omega arith) (omega arith) ∙ ns.list_next)); staged = rw (c.staged, b.staged, a.staged) (stages s (list_stage a.tree) (list_stage b.tree) (else_stage c.tree)); kept = λ x u y. down x (omega arith) (omega arith) (omega arith) (omega arith) ∙ (ns.kept x u ∙ get_or-set_other w link x top 0 y); goes = omega (arith, a.goes, b.goes, c.goes); within = c.within; above = omega arith; fits = c.fits; room = omega (arith, a.room, b.room, c.room) }
                where
                  zeros : (x : ℕ) → max x (max 0 0) ≡ x
                  zeros x = omega arith

                  no_zero : (x : ℕ) → max x 0 ≡ x
                  no_zero x = omega arith

                  stages : (s a b c : ℕ) → max (max (max s a) b) c ≡ max s (max (max (max a b) (max c 0)) (max 0 0))
                  stages s a b c = rw (zeros (max (max a b) (max c 0)), no_zero c) (simp max_assoc)
