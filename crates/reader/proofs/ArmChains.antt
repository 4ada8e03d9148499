-- The arms of a case, as a chain.
use Rattle.std.proofs.Common.{◌≡◌, ℕ, ◌+◌, ◌<◌, ◌≤◌, true, ◌≢◌, ◌⊎◌, List, length, set, refl, ◌∙◌, arith}
use mathlib.Core.Option.{none}
use Rattle.syntax.specs.Tree.{Arms, no_arms, arm}
use Rattle.syntax.specs.Stage.{arms_stage}
use Rattle.grammar.specs.Parser.{level, parse_word, parse_arms_go, parse_arms}
use Rattle.lexer.specs.Stored.{tokens_from, code_at, Has}
use Rattle.code.specs.Layout.{ArmsAt}
use Rattle.reader.specs.Reading.{GotWord, GotList, GotArms}
use Rattle.reader.proofs.Basics.{max_assoc}
use Rattle.reader.proofs.Frame.{parts_frame, list_frame}
use Rattle.reader.proofs.Chains.{Chain, chain, step, skip, finish, fail}
use Rattle.reader.proofs.Compounds.{separator_got, separator_no}
use Rattle.reader.proofs.Expects.{got_newline_sign, no_newline_sign, got_when, no_when, got_double_semicolon_sign, no_double_semicolon_sign}

pub arms_hold : (t : List ℕ) (n i d : ℕ) (m w : List ℕ) (top link s : ℕ) → Has t n m → i ≤ n → top ≤ length w → link < top → Chain Arms arms_stage (parse_arms_go (level d)) (ArmsAt t) t n i w w top link i top link s s
arms_hold t n i d m w top link s h = chain Arms arms_stage (parse_arms_go (level d)) (ArmsAt t) t n i w top link s h.count

module _ (d : ℕ) {t : List ℕ} {n i0 : ℕ} {m w0 w : List ℕ} (hs : Has t n m) {top link i free p s0 s : ℕ} (h : Chain Arms arms_stage (parse_arms_go (level d)) (ArmsAt t) t n i0 w0 w top link i free p s0 s) where
  pub arms_blank : i < n → code_at (tokens_from t i) ≡ 33 → Chain Arms arms_stage (parse_arms_go (level d)) (ArmsAt t) t n i0 w0 w top link (i + 1) free p s0 s
  arms_blank l e = skip Arms arms_stage (parse_arms_go (level d)) (ArmsAt t) t n i0 w0 top link s0 h (i + 1) (λ f. rw (got_newline_sign hs i l e)) (omega arith) (omega arith)

  module _ (nl : code_at (tokens_from t i) ≢ 33) where
    pub arms_end : code_at (tokens_from t i) ≢ 16 → GotArms t n i0 d w0 (set w p 0) top link i free s0 s
    arms_end e = finish Arms arms_stage (parse_arms_go (level d)) (ArmsAt t) t n i0 w0 top link s0 h no_arms (λ f. rw (no_newline_sign hs i nl, no_when hs i e)) (λ v x. x) refl

    module _ (l : i < n) (k : code_at (tokens_from t i) ≡ 16) where
      pub arms_1 : parse_word (level d) (tokens_from t (i + 1)) ≡ none → parse_arms (level d) (tokens_from t i0) ≡ none
      arms_1 e = fail Arms arms_stage (parse_arms_go (level d)) (ArmsAt t) t n i0 w0 top link s0 h (λ f. rw (no_newline_sign hs i nl, got_when hs i l k, e))

      module _ {w1 : List ℕ} {j1 f1 s1 : ℕ} (a : GotWord t n (i + 1) d (set w p free) w1 (free + 3) (free + 1) j1 f1 s s1) where
        pub arms_2 : code_at (tokens_from t j1) ≢ 32 → code_at (tokens_from t j1) ≢ 33 → parse_arms (level d) (tokens_from t i0) ≡ none
        arms_2 e g = fail Arms arms_stage (parse_arms_go (level d)) (ArmsAt t) t n i0 w0 top link s0 h (λ f. rw (no_newline_sign hs i nl, got_when hs i l k, a.is, separator_no hs j1 e g))

        module _ (q : (j1 < n) × ((code_at (tokens_from t j1) ≡ 32) ⊎ (code_at (tokens_from t j1) ≡ 33))) where
          pub arms_3 : (level d).lists true (tokens_from t (j1 + 1)) ≡ none → parse_arms (level d) (tokens_from t i0) ≡ none
          arms_3 e = fail Arms arms_stage (parse_arms_go (level d)) (ArmsAt t) t n i0 w0 top link s0 h (λ f. rw (no_newline_sign hs i nl, got_when hs i l k, a.is, separator_got hs j1 q.0 q.1, e))

          module _ {w2 : List ℕ} {j2 f2 s2 : ℕ} (b : GotList t n (j1 + 1) d true w1 w2 f1 (free + 2) j2 f2 s1 s2) where
            pub arms_4 : code_at (tokens_from t j2) ≢ 44 → parse_arms (level d) (tokens_from t i0) ≡ none
            arms_4 e = fail Arms arms_stage (parse_arms_go (level d)) (ArmsAt t) t n i0 w0 top link s0 h (λ f. rw (no_newline_sign hs i nl, got_when hs i l k, a.is, separator_got hs j1 q.0 q.1, b.is, no_double_semicolon_sign hs j2 e))

            pub arms_step : (j2 < n) × (code_at (tokens_from t j2) ≡ 44) → Chain Arms arms_stage (parse_arms_go (level d)) (ArmsAt t) t n i0 w0 w2 top link (j2 + 1) f2 free s0 s2
            arms_step z =
                let aa = a.above in
                let ba = b.above in
                step Arms arms_stage (parse_arms_go (level d)) (ArmsAt t) t n i0 w0 top link s0 h (λ x. arm a.tree b.tree x) w2 (j2 + 1) f2 (λ f. rw (no_newline_sign hs i nl, got_when hs i l k, a.is, separator_got hs j1 q.0 q.1, b.is, got_double_semicolon_sign hs j2 z.0 z.1)) (omega (arith, a.goes, b.goes)) (omega arith) (omega arith) b.fits (λ x y. b.kept x (omega arith) (omega arith) ∙ a.kept x (omega arith) (omega arith)) (omega (arith, a.room, b.room)) (λ v hi le u l e y. (free, f2, f1, (e, omega arith, omega (arith, h.at_p), omega arith, le), aa, ba, parts_frame t w1 v a.tree (free + 3) f1 (free + 1) (λ x g o. u x (omega arith) (omega arith) ∙ b.kept x o (omega arith)) (u (free + 1) (omega arith) (omega arith) ∙ b.kept (free + 1) (omega arith) (omega arith)) a.coded, list_frame t w2 v b.tree f1 f2 (free + 2) (λ x g o. u x o (omega arith)) (u (free + 2) (omega arith) (omega arith)) b.coded, y)) s2 (λ l. rw (b.staged, a.staged) (simp max_assoc))
