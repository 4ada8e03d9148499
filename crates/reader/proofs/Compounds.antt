-- Compound commands: each step that fails, and the whole.
use Rattle.std.proofs.Common.{◌≡◌, ℕ, ◌+◌, ◌<◌, ◌≤◌, max, true, false, ◌≢◌, ◌⊎◌, List, [], length, get_or, take, drop, set, ◌∙◌, inl, inr, arith, length-set}
use mathlib.Core.Option.{some, none}
use Rattle.std.proofs.lemmas.List.{get_or-set_same, get_or-set_other}
use Rattle.syntax.specs.Tree.{group, subshell, if, while, for, case, function}
use Rattle.grammar.specs.Grammar.{reserved, listed}
use Rattle.grammar.specs.Parser.{level, parse_opener, parse_function, parse_command_by, parse_words, parse_word, parse_redirects, parse_arms, separator_at, la_paren, open_if, open_while, open_for, open_case, open_brace}
use Rattle.grammar.specs.Tokens.{token}
use Rattle.lexer.specs.Stored.{Spelled, tokens_of, tokens_from, code_at, Has}
use Rattle.code.specs.Layout.{BytesAt}
use Rattle.reader.specs.Reading.{names, GotList, GotWords, GotWord, GotRedirects, GotArms, GotElse, GotCommand}
use Rattle.reader.proofs.Basics.{max_assoc}
use Rattle.reader.proofs.Frame.{parts_frame, words_frame, arms_frame, else_frame, list_frame}
use Rattle.reader.proofs.Names.{NameHere, name_none, name_here, function_none, function_here}
use Rattle.reader.proofs.Expects.{got_if, no_if, got_then, no_then, got_while, no_while, got_do, no_do, got_done, no_done, got_for, no_for, got_in, no_in, got_case, no_case, got_esac, no_esac, got_open, no_open, got_close, no_close, got_open_paren_sign, no_open_paren_sign, got_close_paren_sign, no_close_paren_sign, got_semicolon_sign, no_semicolon_sign, got_newline_sign, no_newline_sign}

bytes_at : (t b m : List ℕ) (x y s l : ℕ) → get_or m x 0 ≡ s → get_or m y 0 ≡ l → take l (drop s t) ≡ b → BytesAt t b m x y
bytes_at t b m x y s l e f h = rw (e, f) h

module _ (w : List ℕ) (top x y z : ℕ) (l : top + 4 ≤ length w) where
  abbrev w3 : List ℕ
  w3 = set (set (set w (top + 1) x) (top + 2) y) (top + 3) z

  first_of_3 : get_or w3 (top + 1) 0 ≡ x
  first_of_3 = get_or-set_other (set (set w (top + 1) x) (top + 2) y) (top + 3) (top + 1) z 0 (omega arith) ∙ (get_or-set_other (set w (top + 1) x) (top + 2) (top + 1) y 0 (omega arith) ∙ get_or-set_same w (top + 1) x 0 (omega arith))

  second_of_3 : get_or w3 (top + 2) 0 ≡ y
  second_of_3 = get_or-set_other (set (set w (top + 1) x) (top + 2) y) (top + 3) (top + 2) z 0 (omega arith) ∙ get_or-set_same (set w (top + 1) x) (top + 2) y 0 (omega (arith, length-set w (top + 1) x))

  third_of_3 : get_or w3 (top + 3) 0 ≡ z
  third_of_3 = get_or-set_same (set (set w (top + 1) x) (top + 2) y) (top + 3) z 0 (omega (arith, length-set (set w (top + 1) x) (top + 2) y, length-set w (top + 1) x))

  below_3 : (k : ℕ) → k < top → get_or w3 k 0 ≡ get_or w k 0
  below_3 k h = get_or-set_other (set (set w (top + 1) x) (top + 2) y) (top + 3) k z 0 (omega arith) ∙ (get_or-set_other (set w (top + 1) x) (top + 2) k y 0 (omega arith) ∙ get_or-set_other w (top + 1) k x 0 (omega arith))

-- one ; or one end of a line
pub separator_got : {t : List ℕ} {n : ℕ} {m : List ℕ} (h : Has t n m) (i : ℕ) → i < n → (code_at (tokens_from t i) ≡ 32) ⊎ (code_at (tokens_from t i) ≡ 33) → separator_at (tokens_from t i) ≡ some (tokens_from t (i + 1))
separator_got h i l (inl e) = rw (got_semicolon_sign h i l e)
separator_got h i l (inr e) = rw (no_semicolon_sign h i (omega (arith, e)), got_newline_sign h i l e)

pub separator_no : {t : List ℕ} {n : ℕ} {m : List ℕ} (h : Has t n m) (i : ℕ) → (code_at (tokens_from t i) ≡ 32 → ⊥) → (code_at (tokens_from t i) ≡ 33 → ⊥) → separator_at (tokens_from t i) ≡ none
separator_no h i a b = rw (no_semicolon_sign h i a, no_newline_sign h i b)

module _ (t : List ℕ) (n i d : ℕ) (w : List ℕ) (top s : ℕ) {m : List ℕ} (has : Has t n m) where
  pub while_1 : (code_at (tokens_from t i) ≡ 22 → ⊥) → parse_opener (level d) open_while (tokens_from t i) ≡ none
  while_1 e = rw (no_while has i e)

  module _ (p1 : (i < n) × (code_at (tokens_from t i) ≡ 22)) where
    pub while_2 : (level d).lists false (tokens_from t (i + 1)) ≡ none → parse_opener (level d) open_while (tokens_from t i) ≡ none
    while_2 e = rw (got_while has i p1.0 p1.1, e)

    module _ {w1 : List ℕ} {j1 f1 s1 : ℕ} (g1 : GotList t n (i + 1) d false (set w (top + 1) 4) w1 (top + 5) (top + 2) j1 f1 s s1) where
      pub while_3 : (code_at (tokens_from t j1) ≡ 23 → ⊥) → parse_opener (level d) open_while (tokens_from t i) ≡ none
      while_3 e = rw (got_while has i p1.0 p1.1, g1.is, no_do has j1 e)

      module _ (p3 : (j1 < n) × (code_at (tokens_from t j1) ≡ 23)) where
        pub while_4 : (level d).lists false (tokens_from t (j1 + 1)) ≡ none → parse_opener (level d) open_while (tokens_from t i) ≡ none
        while_4 e = rw (got_while has i p1.0 p1.1, g1.is, got_do has j1 p3.0 p3.1, e)

        module _ {w2 : List ℕ} {j2 f2 s2 : ℕ} (g2 : GotList t n (j1 + 1) d false w1 w2 f1 (top + 3) j2 f2 s1 s2) where
          pub while_5 : (code_at (tokens_from t j2) ≡ 24 → ⊥) → parse_opener (level d) open_while (tokens_from t i) ≡ none
          while_5 e = rw (got_while has i p1.0 p1.1, g1.is, got_do has j1 p3.0 p3.1, g2.is, no_done has j2 e)

          module _ (p5 : (j2 < n) × (code_at (tokens_from t j2) ≡ 24)) where
            pub while_6 : parse_redirects (level d) (tokens_from t (j2 + 1)) ≡ none → parse_opener (level d) open_while (tokens_from t i) ≡ none
            while_6 e = rw (got_while has i p1.0 p1.1, g1.is, got_do has j1 p3.0 p3.1, g2.is, got_done has j2 p5.0 p5.1, e)

            pub while_got : top + 5 ≤ length w → {w3 : List ℕ} {j3 f3 s3 : ℕ} (g3 : GotRedirects t n (j2 + 1) d w2 w3 f2 (top + 4) j3 f3 s2 s3) → GotCommand t n i (parse_opener (level d) open_while (tokens_from t i)) w w3 top j3 f3 s s3
            while_got z {w3} {j3} {f3} {s3} g3 =
                let a1 = g1.above in
                let a2 = g2.above in
                let a3 = g3.above in
                record { tree = while g1.tree g2.tree g3.tree; is = rw (got_while has i p1.0 p1.1, g1.is, got_do has j1 p3.0 p3.1, g2.is, got_done has j2 p5.0 p5.1, g3.is); coded = ((f1, f2, g3.kept (top + 1) (omega arith) (omega arith) ∙ (g2.kept (top + 1) (omega arith) (omega arith) ∙ (g1.kept (top + 1) (omega arith) (omega arith) ∙ (get_or-set_same w (top + 1) 4 0 (omega arith)))), a1, a2, a3, list_frame t w1 w3 g1.tree (top + 5) f1 (top + 2) (λ x u y. g3.kept x (omega arith) (omega arith) ∙ (g2.kept x (omega arith) (omega arith))) (g3.kept (top + 2) (omega arith) (omega arith) ∙ (g2.kept (top + 2) (omega arith) (omega arith))) g1.coded, list_frame t w2 w3 g2.tree f1 f2 (top + 3) (λ x u y. g3.kept x (omega arith) (omega arith)) (g3.kept (top + 3) (omega arith) (omega arith)) g2.coded, g3.coded), omega arith); staged = rw (g3.staged, g2.staged, g1.staged) (simp max_assoc); kept = λ x u v. g3.kept x (omega arith) (omega arith) ∙ (g2.kept x (omega arith) (omega arith) ∙ (g1.kept x (omega arith) (omega arith) ∙ (get_or-set_other w (top + 1) x 4 0 (omega arith)))); goes = omega (arith, g1.goes, g2.goes, g3.goes); within = g3.within; above = omega arith; fits = g3.fits; room = omega (arith, g1.room, g2.room, g3.room, g1.goes, g2.goes, g3.goes) }

module _ (t : List ℕ) (n i d : ℕ) (w : List ℕ) (top s : ℕ) {m : List ℕ} (has : Has t n m) where
  pub group_1 : (code_at (tokens_from t i) ≡ 29 → ⊥) → parse_opener (level d) open_brace (tokens_from t i) ≡ none
  group_1 e = rw (no_open has i e)

  module _ (p1 : (i < n) × (code_at (tokens_from t i) ≡ 29)) where
    pub group_2 : (level d).lists false (tokens_from t (i + 1)) ≡ none → parse_opener (level d) open_brace (tokens_from t i) ≡ none
    group_2 e = rw (got_open has i p1.0 p1.1, e)

    module _ {w1 : List ℕ} {j1 f1 s1 : ℕ} (g1 : GotList t n (i + 1) d false (set w (top + 1) 1) w1 (top + 4) (top + 2) j1 f1 s s1) where
      pub group_3 : (code_at (tokens_from t j1) ≡ 30 → ⊥) → parse_opener (level d) open_brace (tokens_from t i) ≡ none
      group_3 e = rw (got_open has i p1.0 p1.1, g1.is, no_close has j1 e)

      module _ (p3 : (j1 < n) × (code_at (tokens_from t j1) ≡ 30)) where
        pub group_4 : parse_redirects (level d) (tokens_from t (j1 + 1)) ≡ none → parse_opener (level d) open_brace (tokens_from t i) ≡ none
        group_4 e = rw (got_open has i p1.0 p1.1, g1.is, got_close has j1 p3.0 p3.1, e)

        pub group_got : top + 4 ≤ length w → {w2 : List ℕ} {j2 f2 s2 : ℕ} (g2 : GotRedirects t n (j1 + 1) d w1 w2 f1 (top + 3) j2 f2 s1 s2) → GotCommand t n i (parse_opener (level d) open_brace (tokens_from t i)) w w2 top j2 f2 s s2
        group_got z {w2} {j2} {f2} {s2} g2 =
            let a1 = g1.above in
            let a2 = g2.above in
            record { tree = group g1.tree g2.tree; is = rw (got_open has i p1.0 p1.1, g1.is, got_close has j1 p3.0 p3.1, g2.is); coded = ((f1, g2.kept (top + 1) (omega arith) (omega arith) ∙ (g1.kept (top + 1) (omega arith) (omega arith) ∙ (get_or-set_same w (top + 1) 1 0 (omega arith))), a1, a2, list_frame t w1 w2 g1.tree (top + 4) f1 (top + 2) (λ x u y. g2.kept x (omega arith) (omega arith)) (g2.kept (top + 2) (omega arith) (omega arith)) g1.coded, g2.coded), omega arith); staged = rw (g2.staged, g1.staged) (simp max_assoc); kept = λ x u v. g2.kept x (omega arith) (omega arith) ∙ (g1.kept x (omega arith) (omega arith) ∙ (get_or-set_other w (top + 1) x 1 0 (omega arith))); goes = omega (arith, g1.goes, g2.goes); within = g2.within; above = omega arith; fits = g2.fits; room = omega (arith, g1.room, g2.room, g1.goes, g2.goes) }

module _ (t : List ℕ) (n i d : ℕ) (w : List ℕ) (top s : ℕ) {m : List ℕ} (has : Has t n m) where
  pub subshell_1 : (code_at (tokens_from t i) ≡ 40 → ⊥) → parse_command_by (level d) la_paren (tokens_from t i) ≡ none
  subshell_1 e = rw (no_open_paren_sign has i e)

  module _ (p1 : (i < n) × (code_at (tokens_from t i) ≡ 40)) where
    module _ (sr : ℕ) (se : sr ≡ max s 5) where
      pub subshell_2 : (level d).lists true (tokens_from t (i + 1)) ≡ none → parse_command_by (level d) la_paren (tokens_from t i) ≡ none
      subshell_2 e = rw (got_open_paren_sign has i p1.0 p1.1, e)

      module _ {w1 : List ℕ} {j1 f1 s1 : ℕ} (g1 : GotList t n (i + 1) d true (set w (top + 1) 2) w1 (top + 4) (top + 2) j1 f1 sr s1) where
        pub subshell_3 : (code_at (tokens_from t j1) ≡ 41 → ⊥) → parse_command_by (level d) la_paren (tokens_from t i) ≡ none
        subshell_3 e = rw (got_open_paren_sign has i p1.0 p1.1, g1.is, no_close_paren_sign has j1 e)

        module _ (p3 : (j1 < n) × (code_at (tokens_from t j1) ≡ 41)) where
          pub subshell_4 : parse_redirects (level d) (tokens_from t (j1 + 1)) ≡ none → parse_command_by (level d) la_paren (tokens_from t i) ≡ none
          subshell_4 e = rw (got_open_paren_sign has i p1.0 p1.1, g1.is, got_close_paren_sign has j1 p3.0 p3.1, e)

          pub subshell_got : top + 4 ≤ length w → {w2 : List ℕ} {j2 f2 s2 : ℕ} (g2 : GotRedirects t n (j1 + 1) d w1 w2 f1 (top + 3) j2 f2 s1 s2) → GotCommand t n i (parse_command_by (level d) la_paren (tokens_from t i)) w w2 top j2 f2 s s2
          subshell_got z {w2} {j2} {f2} {s2} g2 =
              let a1 = g1.above in
              let a2 = g2.above in
              record { tree = subshell g1.tree g2.tree; is = rw (got_open_paren_sign has i p1.0 p1.1, g1.is, got_close_paren_sign has j1 p3.0 p3.1, g2.is); coded = ((f1, g2.kept (top + 1) (omega arith) (omega arith) ∙ (g1.kept (top + 1) (omega arith) (omega arith) ∙ (get_or-set_same w (top + 1) 2 0 (omega arith))), a1, a2, list_frame t w1 w2 g1.tree (top + 4) f1 (top + 2) (λ x u y. g2.kept x (omega arith) (omega arith)) (g2.kept (top + 2) (omega arith) (omega arith)) g1.coded, g2.coded), omega arith); staged = rw (g2.staged, g1.staged, se) (simp max_assoc); kept = λ x u v. g2.kept x (omega arith) (omega arith) ∙ (g1.kept x (omega arith) (omega arith) ∙ (get_or-set_other w (top + 1) x 2 0 (omega arith))); goes = omega (arith, g1.goes, g2.goes); within = g2.within; above = omega arith; fits = g2.fits; room = omega (arith, g1.room, g2.room, g1.goes, g2.goes) }

module _ (t : List ℕ) (n i d : ℕ) (w : List ℕ) (top s : ℕ) {m : List ℕ} (has : Has t n m) where
  pub if_1 : (code_at (tokens_from t i) ≡ 17 → ⊥) → parse_opener (level d) open_if (tokens_from t i) ≡ none
  if_1 e = rw (no_if has i e)

  module _ (p1 : (i < n) × (code_at (tokens_from t i) ≡ 17)) where
    pub if_2 : (level d).lists false (tokens_from t (i + 1)) ≡ none → parse_opener (level d) open_if (tokens_from t i) ≡ none
    if_2 e = rw (got_if has i p1.0 p1.1, e)

    module _ {w1 : List ℕ} {j1 f1 s1 : ℕ} (g1 : GotList t n (i + 1) d false (set w (top + 1) 3) w1 (top + 6) (top + 2) j1 f1 s s1) where
      pub if_3 : (code_at (tokens_from t j1) ≡ 18 → ⊥) → parse_opener (level d) open_if (tokens_from t i) ≡ none
      if_3 e = rw (got_if has i p1.0 p1.1, g1.is, no_then has j1 e)

      module _ (p3 : (j1 < n) × (code_at (tokens_from t j1) ≡ 18)) where
        pub if_4 : (level d).lists false (tokens_from t (j1 + 1)) ≡ none → parse_opener (level d) open_if (tokens_from t i) ≡ none
        if_4 e = rw (got_if has i p1.0 p1.1, g1.is, got_then has j1 p3.0 p3.1, e)

        module _ {w2 : List ℕ} {j2 f2 s2 : ℕ} (g2 : GotList t n (j1 + 1) d false w1 w2 f1 (top + 3) j2 f2 s1 s2) where
          pub if_5 : (level d).elses (tokens_from t j2) ≡ none → parse_opener (level d) open_if (tokens_from t i) ≡ none
          if_5 e = rw (got_if has i p1.0 p1.1, g1.is, got_then has j1 p3.0 p3.1, g2.is, e)

          module _ {w3 : List ℕ} {j3 f3 s3 : ℕ} (g3 : GotElse t n j2 d w2 w3 f2 (top + 4) j3 f3 s2 s3) where
            pub if_6 : parse_redirects (level d) (tokens_from t j3) ≡ none → parse_opener (level d) open_if (tokens_from t i) ≡ none
            if_6 e = rw (got_if has i p1.0 p1.1, g1.is, got_then has j1 p3.0 p3.1, g2.is, g3.is, e)

            pub if_got : top + 6 ≤ length w → {w4 : List ℕ} {j4 f4 s4 : ℕ} (g4 : GotRedirects t n j3 d w3 w4 f3 (top + 5) j4 f4 s3 s4) → GotCommand t n i (parse_opener (level d) open_if (tokens_from t i)) w w4 top j4 f4 s s4
            if_got z {w4} {j4} {f4} {s4} g4 =
                let a1 = g1.above in
                let a2 = g2.above in
                let a3 = g3.above in
                let a4 = g4.above in
                record { tree = if g1.tree g2.tree g3.tree g4.tree; is = rw (got_if has i p1.0 p1.1, g1.is, got_then has j1 p3.0 p3.1, g2.is, g3.is, g4.is); coded = ((f1, f2, f3, g4.kept (top + 1) (omega arith) (omega arith) ∙ (g3.kept (top + 1) (omega arith) (omega arith) ∙ (g2.kept (top + 1) (omega arith) (omega arith) ∙ (g1.kept (top + 1) (omega arith) (omega arith) ∙ (get_or-set_same w (top + 1) 3 0 (omega arith))))), a1, a2, a3, a4, list_frame t w1 w4 g1.tree (top + 6) f1 (top + 2) (λ x u y. g4.kept x (omega arith) (omega arith) ∙ (g3.kept x (omega arith) (omega arith) ∙ (g2.kept x (omega arith) (omega arith)))) (g4.kept (top + 2) (omega arith) (omega arith) ∙ (g3.kept (top + 2) (omega arith) (omega arith) ∙ (g2.kept (top + 2) (omega arith) (omega arith)))) g1.coded, list_frame t w2 w4 g2.tree f1 f2 (top + 3) (λ x u y. g4.kept x (omega arith) (omega arith) ∙ (g3.kept x (omega arith) (omega arith))) (g4.kept (top + 3) (omega arith) (omega arith) ∙ (g3.kept (top + 3) (omega arith) (omega arith))) g2.coded, else_frame t w3 w4 g3.tree f2 f3 (top + 4) (λ x u y. g4.kept x (omega arith) (omega arith)) (g4.kept (top + 4) (omega arith) (omega arith)) g3.coded, g4.coded), omega arith); staged = rw (g4.staged, g3.staged, g2.staged, g1.staged) (simp max_assoc); kept = λ x u v. g4.kept x (omega arith) (omega arith) ∙ (g3.kept x (omega arith) (omega arith) ∙ (g2.kept x (omega arith) (omega arith) ∙ (g1.kept x (omega arith) (omega arith) ∙ (get_or-set_other w (top + 1) x 3 0 (omega arith))))); goes = omega (arith, g1.goes, g2.goes, g3.goes, g4.goes); within = g4.within; above = omega arith; fits = g4.fits; room = omega (arith, g1.room, g2.room, g3.room, g4.room, g1.goes, g2.goes, g3.goes, g4.goes) }

module _ (t : List ℕ) (n i d : ℕ) (w : List ℕ) (top s : ℕ) {m : List ℕ} (has : Has t n m) where
  pub for_1 : (code_at (tokens_from t i) ≡ 25 → ⊥) → parse_opener (level d) open_for (tokens_from t i) ≡ none
  for_1 e = rw (no_for has i e)

  module _ (p1 : (i < n) × (code_at (tokens_from t i) ≡ 25)) where
    pub for_2 : (k : ℕ) → k ≡ code_at (tokens_from t (i + 1)) → names k ≡ false → parse_opener (level d) open_for (tokens_from t i) ≡ none
    for_2 k ke e = rw (got_for has i p1.0 p1.1, name_none has (i + 1) k ke e)

    module _ (k : ℕ) (ke : k ≡ code_at (tokens_from t (i + 1))) (ok : names k ≡ true) (lt : i + 1 < n) (a l : ℕ) (sp : Spelled t a l (get_or (tokens_of t) (i + 1) (token false 0 []))) where
      named : NameHere t (i + 1) a l
      named = name_here has (i + 1) k ke a l sp ok lt

      pub for_3 : (code_at (tokens_from t (i + 1 + 1)) ≡ 26 → ⊥) → parse_opener (level d) open_for (tokens_from t i) ≡ none
      for_3 e = rw (got_for has i p1.0 p1.1, named.1, no_in has (i + 1 + 1) e)

      module _ (p3 : (i + 1 + 1 < n) × (code_at (tokens_from t (i + 1 + 1)) ≡ 26)) where
        module _ (sr : ℕ) (se : sr ≡ max s 4) where
          pub for_4 : parse_words (level d) (tokens_from t (i + 1 + 1 + 1)) ≡ none → parse_opener (level d) open_for (tokens_from t i) ≡ none
          for_4 e = rw (got_for has i p1.0 p1.1, named.1, got_in has (i + 1 + 1) p3.0 p3.1, e)

          module _ {w1 : List ℕ} {j1 f1 s1 : ℕ} (g1 : GotWords t n (i + 1 + 1 + 1) d (set (set (set w (top + 1) 5) (top + 2) a) (top + 3) l) w1 (top + 7) (top + 4) j1 f1 sr s1) where
            pub for_5 : (code_at (tokens_from t j1) ≡ 32 → ⊥) → (code_at (tokens_from t j1) ≡ 33 → ⊥) → parse_opener (level d) open_for (tokens_from t i) ≡ none
            for_5 e f = rw (got_for has i p1.0 p1.1, named.1, got_in has (i + 1 + 1) p3.0 p3.1, g1.is, separator_no has j1 e f)

            module _ (p5 : (j1 < n) × ((code_at (tokens_from t j1) ≡ 32) ⊎ (code_at (tokens_from t j1) ≡ 33))) where
              pub for_6 : (code_at (tokens_from t (j1 + 1)) ≡ 23 → ⊥) → parse_opener (level d) open_for (tokens_from t i) ≡ none
              for_6 e = rw (got_for has i p1.0 p1.1, named.1, got_in has (i + 1 + 1) p3.0 p3.1, g1.is, separator_got has j1 p5.0 p5.1, no_do has (j1 + 1) e)

              module _ (p6 : (j1 + 1 < n) × (code_at (tokens_from t (j1 + 1)) ≡ 23)) where
                pub for_7 : (level d).lists false (tokens_from t (j1 + 1 + 1)) ≡ none → parse_opener (level d) open_for (tokens_from t i) ≡ none
                for_7 e = rw (got_for has i p1.0 p1.1, named.1, got_in has (i + 1 + 1) p3.0 p3.1, g1.is, separator_got has j1 p5.0 p5.1, got_do has (j1 + 1) p6.0 p6.1, e)

                module _ {w2 : List ℕ} {j2 f2 s2 : ℕ} (g2 : GotList t n (j1 + 1 + 1) d false w1 w2 f1 (top + 5) j2 f2 s1 s2) where
                  pub for_8 : (code_at (tokens_from t j2) ≡ 24 → ⊥) → parse_opener (level d) open_for (tokens_from t i) ≡ none
                  for_8 e = rw (got_for has i p1.0 p1.1, named.1, got_in has (i + 1 + 1) p3.0 p3.1, g1.is, separator_got has j1 p5.0 p5.1, got_do has (j1 + 1) p6.0 p6.1, g2.is, no_done has j2 e)

                  module _ (p8 : (j2 < n) × (code_at (tokens_from t j2) ≡ 24)) where
                    pub for_9 : parse_redirects (level d) (tokens_from t (j2 + 1)) ≡ none → parse_opener (level d) open_for (tokens_from t i) ≡ none
                    for_9 e = rw (got_for has i p1.0 p1.1, named.1, got_in has (i + 1 + 1) p3.0 p3.1, g1.is, separator_got has j1 p5.0 p5.1, got_do has (j1 + 1) p6.0 p6.1, g2.is, got_done has j2 p8.0 p8.1, e)

                    pub for_got : top + 7 ≤ length w → {w3 : List ℕ} {j3 f3 s3 : ℕ} (g3 : GotRedirects t n (j2 + 1) d w2 w3 f2 (top + 6) j3 f3 s2 s3) → GotCommand t n i (parse_opener (level d) open_for (tokens_from t i)) w w3 top j3 f3 s s3
                    for_got z {w3} {j3} {f3} {s3} g3 =
                        let a1 = g1.above in
                        let a2 = g2.above in
                        let a3 = g3.above in
                        record { tree = for named.0 g1.tree g2.tree g3.tree; is = rw (got_for has i p1.0 p1.1, named.1, got_in has (i + 1 + 1) p3.0 p3.1, g1.is, separator_got has j1 p5.0 p5.1, got_do has (j1 + 1) p6.0 p6.1, g2.is, got_done has j2 p8.0 p8.1, g3.is); coded = ((f1, f2, g3.kept (top + 1) (omega arith) (omega arith) ∙ (g2.kept (top + 1) (omega arith) (omega arith) ∙ (g1.kept (top + 1) (omega arith) (omega arith) ∙ (first_of_3 w top 5 a l (omega arith)))), a1, a2, a3, bytes_at t named.0 w3 (top + 2) (top + 3) a l (g3.kept (top + 2) (omega arith) (omega arith) ∙ (g2.kept (top + 2) (omega arith) (omega arith) ∙ (g1.kept (top + 2) (omega arith) (omega arith) ∙ (second_of_3 w top 5 a l (omega arith))))) (g3.kept (top + 3) (omega arith) (omega arith) ∙ (g2.kept (top + 3) (omega arith) (omega arith) ∙ (g1.kept (top + 3) (omega arith) (omega arith) ∙ (third_of_3 w top 5 a l (omega arith))))) named.2, words_frame t w1 w3 g1.tree (top + 7) f1 (top + 4) (λ x u y. g3.kept x (omega arith) (omega arith) ∙ (g2.kept x (omega arith) (omega arith))) (g3.kept (top + 4) (omega arith) (omega arith) ∙ (g2.kept (top + 4) (omega arith) (omega arith))) g1.coded, list_frame t w2 w3 g2.tree f1 f2 (top + 5) (λ x u y. g3.kept x (omega arith) (omega arith)) (g3.kept (top + 5) (omega arith) (omega arith)) g2.coded, g3.coded), omega arith); staged = rw (g3.staged, g2.staged, g1.staged, se) (simp max_assoc); kept = λ x u v. g3.kept x (omega arith) (omega arith) ∙ (g2.kept x (omega arith) (omega arith) ∙ (g1.kept x (omega arith) (omega arith) ∙ (below_3 w top 5 a l (omega arith) x (omega arith)))); goes = omega (arith, g1.goes, g2.goes, g3.goes); within = g3.within; above = omega arith; fits = g3.fits; room = omega (arith, g1.room, g2.room, g3.room, g1.goes, g2.goes, g3.goes) }

module _ (t : List ℕ) (n i d : ℕ) (w : List ℕ) (top s : ℕ) {m : List ℕ} (has : Has t n m) where
  pub case_1 : (code_at (tokens_from t i) ≡ 27 → ⊥) → parse_opener (level d) open_case (tokens_from t i) ≡ none
  case_1 e = rw (no_case has i e)

  module _ (p1 : (i < n) × (code_at (tokens_from t i) ≡ 27)) where
    module _ (sr : ℕ) (se : sr ≡ max s 4) where
      pub case_2 : parse_word (level d) (tokens_from t (i + 1)) ≡ none → parse_opener (level d) open_case (tokens_from t i) ≡ none
      case_2 e = rw (got_case has i p1.0 p1.1, e)

      module _ {w1 : List ℕ} {j1 f1 s1 : ℕ} (g1 : GotWord t n (i + 1) d (set w (top + 1) 6) w1 (top + 5) (top + 2) j1 f1 sr s1) where
        pub case_3 : (code_at (tokens_from t j1) ≡ 26 → ⊥) → parse_opener (level d) open_case (tokens_from t i) ≡ none
        case_3 e = rw (got_case has i p1.0 p1.1, g1.is, no_in has j1 e)

        module _ (p3 : (j1 < n) × (code_at (tokens_from t j1) ≡ 26)) where
          pub case_4 : parse_arms (level d) (tokens_from t (j1 + 1)) ≡ none → parse_opener (level d) open_case (tokens_from t i) ≡ none
          case_4 e = rw (got_case has i p1.0 p1.1, g1.is, got_in has j1 p3.0 p3.1, e)

          module _ {w2 : List ℕ} {j2 f2 s2 : ℕ} (g2 : GotArms t n (j1 + 1) d w1 w2 f1 (top + 3) j2 f2 s1 s2) where
            pub case_5 : (code_at (tokens_from t j2) ≡ 28 → ⊥) → parse_opener (level d) open_case (tokens_from t i) ≡ none
            case_5 e = rw (got_case has i p1.0 p1.1, g1.is, got_in has j1 p3.0 p3.1, g2.is, no_esac has j2 e)

            module _ (p5 : (j2 < n) × (code_at (tokens_from t j2) ≡ 28)) where
              pub case_6 : parse_redirects (level d) (tokens_from t (j2 + 1)) ≡ none → parse_opener (level d) open_case (tokens_from t i) ≡ none
              case_6 e = rw (got_case has i p1.0 p1.1, g1.is, got_in has j1 p3.0 p3.1, g2.is, got_esac has j2 p5.0 p5.1, e)

              pub case_got : top + 5 ≤ length w → {w3 : List ℕ} {j3 f3 s3 : ℕ} (g3 : GotRedirects t n (j2 + 1) d w2 w3 f2 (top + 4) j3 f3 s2 s3) → GotCommand t n i (parse_opener (level d) open_case (tokens_from t i)) w w3 top j3 f3 s s3
              case_got z {w3} {j3} {f3} {s3} g3 =
                  let a1 = g1.above in
                  let a2 = g2.above in
                  let a3 = g3.above in
                  record { tree = case g1.tree g2.tree g3.tree; is = rw (got_case has i p1.0 p1.1, g1.is, got_in has j1 p3.0 p3.1, g2.is, got_esac has j2 p5.0 p5.1, g3.is); coded = ((f1, f2, g3.kept (top + 1) (omega arith) (omega arith) ∙ (g2.kept (top + 1) (omega arith) (omega arith) ∙ (g1.kept (top + 1) (omega arith) (omega arith) ∙ (get_or-set_same w (top + 1) 6 0 (omega arith)))), a1, a2, a3, parts_frame t w1 w3 g1.tree (top + 5) f1 (top + 2) (λ x u y. g3.kept x (omega arith) (omega arith) ∙ (g2.kept x (omega arith) (omega arith))) (g3.kept (top + 2) (omega arith) (omega arith) ∙ (g2.kept (top + 2) (omega arith) (omega arith))) g1.coded, arms_frame t w2 w3 g2.tree f1 f2 (top + 3) (λ x u y. g3.kept x (omega arith) (omega arith)) (g3.kept (top + 3) (omega arith) (omega arith)) g2.coded, g3.coded), omega arith); staged = rw (g3.staged, g2.staged, g1.staged, se) (simp max_assoc); kept = λ x u v. g3.kept x (omega arith) (omega arith) ∙ (g2.kept x (omega arith) (omega arith) ∙ (g1.kept x (omega arith) (omega arith) ∙ (get_or-set_other w (top + 1) x 6 0 (omega arith)))); goes = omega (arith, g1.goes, g2.goes, g3.goes); within = g3.within; above = omega arith; fits = g3.fits; room = omega (arith, g1.room, g2.room, g3.room, g1.goes, g2.goes, g3.goes) }

module _ (t : List ℕ) (n i d : ℕ) (w : List ℕ) (top s : ℕ) {m : List ℕ} (has : Has t n m) where
  pub function_1 : (k : ℕ) → k ≡ code_at (tokens_from t i) → k ≢ 46 → parse_function (level d) (tokens_from t i) ≡ none
  function_1 k ke e = function_none has i k ke (level d) e

  module _ (k : ℕ) (ke : k ≡ code_at (tokens_from t i)) (ok : k ≡ 46) (lt : i < n) (a l : ℕ) (sp : Spelled t a l (get_or (tokens_of t) i (token false 0 []))) where
    fnamed : (x : NameHere t i a l) × (listed x.0 reserved ≡ false)
    fnamed = function_here has i k ke a l sp ok lt

    abbrev function_named : NameHere t i a l
    function_named = fnamed.0

    pub function_2 : (code_at (tokens_from t (i + 1)) ≡ 40 → ⊥) → parse_function (level d) (tokens_from t i) ≡ none
    function_2 e = rw (function_named.1, fnamed.1, no_open_paren_sign has (i + 1) e)

    module _ (p2 : (i + 1 < n) × (code_at (tokens_from t (i + 1)) ≡ 40)) where
      pub function_3 : (code_at (tokens_from t (i + 1 + 1)) ≡ 41 → ⊥) → parse_function (level d) (tokens_from t i) ≡ none
      function_3 e = rw (function_named.1, fnamed.1, got_open_paren_sign has (i + 1) p2.0 p2.1, no_close_paren_sign has (i + 1 + 1) e)

      module _ (p3 : (i + 1 + 1 < n) × (code_at (tokens_from t (i + 1 + 1)) ≡ 41)) where
        pub function_4 : (code_at (tokens_from t (i + 1 + 1 + 1)) ≡ 29 → ⊥) → parse_function (level d) (tokens_from t i) ≡ none
        function_4 e = rw (function_named.1, fnamed.1, got_open_paren_sign has (i + 1) p2.0 p2.1, got_close_paren_sign has (i + 1 + 1) p3.0 p3.1, no_open has (i + 1 + 1 + 1) e)

        module _ (p4 : (i + 1 + 1 + 1 < n) × (code_at (tokens_from t (i + 1 + 1 + 1)) ≡ 29)) where
          module _ (sr : ℕ) (se : sr ≡ max s 3) where
            pub function_5 : (level d).lists false (tokens_from t (i + 1 + 1 + 1 + 1)) ≡ none → parse_function (level d) (tokens_from t i) ≡ none
            function_5 e = rw (function_named.1, fnamed.1, got_open_paren_sign has (i + 1) p2.0 p2.1, got_close_paren_sign has (i + 1 + 1) p3.0 p3.1, got_open has (i + 1 + 1 + 1) p4.0 p4.1, e)

            module _ {w1 : List ℕ} {j1 f1 s1 : ℕ} (g1 : GotList t n (i + 1 + 1 + 1 + 1) d false (set (set (set w (top + 1) 7) (top + 2) a) (top + 3) l) w1 (top + 5) (top + 4) j1 f1 sr s1) where
              pub function_6 : (code_at (tokens_from t j1) ≡ 30 → ⊥) → parse_function (level d) (tokens_from t i) ≡ none
              function_6 e = rw (function_named.1, fnamed.1, got_open_paren_sign has (i + 1) p2.0 p2.1, got_close_paren_sign has (i + 1 + 1) p3.0 p3.1, got_open has (i + 1 + 1 + 1) p4.0 p4.1, g1.is, no_close has j1 e)

              module _ (p6 : (j1 < n) × (code_at (tokens_from t j1) ≡ 30)) where
                pub function_got : top + 5 ≤ length w → GotCommand t n i (parse_function (level d) (tokens_from t i)) w w1 top (j1 + 1) f1 s s1
                function_got z =
                    let a1 = g1.above in
                    record { tree = function function_named.0 g1.tree; is = rw (function_named.1, fnamed.1, got_open_paren_sign has (i + 1) p2.0 p2.1, got_close_paren_sign has (i + 1 + 1) p3.0 p3.1, got_open has (i + 1 + 1 + 1) p4.0 p4.1, g1.is, got_close has j1 p6.0 p6.1); coded = ((g1.kept (top + 1) (omega arith) (omega arith) ∙ (first_of_3 w top 7 a l (omega arith)), a1, bytes_at t function_named.0 w1 (top + 2) (top + 3) a l (g1.kept (top + 2) (omega arith) (omega arith) ∙ (second_of_3 w top 7 a l (omega arith))) (g1.kept (top + 3) (omega arith) (omega arith) ∙ (third_of_3 w top 7 a l (omega arith))) function_named.2, g1.coded), omega arith); staged = rw (g1.staged, se) (simp max_assoc); kept = λ x u v. g1.kept x (omega arith) (omega arith) ∙ (below_3 w top 7 a l (omega arith) x (omega arith)); goes = omega (arith, g1.goes); within = omega arith; above = omega arith; fits = g1.fits; room = omega (arith, g1.room, g1.goes) }
