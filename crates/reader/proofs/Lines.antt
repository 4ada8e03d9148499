-- Words and redirections, as chains.
use Rattle.std.proofs.Common.{◌≡◌, ℕ, ◌+◌, ◌-◌, ◌<◌, ◌≤◌, Bool, true, false, ◌⊎◌, List, length, set, sym, refl, ap, ◌∙◌, arith, length-set}
use mathlib.Core.Option.{some, none}
use Rattle.std.proofs.lemmas.List.{get_or-set_same, get_or-set_other}
use Rattle.syntax.specs.Tree.{Words, no_words, and_word, Redirects, no_redirects, redirect}
use Rattle.grammar.specs.Parser.{level, parse_word, parse_words_go, parse_words, parse_redirects_go, parse_redirects, no_word, lookahead, redirect_at, after_first}
use Rattle.code.specs.Layout.{WordsAt, RedirectsAt}
use Rattle.lexer.specs.Stored.{tokens_from, Has, code_at}
use Rattle.syntax.specs.Stage.{words_stage, redirects_stage}
use Rattle.reader.specs.Reading.{ends_words, GotWord, GotWords, GotRedirects}
use Rattle.reader.proofs.Views.{here}
use Rattle.reader.proofs.Frame.{parts_frame}
use Rattle.reader.proofs.Signs.{ends_is, arrow_yes, arrow_no, kind_by, kind_back}
use Rattle.reader.proofs.Chains.{Chain, chain, step, finish, fail}

module _ (d : ℕ) {t : List ℕ} {n i0 : ℕ} {m w0 w : List ℕ} (hs : Has t n m) {top link i free p s0 s : ℕ} (h : Chain Words words_stage (parse_words_go (level d)) (WordsAt t) t n i0 w0 w top link i free p s0 s) (k : ℕ) (ke : k ≡ code_at (tokens_from t i)) where
  nw : {b : Bool} → b ≡ ends_words k → no_word (lookahead (tokens_from t i)) ≡ b
  nw e = ends_is (tokens_from t i) ∙ (ap ends_words (sym ke) ∙ sym e)

  pub words_end : true ≡ ends_words k → GotWords t n i0 d w0 (set w p 0) top link i free s0 s
  words_end e = finish Words words_stage (parse_words_go (level d)) (WordsAt t) t n i0 w0 top link s0 h no_words (λ m. rw (nw e)) (λ v x. x) refl

  pub words_fail : false ≡ ends_words k → parse_word (level d) (tokens_from t i) ≡ none → parse_words (level d) (tokens_from t i0) ≡ none
  words_fail e f = fail Words words_stage (parse_words_go (level d)) (WordsAt t) t n i0 w0 top link s0 h (λ m. rw (nw e, f))

  pub words_step : false ≡ ends_words k → {w1 : List ℕ} {j free1 s1 : ℕ} → GotWord t n i d (set w p free) w1 (free + 2) (free + 1) j free1 s s1 → Chain Words words_stage (parse_words_go (level d)) (WordsAt t) t n i0 w0 w1 top link j free1 free s0 s1
  words_step e {w1} {j} {free1} {s1} g = step Words words_stage (parse_words_go (level d)) (WordsAt t) t n i0 w0 top link s0 h (λ x. and_word g.tree x) w1 j free1 (λ m. rw (nw e, g.is)) (omega (arith, g.room, g.above, g.within)) g.within (omega (arith, g.above)) g.fits (λ x y. g.kept x (omega arith) (omega arith)) (omega (arith, g.room)) (λ v hi le q l a y. (free, free1, (a, omega arith, omega (arith, h.at_p), g.above, le), parts_frame t w1 v g.tree (free + 2) free1 (free + 1) (λ x u z. q x z (omega arith)) (q (free + 1) (omega (arith, g.above)) (omega arith)) g.coded, y)) s1 (λ l. omega (arith, g.staged))

pub words_hold : (t : List ℕ) (n i d : ℕ) (m w : List ℕ) (top link s : ℕ) → Has t n m → i ≤ n → top ≤ length w → link < top → Chain Words words_stage (parse_words_go (level d)) (WordsAt t) t n i w w top link i top link s s
words_hold t n i d m w top link s h = chain Words words_stage (parse_words_go (level d)) (WordsAt t) t n i w top link s h.count

pub redirects_hold : (t : List ℕ) (n i d : ℕ) (m w : List ℕ) (top link s : ℕ) → Has t n m → i ≤ n → top ≤ length w → link < top → Chain Redirects redirects_stage (parse_redirects_go (level d)) (RedirectsAt t) t n i w w top link i top link s s
redirects_hold t n i d m w top link s h = chain Redirects redirects_stage (parse_redirects_go (level d)) (RedirectsAt t) t n i w top link s h.count

module _ (d : ℕ) {t : List ℕ} {n i0 : ℕ} {m w0 w : List ℕ} (hs : Has t n m) {top link i free p s0 s : ℕ} (h : Chain Redirects redirects_stage (parse_redirects_go (level d)) (RedirectsAt t) t n i0 w0 w top link i free p s0 s) (k : ℕ) (ke : k ≡ code_at (tokens_from t i)) where
  pub redirects_end : (k < 36) ⊎ (39 < k) → GotRedirects t n i0 d w0 (set w p 0) top link i free s0 s
  redirects_end e = finish Redirects redirects_stage (parse_redirects_go (level d)) (RedirectsAt t) t n i0 w0 top link s0 h no_redirects (λ m. rw (arrow_no (tokens_from t i) k ke e)) (λ v x. x) refl

  ar : 36 ≤ k → k ≤ 39 → i < n → redirect_at (tokens_from t i) ≡ some (kind_by (k - 36), tokens_from t (i + 1))
  ar a b l = arrow_yes (tokens_from t i) (k - 36) (omega arith) (omega (arith, ke)) ∙ ap (λ ps. some (kind_by (k - 36), after_first ps)) (here i hs l)

  pub redirects_fail : 36 ≤ k → k ≤ 39 → i < n → parse_word (level d) (tokens_from t (i + 1)) ≡ none → parse_redirects (level d) (tokens_from t i0) ≡ none
  redirects_fail a b l f = fail Redirects redirects_stage (parse_redirects_go (level d)) (RedirectsAt t) t n i0 w0 top link s0 h (λ m. rw (ar a b l, f))

  pub redirects_step : 36 ≤ k → k ≤ 39 → i < n → free + 2 ≤ length w → (z1 : ℕ) → z1 ≡ k - 36 → {w1 : List ℕ} {j free1 s1 : ℕ} → GotWord t n (i + 1) d (set (set w p free) (free + 1) z1) w1 (free + 3) (free + 2) j free1 s s1 → Chain Redirects redirects_stage (parse_redirects_go (level d)) (RedirectsAt t) t n i0 w0 w1 top link j free1 free s0 s1
  redirects_step ka kb l z z1 ze {w1} {j} {free1} {s1} g = step Redirects redirects_stage (parse_redirects_go (level d)) (RedirectsAt t) t n i0 w0 top link s0 h (λ x. redirect (kind_by (k - 36)) g.tree x) w1 j free1 (λ m. rw (ar ka kb l, g.is)) (omega (arith, g.goes)) g.within (omega (arith, g.above)) g.fits (λ x y. g.kept x (omega arith) (omega arith) ∙ get_or-set_other (set w p free) (free + 1) x z1 0 (omega arith)) (omega (arith, g.room)) (λ v hi le q l a y. (free, free1, (a, omega arith, omega (arith, h.at_p), g.above, le), q (free + 1) (omega (arith, g.above)) (omega arith) ∙ (g.kept (free + 1) (omega arith) (omega arith) ∙ get_or-set_same (set w p free) (free + 1) z1 0 (omega (arith, length-set w p free)) ∙ ze ∙ kind_back (k - 36) (omega arith)), parts_frame t w1 v g.tree (free + 3) free1 (free + 2) (λ x u z. q x z (omega arith)) (q (free + 2) (omega (arith, g.above)) (omega arith)) g.coded, y)) s1 (λ l. omega (arith, g.staged))
