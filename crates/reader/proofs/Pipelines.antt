-- Pipelines, as chains; a pipeline with or without ! before it.
use Rattle.std.proofs.Common.{◌≡◌, ℕ, ◌+◌, ◌<◌, ◌≤◌, max, true, false, List, length, set, ◌∙◌, arith, length-set}
use mathlib.Core.Option.{none}
use Rattle.std.proofs.lemmas.List.{get_or-set_same, get_or-set_other}
use Rattle.syntax.specs.Tree.{Pipeline, single, piped}
use Rattle.syntax.specs.Stage.{pipeline_stage}
use Rattle.grammar.specs.Parser.{level, parse_command, parse_pipeline_go, parse_pipeline, parse_negatable, is_not, lookahead}
use Rattle.lexer.specs.Stored.{tokens_from, code_at, Has}
use Rattle.code.specs.Layout.{PipelineAt}
use Rattle.reader.specs.Reading.{GotCommand, GotPipeline, GotNegatable}
use Rattle.reader.proofs.Frame.{command_frame}
use Rattle.reader.proofs.Chains.{Chain, chain, step, close, fail}
use Rattle.reader.proofs.Expects.{got_pipe_sign, no_pipe_sign, got_not}

pub pipeline_hold : (t : List ℕ) (n i d : ℕ) (m w : List ℕ) (top link s : ℕ) → Has t n m → i ≤ n → top ≤ length w → link < top → Chain Pipeline pipeline_stage (parse_pipeline_go (level d)) (PipelineAt t) t n i w w top link i top link s s
pipeline_hold t n i d m w top link s h = chain Pipeline pipeline_stage (parse_pipeline_go (level d)) (PipelineAt t) t n i w top link s h.count

raised_1 : (s c l : ℕ) → max s (max 1 (max c l)) ≡ max (max (max s c) 1) l
raised_1 s c l = omega arith

module _ (d : ℕ) {t : List ℕ} {n i0 : ℕ} {m w0 w : List ℕ} (hs : Has t n m) {top link i free p s0 s : ℕ} (h : Chain Pipeline pipeline_stage (parse_pipeline_go (level d)) (PipelineAt t) t n i0 w0 w top link i free p s0 s) where
  pub pipeline_fail : parse_command (level d) (tokens_from t i) ≡ none → parse_pipeline (level d) (tokens_from t i0) ≡ none
  pipeline_fail e = fail Pipeline pipeline_stage (parse_pipeline_go (level d)) (PipelineAt t) t n i0 w0 top link s0 h (λ f. rw e)

  module _ {w1 : List ℕ} {j free1 s1 : ℕ} (g : GotCommand t n i (parse_command (level d) (tokens_from t i)) (set w p free) w1 free j free1 s s1) where
    pub pipeline_end : (code_at (tokens_from t j) ≡ 35 → ⊥) → GotPipeline t n i0 d w0 (set w1 free 0) top link j free1 s0 s1
    pipeline_end e = close Pipeline pipeline_stage (parse_pipeline_go (level d)) (PipelineAt t) t n i0 w0 top link s0 h (single g.tree) (set w1 free 0) 11 j free1 s1 (λ f. rw (g.is, no_pipe_sign hs j e)) g.goes g.within g.above (omega (arith, g.fits, length-set w1 free 0)) (λ k x. get_or-set_other w1 free k 0 0 (omega arith) ∙ g.kept k x (omega arith)) (λ x. (free, free1, (x, omega arith, omega (arith, h.at_p), g.coded.1, omega arith), command_frame t w1 (set w1 free 0) g.tree free free1 g.coded.1 (λ k u v. get_or-set_other w1 free k 0 0 (omega arith)) g.coded.0, get_or-set_same w1 free 0 0 (omega (arith, g.fits, g.coded.1)))) g.staged g.room

    pub pipeline_step : (s2 : ℕ) → s2 ≡ max s1 1 → (j < n) → code_at (tokens_from t j) ≡ 35 → Chain Pipeline pipeline_stage (parse_pipeline_go (level d)) (PipelineAt t) t n i0 w0 w1 top link (j + 1) free1 free s0 s2
    pipeline_step s2 se l e = step Pipeline pipeline_stage (parse_pipeline_go (level d)) (PipelineAt t) t n i0 w0 top link s0 h (λ x. piped g.tree x) w1 (j + 1) free1 (λ f. rw (g.is, got_pipe_sign hs j l e)) (omega (arith, g.goes)) (omega arith) (omega (arith, g.coded.1)) g.fits (λ k x. g.kept k x (omega arith)) (omega (arith, g.room)) (λ v hi le q l a y. (free, free1, (a, omega arith, omega (arith, h.at_p), g.coded.1, le), command_frame t w1 v g.tree free free1 g.coded.1 (λ x u z. q x z (omega arith)) g.coded.0, y)) s2 (λ l. rw (se, g.staged) (raised_1 s _ _))

module _ (t : List ℕ) (n i d : ℕ) (w : List ℕ) (top s : ℕ) {m : List ℕ} (hs : Has t n m) where
  pub plain_none : is_not (lookahead (tokens_from t i)) ≡ false → parse_pipeline (level d) (tokens_from t i) ≡ none → parse_negatable (level d) (tokens_from t i) ≡ none
  plain_none e f = rw (e, f)

  pub plain_got : is_not (lookahead (tokens_from t i)) ≡ false → top + 4 ≤ length w → (y : ℕ) → y ≡ 0 → {w1 : List ℕ} {j free s1 : ℕ} → GotPipeline t n i d (set w (top + 2) y) w1 (top + 4) (top + 3) j free s s1 → GotNegatable t n i d w w1 top j free s s1
  plain_got e z y ye {w1} {j} {free} {s1} g = record { tree = (false, g.tree); is = rw (e, g.is); coded = (g.above, g.kept (top + 2) (omega arith) (omega arith) ∙ (get_or-set_same w (top + 2) y 0 (omega arith) ∙ ye), g.coded); staged = g.staged; kept = λ k x u. g.kept k (omega arith) (omega arith) ∙ get_or-set_other w (top + 2) k y 0 (omega arith); goes = g.goes; within = g.within; above = omega (arith, g.above); fits = g.fits; room = omega (arith, g.room) }

  module _ (e : is_not (lookahead (tokens_from t i)) ≡ true) where
    module _ (l : (i < n) × (code_at (tokens_from t i) ≡ 31)) where
      pub negated_none : parse_pipeline (level d) (tokens_from t (i + 1)) ≡ none → parse_negatable (level d) (tokens_from t i) ≡ none
      negated_none f = rw (e, got_not hs i l.0 l.1, f)

      pub negated_got : top + 4 ≤ length w → (y : ℕ) → y ≡ 1 → {w1 : List ℕ} {j free s1 : ℕ} → GotPipeline t n (i + 1) d (set w (top + 2) y) w1 (top + 4) (top + 3) j free s s1 → GotNegatable t n i d w w1 top j free s s1
      negated_got z y ye {w1} {j} {free} {s1} g = record { tree = (true, g.tree); is = rw (e, got_not hs i l.0 l.1, g.is); coded = (g.above, g.kept (top + 2) (omega arith) (omega arith) ∙ (get_or-set_same w (top + 2) y 0 (omega arith) ∙ ye), g.coded); staged = g.staged; kept = λ k x u. g.kept k (omega arith) (omega arith) ∙ get_or-set_other w (top + 2) k y 0 (omega arith); goes = omega (arith, g.goes); within = g.within; above = omega (arith, g.above); fits = g.fits; room = omega (arith, g.room) }
