-- A whole text.
use Rattle.std.proofs.Common.{◌≡◌, ℕ, ◌+◌, ◌<◌, ◌≤◌, max, Bool, true, false, ◌&&◌, T, leb, List, ◌∷◌, length, get_or, take, sym, refl, ap, ◌∙◌, subst, arith, leb→le}
use mathlib.Core.Option.{some, none}
use Rattle.std.proofs.lemmas.List.{get_or-take}
use Rattle.syntax.specs.Tree.{CommandList}
use Rattle.syntax.specs.Stage.{list_stage}
use Rattle.grammar.specs.Tokens.{Token, tokens, start}
use Rattle.grammar.specs.Grammar.{Parses}
use Rattle.grammar.specs.Parser.{level, whole, parse}
use Rattle.grammar.proofs.Both.{parser_agrees}
use Rattle.lexer.specs.Stored.{tokens_of, tokens_from, Has}
use Rattle.lexer.proofs.Lex.{tokens_few}
use Rattle.reader.specs.Reading.{GotList}
use Rattle.reader.specs.Answer.{IsProgram, NoProgram}
use Rattle.reader.proofs.Basics.{not_none}
use Rattle.reader.proofs.Frame.{list_frame}
use Rattle.reader.proofs.Free.{list_free}
use Rattle.reader.proofs.Views.{here, there}

parse_is : (t : List ℕ) → parse (tokens start t) ≡ whole ((level 33).lists true (tokens_from t 0))
unfolding parse tokens_of
parse_is t = refl

pub few_tokens : (t : List ℕ) → length (tokens_of t) ≤ length t + 1
unfolding tokens_of
few_tokens t = tokens_few t

first_of : (a b : Bool) → T (a && b) → T a
first_of true b h = tt
first_of false b h = h

pub too_long : (t : List ℕ) (at : ℕ) → 16384 < length t → at ≤ length t → NoProgram t at
too_long t at h l = record { none = λ x p. absurd (omega (arith, leb→le (length t) 16384 (first_of (leb (length t) 16384) _ p.small))); within = l }

no_parse : (t : List ℕ) → length t ≤ 16384 → parse (tokens start t) ≡ none → (l : CommandList) → Parses t l → ⊥
no_parse t h e l p = not_none (sym e ∙ (parser_agrees t l h).0 p)

pub not_read : (t : List ℕ) (at : ℕ) → length t ≤ 16384 → at ≤ length t → (level 33).lists true (tokens_from t 0) ≡ none → NoProgram t at
not_read t at h l e = record { none = no_parse t h (parse_is t ∙ ap whole e); within = l }

more_left : (l : CommandList) (p : Token) (r : List Token) → whole (some (l, p ∷ r)) ≡ none
more_left l p r = refl

module _ (t : List ℕ) (n : ℕ) {m w w1 : List ℕ} {j free s : ℕ} (hs : Has t n m) (h : length t ≤ 16384) (g : GotList t n 0 33 true w w1 2 1 j free 0 s) where
  pub not_whole : (at : ℕ) → at ≤ length t → j < n → NoProgram t at
  not_whole at l k = record { none = no_parse t h (parse_is t ∙ (ap whole g.is ∙ ap (λ ps. whole (some (g.tree, ps))) (here j hs k))); within = l }

  kept : (k : ℕ) → k < free → get_or (take free w1) k 0 ≡ get_or w1 k 0
  kept k l = get_or-take free w1 k 0 l

  pub program : n ≤ j → IsProgram t w1 (get_or w1 1 0) free s
  program k =
      let few : n ≤ length t + 1 = omega (arith, hs.count, few_tokens t) in
      let a = g.above in
      let e : parse (tokens start t) ≡ some g.tree = parse_is t ∙ (ap whole g.is ∙ ap (λ ps. whole (some (g.tree, ps))) (there j hs k)) in
      let f = list_frame t w1 (take free w1) g.tree 2 free 1 (λ x u v. kept x v) (kept 1 (omega arith)) g.coded in
      record { tree = g.tree; parses = (parser_agrees t g.tree h).1 e; coded = list_free t w1 g.tree 2 free 1 g.coded; packed = rw (sym (kept 1 (omega arith))) (list_free t (take free w1) g.tree 2 free 1 f); staged = g.staged ∙ zero_max (list_stage g.tree); fits = g.fits; small = omega (arith, g.room, g.within) }
    where
      zero_max : (x : ℕ) → max 0 x ≡ x
      zero_max x = omega arith

-- the same of an equal text and equal words
pub moved : {t u w w1 : List ℕ} {root words s s1 : ℕ} → t ≡ u → w ≡ w1 → s ≡ s1 → IsProgram t w1 root words s1 → IsProgram u w root words s
moved {t} {u} {w} {w1} {root} {words} {s} {s1} e f g p = subst (λ z. IsProgram u w root words z) (sym g) (subst (λ z. IsProgram u z root words s1) (sym f) (subst (λ z. IsProgram z w1 root words s1) e p))
