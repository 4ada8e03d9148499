-- The parser and the grammar say the same.
use mathlib.Core.Path.{◌≡◌, sym, ◌∙◌, ap, subst}
use mathlib.Core.Bool.{Bool, true, false, ◌&&◌}
use mathlib.Core.List.{List, [], ◌∷◌}
use mathlib.Core.Option.{Option, some, none}
use mathlib.Core.Logic.{◌↔◌}
use Prim.Native.Nat.{ℕ, suc, ◌<◌, max}
use native.Mathlib.Omega.{arith}
use lib.ListN.{length}
use lib.Dec.{leb, T, leb→le, le→leb}
use Rattle.syntax.specs.Tree.{CommandList}
use Rattle.syntax.specs.Depth.{list_depth}
use Rattle.grammar.specs.Tokens.{Token, tokens, start}
use Rattle.grammar.specs.Grammar.{ListText, Parses}
use Rattle.grammar.specs.Parser.{Parsed, level, whole, parse}
use Rattle.grammar.specs.Statements.{Unambiguous, ParserAgrees}
use Rattle.grammar.proofs.Fit.{Fits, fit, Ld, level_sound, and_r}
use Rattle.grammar.proofs.Find.{parse_in, app_nil, some_is, one_text, level_in, l_end}

is_some : {A : Type 0} → Option A → Bool
is_some none = false
is_some (some a) = true

pub not_none : {A : Type 0} {a : A} → none ≡ some a → ⊥
unfolding is_some
not_none {A} e = subst (λ (o : Option A). T (is_some o)) (sym e) tt

whole_fits : {d : ℕ} {ps : List Token} (l : CommandList) (o : Parsed CommandList) → Fits (Ld true d) ps o → whole o ≡ some l → Ld true d ps l
whole_fits l none h e = absurd (not_none e)
whole_fits {d} {ps} l (some (a, [])) (fit s q k) e = subst (Ld true d ps) (some_is e) (subst (λ z. Ld true d z a) (sym (k ∙ app_nil s)) q)
whole_fits l (some (a, p ∷ r)) h e = absurd (not_none e)

pub parse_fits : (ps : List Token) (l : CommandList) → parse ps ≡ some l → ListText ps l × (list_depth l < 33)
unfolding parse
parse_fits ps l e = whole_fits l ((level 33).lists true ps) ((level_sound 33).lists_fit true ps) e

both_T : (a b : Bool) → T a → T b → T (a && b)
both_T true b p q = q
both_T false b p q = p

pub reads_is : (t : List ℕ) (l : CommandList) → T (leb (length t) 16384) → Parses t l ↔ (parse (tokens start t) ≡ some l)
reads_is t l h = (λ k. parse_in k.derived (omega (arith, leb→le (list_depth l) 32 (and_r (leb (length t) 16384) _ k.small))), λ e. record { derived = (parse_fits (tokens start t) l e).0; small = both_T _ _ h (le→leb (list_depth l) 32 (omega (arith, (parse_fits (tokens start t) l e).1))) })

pub unambiguous : Unambiguous
unambiguous = one_text

-- at any depth
at_depth : (d : ℕ) {s : List Token} {l : CommandList} → ListText s l → list_depth l < d → (level d).lists true s ≡ some (l, [])
at_depth d {s} {l} h b = subst (λ z. (level d).lists true z ≡ some (l, [])) (app_nil s) ((level_in d).lx_in h b [] l_end)

pub one_list : (s : List Token) (l m : CommandList) → ListText s l → ListText s m → l ≡ m
one_list s l m h k = ap (λ x. x.0) (some_is (sym (at_depth (suc (max (list_depth l) (list_depth m))) h (omega arith)) ∙ at_depth (suc (max (list_depth l) (list_depth m))) k (omega arith)))

pub parser_agrees : ParserAgrees
parser_agrees t l h = reads_is t l (le→leb (length t) 16384 h)
