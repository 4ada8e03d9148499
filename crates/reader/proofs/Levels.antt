-- Lists and else parts, level by level.
use Rattle.std.proofs.Common.{◌≡◌, ℕ, zero, suc, ◌-◌, ◌<◌, Bool, false, List, sym, ap, arith}
use mathlib.Core.Option.{none}
use Rattle.grammar.specs.Tokens.{Token}
use Rattle.grammar.specs.Parser.{level, parse_list, parse_else}

pub no_lists : (d : ℕ) (b : Bool) (ps : List Token) → d ≡ 0 → (level d).lists b ps ≡ none
unfolding level
no_lists d b ps e = rw e

pub no_elses : (d : ℕ) (ps : List Token) → d ≡ 0 → (level d).elses ps ≡ none
unfolding level
no_elses d ps e = rw e

less : (d : ℕ) → suc d - 1 ≡ d
less d = omega arith

pub lists_are : (d : ℕ) (b : Bool) (ps : List Token) → 0 < d → (level d).lists b ps ≡ parse_list (level (d - 1)) b ps
unfolding level
lists_are zero b ps h = absurd (omega arith)
lists_are (suc d) b ps h = ap (λ z. parse_list (level z) b ps) (sym (less d))

pub elses_are : (d : ℕ) (ps : List Token) → 0 < d → (level d).elses ps ≡ parse_else (level (d - 1)) (parse_list (level (d - 1)) false) ps
unfolding level
elses_are zero ps h = absurd (omega arith)
elses_are (suc d) ps h = ap (λ z. parse_else (level z) (parse_list (level z) false) ps) (sym (less d))
