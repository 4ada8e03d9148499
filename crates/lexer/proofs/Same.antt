-- Values with one code are equal.
use Rattle.std.proofs.Common.{◌≡◌, ◌+◌, ◌<◌, ◌≤◌, Bool, true, false, ◌≢◌, sym, refl, ap, arith, rules}
use Rattle.syntax.specs.Base.{pick}
use Rattle.lexer.specs.declared.token.Keyword.{Keyword}
use Rattle.lexer.specs.declared.token.Sign.{Sign}
use Rattle.code.specs.declared.tags.PartTag.{PartTag}
use Rattle.lexer.specs.declared.token.Token.{Token}
use Rattle.lexer.specs.declared.token.Token.TheVariants.{Part as part, Keyword as keyword, Name as name, Assignment as assignment, Sign as sign, Unclosed as unclosed}
use Rattle.lexer.specs.Codes.{keyword_code, sign_code_of, part_code, code_of, next_code}
use Rattle.std.specs.declared.option.Option.{Option}
use Rattle.std.specs.declared.option.Option.TheVariants.{Some, None}

keyword_same : (x y : Keyword) → keyword_code x ≡ keyword_code y → x ≡ y
keyword_same x y e = search rules

sign_same : (x y : Sign) → sign_code_of x ≡ sign_code_of y → x ≡ y
sign_same x y e = search rules

part_same : (x y : PartTag) → part_code x ≡ part_code y → x ≡ y
part_same x y e = search rules

part_range : (p : PartTag) → part_code p < 7
part_range p = search rules

keyword_range : (k : Keyword) → (16 ≤ keyword_code k) × (keyword_code k ≤ 31)
keyword_range k = search rules

sign_range : (s : Sign) → (32 ≤ sign_code_of s) × (sign_code_of s ≤ 44)
sign_range s = search rules

joined_same : (p q : PartTag) (g h : Bool) → part_code p + pick g 8 0 ≡ part_code q + pick h 8 0 → part p g ≡ part q h
joined_same p q true true e = ap (λ x. part x true) (part_same p q (omega arith))
joined_same p q true false e = absurd (omega (arith, part_range p, part_range q))
joined_same p q false true e = absurd (omega (arith, part_range p, part_range q))
joined_same p q false false e = ap (λ x. part x false) (part_same p q (omega arith))

joined_range : (p : PartTag) (g : Bool) → part_code p + pick g 8 0 < 16
joined_range p true = omega (arith, part_range p)
joined_range p false = omega (arith, part_range p)

pub code_same : (x y : Token) → code_of x ≡ code_of y → x ≡ y
code_same (part p g) (part q h) e = joined_same p q g h e
code_same (part p g) y e = grind (arith, joined_range p g, keyword_range, sign_range)
code_same (keyword j) (keyword k) e = ap keyword (keyword_same j k e)
code_same (keyword j) y e = grind (arith, joined_range, keyword_range j, sign_range)
code_same (sign r) (sign s) e = ap sign (sign_same r s e)
code_same (sign r) y e = grind (arith, joined_range, keyword_range, sign_range r)
code_same name y e = grind (arith, joined_range, keyword_range, sign_range)
code_same (assignment n) y e = grind (arith, joined_range, keyword_range, sign_range)
code_same unclosed y e = grind (arith, joined_range, keyword_range, sign_range)

no_code : (x : Token) → code_of x ≢ 47
no_code x = grind (arith, joined_range, keyword_range, sign_range)

pub next_same : (x y : Option Token) → next_code x ≡ next_code y → x ≡ y
next_same None None e = refl
next_same None (Some y) e = absurd (no_code y (sym e))
next_same (Some x) None e = absurd (no_code x e)
next_same (Some x) (Some y) e = ap Some (code_same x y e)
