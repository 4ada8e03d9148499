-- The number that stands for each tag.
use Rattle.std.specs.Prelude.{◌≡◌, ℕ, ◌+◌, ◌<◌, Result, MatchResult}
use Rattle.syntax.specs.Base.{pick}
use Rattle.code.specs.declared.tags.CommandTag.{CommandTag}
use Rattle.code.specs.declared.tags.CommandTag.TheVariants.{Simple, Group, Subshell, If, While, For, Case, Function}
use Rattle.code.specs.declared.tags.RedirectTag.{RedirectTag}
use Rattle.code.specs.declared.tags.RedirectTag.TheVariants.{Input, Output, Append, Here}
use Rattle.code.specs.declared.tags.PartKind.{PartKind}
use Rattle.code.specs.declared.tags.PartKind.TheVariants.{Literal, Parameter, Substitution}
use Rattle.code.specs.declared.tags.PartTag.{PartTag}
use Rattle.code.specs.declared.tags.UnknownTag.{UnknownTag}

abbrev pub command_number : CommandTag → ℕ
command_number Simple = 0
command_number Group = 1
command_number Subshell = 2
command_number If = 3
command_number While = 4
command_number For = 5
command_number Case = 6
command_number Function = 7

abbrev pub redirect_number : RedirectTag → ℕ
redirect_number Input = 0
redirect_number Output = 1
redirect_number Append = 2
redirect_number Here = 3

abbrev pub kind_number : PartKind → ℕ
kind_number Literal = 0
kind_number Parameter = 2
kind_number Substitution = 4

-- one more in quotes
abbrev pub part_number : PartTag → ℕ
part_number tag = kind_number tag.kind + pick tag.quoted 1 0

abbrev pub IsCommandNumber : CommandTag → ℕ → Type 0
IsCommandNumber tag n = n ≡ command_number tag

abbrev pub IsRedirectNumber : RedirectTag → ℕ → Type 0
IsRedirectNumber tag n = n ≡ redirect_number tag

abbrev pub IsPartNumber : PartTag → ℕ → Type 0
IsPartNumber tag n = n ≡ part_number tag

-- the result is the tag with this number, or an error with a number that is none
abbrev pub DecodesCommand : ℕ → Result CommandTag UnknownTag → Type 0
DecodesCommand n r = MatchResult r (λ tag. command_number tag ≡ n) (λ e. (e.0 ≡ n) × (7 < n))

abbrev pub DecodesRedirect : ℕ → Result RedirectTag UnknownTag → Type 0
DecodesRedirect n r = MatchResult r (λ tag. redirect_number tag ≡ n) (λ e. (e.0 ≡ n) × (3 < n))

abbrev pub DecodesPart : ℕ → Result PartTag UnknownTag → Type 0
DecodesPart n r = MatchResult r (λ tag. part_number tag ≡ n) (λ e. (e.0 ≡ n) × (5 < n))
