-- The numbers of the machine's steps.
use Rattle.std.specs.Prelude.{◌≡◌, ℕ, ◌<◌, Result, MatchResult}
use Rattle.store_client.specs.declared.Op.{Op}
use Rattle.store_client.specs.declared.Op.TheVariants.{Double, Pop, Write}
use Rattle.store_client.specs.declared.UnknownOp.{UnknownOp}

abbrev pub code_of : Op → ℕ
code_of Double = 0
code_of Pop = 1
code_of Write = 2

-- the step with this number, or the number where no step has it
abbrev pub Decodes : ℕ → Result Op UnknownOp → Type 0
Decodes code r = MatchResult r (λ op. code_of op ≡ code) (λ e. (e.0 ≡ code) × (2 < code))
