use Rattle.std.proofs.Common.{◌≡◌, ℕ, ◌+◌, ◌<◌, Bool, List, Bor, refl, arith, rules}
use Rattle.std.proofs.lemmas.Result.{err_from_is_err_and}
use Rattle.code.specs.declared.cells.Part.{Part}
use Rattle.code.specs.declared.cells.Part.TheVariants.{Literal, Parameter, Substitution}
use Rattle.code.specs.Cells.{PartIs}
use Rattle.words.specs.Encoding.{at}
use Rattle.machine.proofs.Expand.{part_on, part_tight, part_beyond, part_cell}
use Rattle.machine.proofs.expansion.step_part.Goals as goal

-- a part that is no literal
no_literal : (text code : List ℕ) (a : ℕ) (p : Part) → PartIs text code a p → ((q : Bool) (s : Bor (List ℕ)) → p ≡ Literal q s → ⊥) → 1 < at code (a + 1)
no_literal text code a (Literal q s) h n = absurd (n q s refl)
no_literal text code a (Parameter q s) h n = omega (arith, h.0)
no_literal text code a (Substitution q l) h n = omega (arith, h.0)

pub returns-in_default : goal.returns-in_default
returns-in_default t = record { same = search rules; says = λ number r c k h. part_beyond t.args.expansion t.requires.control t.requires.parts (omega (arith, t.in_default.ensures)) h }

pub returns-in_default-part : goal.returns-in_default-part
returns-in_default-part t = record { same = search rules; says = λ number r c k h. part_beyond t.args.expansion t.requires.control t.requires.parts (no_literal t.args.code.text.now t.args.code.words.now t.args.expansion.parts t.in-Some.part t.in-Some.ensures t.in_default-part.not-Literal) h }

pub returns-in_err-push_literal : goal.returns-in_err-push_literal
returns-in_err-push_literal t =
    let i = rw t.in-Literal.is at t.in-Some.ensures in
    let p = err_from_is_err_and t.from_residual.result t.from_residual.ensures.1 in
    rw (p.1, p.2) (record { same = search rules; says = λ number r c k h. part_tight t.args.expansion t.in-Literal.quoted t.in-Literal.bytes.now t.requires.control t.requires.parts i.0 (part_cell t.args.code.text.now t.args.code.words.now t.args.expansion.parts i.1) (rw t.words.ensures at t.in_err-push_literal.ensures.pushed.err) h })

pub returns : goal.returns
returns t =
    let i = rw t.in-Literal.is at t.in-Some.ensures in
    rw (t.goes_to.ensures, t.word.ensures) (record { same = search rules; says = λ number r c k h. part_on t.args.expansion t.in-Literal.quoted t.in-Literal.bytes.now t.push_literal.ensures.bytes t.requires.control t.requires.parts i.0 (part_cell t.args.code.text.now t.args.code.words.now t.args.expansion.parts i.1) (rw t.words.ensures at t.in_ok-push_literal.ensures.pushed.ok) h })
