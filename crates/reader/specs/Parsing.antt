-- What a parser makes of the tokens that its cursor has ahead.
use Rattle.std.specs.Prelude.{◌≡◌, ℕ, ◌+◌, ◌*◌, ◌<◌, ◌≤◌, Bool, List, length}
use Rattle.syntax.specs.Tree.{Command}
use Rattle.grammar.specs.Tokens.{Token}
use Rattle.grammar.specs.Parser.{Parsed}
use Rattle.lexer.specs.Stored.{tokens_from}
use Rattle.reader.specs.Reading.{GotPart, GotMore, GotWord, GotWords, GotRedirects, GotValue, GotAssignments, GotCommand, GotElse, GotArms, GotPipeline, GotNegatable, GotAndOr, GotList}
use Rattle.lexer.specs.declared.tokens.Span.{Span}
use Rattle.reader.specs.Stages.{stage_number}
use Rattle.reader.specs.declared.parser.Parser.{Parser}
use Rattle.reader.specs.declared.parser.Cursor.{Cursor}

-- the tokens from the next one on
abbrev pub ahead : Parser → Cursor → List Token
ahead p c = tokens_from p.tokens.text.now c.at

-- room for the code of what stands from the next token on
pub record Room (p : Parser) (c : Cursor) (extra : ℕ) : Type 0 where
  pub inside : c.at ≤ p.tokens.count
  pub fits : c.free ≤ length c.code.now
  pub room : c.free + (16 * p.tokens.count + (4 * p.left + extra)) ≤ length c.code.now + (16 * c.at + 16)
  pub short : length c.code.now < 4294967296

-- the code still stands in the same words
abbrev pub SameWords : Cursor → Cursor → Type 0
SameWords c d = (d.code.ghost_name ≡ c.code.ghost_name) × (length d.code.now ≡ length c.code.now)

abbrev pub ReadPart : Parser → Cursor → Cursor → Type 0
ReadPart p c d = GotPart p.tokens.text.now p.tokens.count c.at p.left c.code.now d.code.now c.free d.at d.free (stage_number c.stage) (stage_number d.stage)

abbrev pub ReadMore : Parser → ℕ → Cursor → Cursor → Type 0
ReadMore p link c d = GotMore p.tokens.text.now p.tokens.count c.at p.left c.code.now d.code.now c.free link d.at d.free (stage_number c.stage) (stage_number d.stage)

abbrev pub ReadWord : Parser → ℕ → Cursor → Cursor → Type 0
ReadWord p link c d = GotWord p.tokens.text.now p.tokens.count c.at p.left c.code.now d.code.now c.free link d.at d.free (stage_number c.stage) (stage_number d.stage)

abbrev pub ReadWords : Parser → ℕ → Cursor → Cursor → Type 0
ReadWords p link c d = GotWords p.tokens.text.now p.tokens.count c.at p.left c.code.now d.code.now c.free link d.at d.free (stage_number c.stage) (stage_number d.stage)

abbrev pub ReadRedirects : Parser → ℕ → Cursor → Cursor → Type 0
ReadRedirects p link c d = GotRedirects p.tokens.text.now p.tokens.count c.at p.left c.code.now d.code.now c.free link d.at d.free (stage_number c.stage) (stage_number d.stage)

abbrev pub ReadValue : Parser → Span → ℕ → Cursor → Cursor → Type 0
ReadValue p span link c d = GotValue p.tokens.text.now p.tokens.count c.at p.left span.start span.len c.code.now d.code.now c.free link d.at d.free (stage_number c.stage) (stage_number d.stage)

abbrev pub ReadAssignments : Parser → ℕ → Cursor → Cursor → Type 0
ReadAssignments p link c d = GotAssignments p.tokens.text.now p.tokens.count c.at p.left c.code.now d.code.now c.free link d.at d.free (stage_number c.stage) (stage_number d.stage)

-- a command, by what the grammar's parser finds
abbrev pub ReadCommand : Parsed Command → Parser → Cursor → Cursor → Type 0
ReadCommand x p c d = GotCommand p.tokens.text.now p.tokens.count c.at x c.code.now d.code.now c.free d.at d.free (stage_number c.stage) (stage_number d.stage)

abbrev pub ReadElse : Parser → ℕ → Cursor → Cursor → Type 0
ReadElse p link c d = GotElse p.tokens.text.now p.tokens.count c.at p.left c.code.now d.code.now c.free link d.at d.free (stage_number c.stage) (stage_number d.stage)

abbrev pub ReadArms : Parser → ℕ → Cursor → Cursor → Type 0
ReadArms p link c d = GotArms p.tokens.text.now p.tokens.count c.at p.left c.code.now d.code.now c.free link d.at d.free (stage_number c.stage) (stage_number d.stage)

abbrev pub ReadPipeline : Parser → ℕ → Cursor → Cursor → Type 0
ReadPipeline p link c d = GotPipeline p.tokens.text.now p.tokens.count c.at p.left c.code.now d.code.now c.free link d.at d.free (stage_number c.stage) (stage_number d.stage)

abbrev pub ReadNegatable : Parser → Cursor → Cursor → Type 0
ReadNegatable p c d = GotNegatable p.tokens.text.now p.tokens.count c.at p.left c.code.now d.code.now c.free d.at d.free (stage_number c.stage) (stage_number d.stage)

abbrev pub ReadAndOr : Parser → ℕ → Cursor → Cursor → Type 0
ReadAndOr p link c d = GotAndOr p.tokens.text.now p.tokens.count c.at p.left c.code.now d.code.now c.free link d.at d.free (stage_number c.stage) (stage_number d.stage)

abbrev pub ReadList : Parser → ℕ → Bool → Cursor → Cursor → Type 0
ReadList p link last c d = GotList p.tokens.text.now p.tokens.count c.at p.left last c.code.now d.code.now c.free link d.at d.free (stage_number c.stage) (stage_number d.stage)
