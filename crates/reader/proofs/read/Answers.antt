use Rattle.std.proofs.Common.{rules, sym, ap, length, arith}
use Rattle.reader.proofs.Wholes.{too_long, not_read, not_whole, program, few_tokens, moved}
use Rattle.reader.proofs.read.Goals as goal

pub returns-then-text-gt-MAX_TEXT : goal.returns-then-text-gt-MAX_TEXT
returns-then-text-gt-MAX_TEXT c = too_long c.args.text.now 16384 (omega arith) (omega arith)

pub returns-in-Err : goal.returns-in-Err
returns-in-Err c = rw (sym c.tokenize-tokens.ensures) (not_read c.tokenize-tokens.result.text.now c.in_text.result.at c.tokenize-tokens.result.small c.in_text.ensures c.in-Err.ensures.no_list)

pub returns-then-cursor-len : goal.returns-then-cursor-len
returns-then-cursor-len c = rw (sym c.tokenize-tokens.ensures) (not_whole c.tokenize-tokens.result.text.now c.tokenize-tokens.result.count c.tokenize-tokens.result.has c.tokenize-tokens.result.small c.in_default.ensures.read c.in_text-then-cursor-len.result.at c.in_text-then-cursor-len.ensures (omega arith))

pub returns : goal.returns
returns c = moved c.tokenize-tokens.ensures (search rules) c.number.ensures (program c.tokenize-tokens.result.text.now c.tokenize-tokens.result.count c.tokenize-tokens.result.has c.tokenize-tokens.result.small c.in_default.ensures.read (omega arith))

pub list-requires-clause-room : goal.list-requires-clause-room
list-requires-clause-room c = record { inside = omega arith; fits = omega arith; room = omega (arith, few_tokens c.tokenize-tokens.result.text.now, c.tokenize-tokens.result.has.count, ap length c.tokenize-tokens.ensures); short = omega arith }
