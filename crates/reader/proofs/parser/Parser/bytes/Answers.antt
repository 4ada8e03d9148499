use Rattle.std.proofs.Common.{◌-◌, length, drop, arith}
use Rattle.std.proofs.lemmas.List.{take-take}
use Rattle.reader.proofs.parser.Parser.bytes.Goals as goal

pub returns : goal.returns
returns c = take-take c.args.span.len (length c.args.self.now.tokens.text.now - c.args.span.start) (drop c.args.span.start c.args.self.now.tokens.text.now) (omega arith)
