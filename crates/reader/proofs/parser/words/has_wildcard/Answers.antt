use Rattle.std.proofs.Common.{◌||◌, nat_eq, sym, ap, ◌∙◌}
use Rattle.std.specs.List.{list_any}
use Rattle.reader.proofs.Nexts.{wildcard_is}
use Rattle.reader.proofs.parser.words.has_wildcard.Goals as goal

pub returns-then-contains : goal.returns-then-contains
returns-then-contains c = c.if-contains.true ∙ sym (wildcard_is c.args.bytes.now ∙ ap (λ x. x || list_any (λ y. nat_eq y 63) c.args.bytes.now) (sym c.if-contains.ensures.value))

pub returns-else-contains : goal.returns-else-contains
returns-else-contains c = c.contains-else-contains.ensures.value ∙ sym (wildcard_is c.args.bytes.now ∙ ap (λ x. x || list_any (λ y. nat_eq y 63) c.args.bytes.now) (sym c.if-contains.ensures.value))
