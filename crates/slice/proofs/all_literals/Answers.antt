use Rattle.std.proofs.Common.{◌+◌, slice_index, ◌&&◌, sym, ap, ◌∙◌, rules}
use borrow.Author.Tests.{tests}
use Rattle.std.proofs.lemmas.Iterator.Search.{all_from_yields_List}
use Rattle.code.specs.Chains.{chain_of, ends_at}
use Rattle.code.proofs.Walks.{walk_cells, all_over}
use Rattle.slice.specs.Says.{literals_at}
use Rattle.slice.proofs.all_literals.Goals as goal

pub returns-then-all : goal.returns-then-all
returns-then-all c =
    let a = all_from_yields_List (λ a. literals_at c.args.code.words.now (slice_index c.args.code.words.now (a + 1))) c.all.new.self _ c.all.result c.all.ensures.ran (walk_cells c.chain-cells.result (chain_of c.args.code.words.now c.args.words) c.chain-cells.ensures.cells) (λ x b q k. search (rules, tests)) in
    let d = c.all.ensures.ran in
    let w = all_over _ d.0 d.1 c.all.result c.chain-cells.result c.all.new.self d.3 d.5 c.if-all.true in
    c.ended.ensures.over w.0 ∙ w.1 ∙ c.chain-cells.ensures.end ∙ ap (λ b. b && ends_at c.args.code.words.now c.args.words) (sym c.if-all.true ∙ a)

pub returns-else-all : goal.returns-else-all
returns-else-all c =
    let a = all_from_yields_List (λ a. literals_at c.args.code.words.now (slice_index c.args.code.words.now (a + 1))) c.all.new.self _ c.all.result c.all.ensures.ran (walk_cells c.chain-cells.result (chain_of c.args.code.words.now c.args.words) c.chain-cells.ensures.cells) (λ x b q k. search (rules, tests)) in
    c.if-all.false ∙ ap (λ b. b && ends_at c.args.code.words.now c.args.words) (sym c.if-all.false ∙ a)
