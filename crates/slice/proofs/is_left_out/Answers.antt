use Rattle.std.proofs.Common.{rules}
use Rattle.std.proofs.Math.Bool.{or-false}
use borrow.Author.Tests.{tests}
use Rattle.std.proofs.lemmas.Iterator.{YieldsList-from_slice}
use Rattle.std.proofs.lemmas.Iterator.Search.{any_from_yields_List}
use Rattle.syntax.specs.Base.{same}
use Rattle.code.specs.Chains.{chain_of}
use Rattle.slice.specs.Says.{spelled}
use Rattle.slice.proofs.is_left_out.Goals as goal

pub returns : goal.returns
returns c =
    let s = spelled c.args.code.text.now c.args.code.words.now (chain_of c.args.code.words.now c.args.parts) in
    let e = any_from_yields_List (λ n. same s n.now) c.any.new.self _ c.any.result c.any.ensures.ran (YieldsList-from_slice _ c.iter.ensures.rest) (λ x b q k. search (rules, tests)) in
    simp or-false at e
