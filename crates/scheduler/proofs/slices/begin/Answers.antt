use Rattle.std.proofs.Common.{◌/◌, length, ◌∙◌, arith}
use Rattle.std.proofs.lemmas.Result.{err_from_is_err_and}
use Rattle.store.specs.Held.{model, bounds}
use Rattle.scheduler.specs.Lists.{opened}
use Rattle.scheduler.proofs.Opening.{few_lists, few_words, queue_begins, both}
use Rattle.scheduler.proofs.slices.begin.Goals as goal

pub returns-in_err-open_lists : goal.returns-in_err-open_lists
returns-in_err-open_lists c =
    let p = err_from_is_err_and c.from_residual.result c.from_residual.ensures.1 in
    let e = c.in-Some.ensures in
    rw p.1 (few_lists (length c.args.words.now) 5 (model c.in-Some.st) _ _ (omega arith) e.none (rw e.numbers at c.in_err-open_lists.ensures.says))

pub returns-in_err-push : goal.returns-in_err-push
returns-in_err-push c =
    let p = err_from_is_err_and c.from_residual-in_err-push.result c.from_residual-in_err-push.ensures.1 in
    let e = c.in-Some.ensures in
    rw p.1 (few_words (length c.args.words.now) (model c.in-Some.st) (bounds c.open_lists.new.st) _ _ (omega (arith, e.long)) e.none (rw e.numbers at c.in_ok-open_lists.ensures.says) (rw c.open_lists.ensures.after at c.in_err-push.ensures.says))

pub returns : goal.returns
returns c =
    let e = c.in-Some.ensures in
    let half = length c.args.words.now / 2 in
    let o = rw e.numbers at c.in_ok-open_lists.ensures.says in
    record { numbers = c.push.ensures.same ∙ both (bounds c.open_lists.new.st) half (opened 5 half) o.half o.ok; fits = omega (arith, e.long); lists = queue_begins half 0 (model c.in-Some.st) (model c.open_lists.new.st) (model c.push.new.self) e.none c.open_lists.ensures.after c.in_ok-push.ensures.after }
