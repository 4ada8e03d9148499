use Rattle.std.proofs.Common.{◌≡◌, ◌-◌, [], get_or, set, ap, ◌∙◌, arith}
use Rattle.store.specs.Held.{model}
use Rattle.scheduler.proofs.Rotation.{queue_more, queue_last, queue_there, first_is}
use Rattle.scheduler.proofs.queue.rotate.Goals as goal

pub loop-i-preserved : goal.loop-i-preserved
loop-i-preserved c =
    let i = c.loop-i.invariant in
    let n = c.len-last.ensures.is in
    record { same = c.set.ensures.same ∙ i.same; after = queue_more (model c.args.st.now) (model c.loop-i.st) _ c.loop-i.i (queue_there (model c.args.st.now) (omega (arith, n))) (omega (arith, n)) i.after (c.set.ensures.after ∙ ap (λ v. set (model c.loop-i.st) 0 (set (get_or (model c.loop-i.st) 0 []) c.loop-i.i v)) c.get-next.ensures) }

pub returns-clause-after : goal.returns-clause-after
returns-clause-after c =
    let i = c.loop-i.invariant in
    let n = c.len-last.ensures.is in
    let f = first_is _ _ c.in-Some.ensures in
    queue_last (model c.args.st.now) (model c.loop-i.st) _ (c.len-last.result - 1) c.in-Some.front (queue_there (model c.args.st.now) (omega (arith, n, f.0))) (omega (arith, n, f.0)) f.1 (let e : c.loop-i.i ≡ c.len-last.result - 1 = omega (arith, n, f.0) in rw e at i.after) c.set-2.ensures.after
