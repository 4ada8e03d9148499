use Rattle.std.proofs.Common.{◌≡◌, refl, ◌∙◌, arith}
use Rattle.machine.proofs.Moves.{reach_none, reach_on, reach_print, reach_exit, reach_halt}
use Rattle.machine.proofs.stretch.run_stretch.Goals as goal
use Rattle.machine.proofs.stretch.run_stretch.Goals.{in-Continues, in-Prints}

pub loop-moves-init : goal.loop-moves-init
loop-moves-init c = record { same = refl; reached = λ number r d k s h t. reach_none h t; onward = record { says = λ number r d k s h t. omega arith } }

pub returns-in-Exits : goal.returns-in-Exits
returns-in-Exits c = let i = c.loop-moves.invariant in rw c.ended-in-Exits.ensures (record { onward = i.onward; says = record { same = c.take_step.ensures.same ∙ i.same; stretches = record { says = λ number r d k s h t. reach_exit c.in-Exits.n c.args.most (omega arith) t (i.reached number r d k s h t) (rw (c.in-Exits.is, i.same) at c.in-Ok.ensures.steps) } } })

pub returns-in-Err : goal.returns-in-Err
returns-in-Err c = let i = c.loop-moves.invariant in rw c.ended.ensures (record { onward = i.onward; says = record { same = c.take_step.ensures.same ∙ i.same; stretches = record { says = λ number r d k s h t. reach_halt c.in-Err.halt c.args.place c.args.most (omega arith) (i.reached number r d k s h t) (rw i.same at c.in-Err.ensures.steps) } } })

pub loop-moves-preserved : goal.loop-moves-preserved
loop-moves-preserved c =
    let i = c.loop-moves.invariant in
    record {
      same = c.take_step.ensures.same ∙ i.same;
      reached = λ number r d k s h t. elim c.match-step.branch [
        | in-Continues w ↦ rw (w.process-is, w.place-is) (reach_on t (i.reached number r d k s h t) (rw (w.in-Continues.is, i.same) at c.in-Ok.ensures.steps))
        | in-Prints w ↦ rw (w.process-is, w.place-is) (reach_print t (i.reached number r d k s h t) (rw (w.in-Prints.is, i.same) at c.in-Ok.ensures.steps))
      ];
      onward = record {
        says = λ number r d k s h t. elim c.match-step.branch [
          | in-Continues w ↦ omega (arith, w.place-is, i.onward.says number r d k s h t)
          | in-Prints w ↦ let z = i.reached number r d k s h t in let a = (rw (w.in-Prints.is, i.same) at c.in-Ok.ensures.steps).says number r z.c z.k z.rep in omega (arith, w.place-is, a.1, i.onward.says number r d k s h t)
        ];
      };
    }

pub returns : goal.returns
returns c = let i = c.loop-moves.invariant in rw c.ended-2.ensures (record { onward = i.onward; says = record { same = i.same; stretches = record { says = λ number r d k s h t. (let e : c.loop-moves.moves ≡ c.args.most = omega arith in rw e at (i.reached number r d k s h t), refl) } } })
