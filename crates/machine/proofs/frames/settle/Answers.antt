use Rattle.std.proofs.Common.{◌-◌, ap}
use Rattle.store.specs.Held.{model}
use Rattle.machine.proofs.Steps.{settled_on}
use Rattle.machine.proofs.frames.settle.Goals as goal

pub returns-clause-says : goal.returns-clause-says
returns-clause-says c = let b = c.frames-frames.ensures in rw c.in-Some.is (settled_on (model c.args.st.now) (model c.set.new.self) (model c.set-2.new.self) (model c.set-3.new.self) c.args.process.base (c.len-at.result - 3) c.from.result c.in-Some.frame c.requires.has_frame (ap (λ n. n - 3) (rw b at c.len-at.ensures.is)) c.from.ensures (rw b at c.set.ensures.after) (rw b at c.set-2.ensures.after) (rw b at c.set-3.ensures.after))
