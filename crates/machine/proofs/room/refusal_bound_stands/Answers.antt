use Rattle.machine.proofs.Rooms.{refusal_bound}
use Rattle.machine.proofs.room.refusal_bound_stands.Goals as goal

pub returns : goal.returns
returns c = refusal_bound
