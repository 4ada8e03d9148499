use Rattle.machine.proofs.Rooms.{own_room}
use Rattle.machine.proofs.room.own_room_stands.Goals as goal

pub returns : goal.returns
returns c = own_room
