-- `check_room`: the ways out of proofs/Summed.antt. Assumes nothing.
use Rattle.cs_sum.proofs.Summed.{room_for_both, room-counted}
use Rattle.cs_sum.proofs.sum.check_room.Goals as goal

pub returns-then-not-no_room : goal.returns-then-not-no_room
returns-then-not-no_room c = room_for_both _ _ c.requires _ _ _ c.if-not-no_room.ensures

pub returns-then-no_room : goal.returns-then-no_room
returns-then-no_room c = room-counted _ _ _ _ _ c.count.ensures c.if-no_room.ensures

pub returns : goal.returns
returns c = room-counted _ _ _ _ _ c.count.ensures c.if-no_room.ensures
