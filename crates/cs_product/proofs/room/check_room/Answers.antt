-- `check_room`: the ways out of proofs/Produced.antt. Assumes nothing.
use Rattle.cs_product.proofs.Produced.{bound_fits, room-counted}
use Rattle.cs_product.proofs.room.check_room.Goals as goal

pub bound-requires : goal.bound-requires
bound-requires c = c.requires.factors

pub returns-then-not-no_room : goal.returns-then-not-no_room
returns-then-not-no_room c = bound_fits _ _ c.requires _ _ _ c.bound.ensures c.if-not-no_room.ensures

pub returns-then-no_room : goal.returns-then-no_room
returns-then-no_room c = (room-counted _ _ _ _ _ c.count.ensures.0 c.if-no_room.ensures, c.count.ensures.1)

pub returns : goal.returns
returns c = (room-counted _ _ _ _ _ c.count.ensures.0 c.if-no_room.ensures, c.count.ensures.1)
