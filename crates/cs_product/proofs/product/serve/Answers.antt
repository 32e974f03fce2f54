-- `serve`: the ways out of proofs/Produced.antt. Assumes nothing.
use Rattle.std.proofs.Common.{refl}
use Rattle.lists.proofs.Refusals.{passed-number, passed-some}
use Rattle.cs_product.proofs.Produced.{at_7, ready, at-end}
use Rattle.cs_product.proofs.product.serve.Goals as goal

pub returns-in_err-check_room : goal.returns-in_err-check_room
returns-in_err-check_room c = at_7 _ _ c.requires _ (passed-number _ _ c.from_residual.ensures.1 c.in_err-check_room.ensures.0)
    (passed-some _ _ c.from_residual.ensures.1)

pub fill-requires-2 : goal.fill-requires-2
fill-requires-2 c = ready _ _ c.requires _ c.in_ok-check_room.ensures.0 refl c.in_ok-check_room.ensures.1 c.fill.ensures refl

pub returns : goal.returns
returns c = at-end _ _ c.requires _ c.in_ok-check_room.ensures.0 refl c.fill-2.ensures
