-- `sum`: the ways out of proofs/Summed.antt. Assumes nothing.
use Rattle.std.proofs.Common.{refl, []}
use Rattle.lists.proofs.Refusals.{passed-number, passed-some}
use Rattle.cs_matrix.specs.Matrix.{stored}
use Rattle.cs_sum.proofs.Summed.{at_check, alike, at_7, ready, at-end}
use Rattle.cs_sum.proofs.sum.sum.Goals as goal

pub returns-in_err-check_two : goal.returns-in_err-check_two
returns-in_err-check_two c = at_check _ _ _ c.differ.ensures (passed-number _ _ c.from_residual.ensures.1 c.in_err-check_two.ensures)
    (passed-some _ _ c.from_residual.ensures.1)

pub invariant_of-a : goal.invariant_of-a
invariant_of-a c = record { valid = (alike _ _ (stored [] [] []) c.differ.ensures c.in_ok-check_two.ensures refl).first }

pub invariant_of-b : goal.invariant_of-b
invariant_of-b c = record { valid = (alike _ _ (stored [] [] []) c.differ.ensures c.in_ok-check_two.ensures refl).second }

pub check_room-requires : goal.check_room-requires
check_room-requires c = alike _ _ (stored [] [] []) c.differ.ensures c.in_ok-check_two.ensures refl

pub returns-in_err-check_room : goal.returns-in_err-check_room
returns-in_err-check_room c = at_7 _ _ _ c.differ.ensures c.in_ok-check_two.ensures refl
    (passed-number _ _ c.from_residual-in_err-check_room.ensures.1 c.in_err-check_room.ensures)
    (passed-some _ _ c.from_residual-in_err-check_room.ensures.1)

pub fill-requires : goal.fill-requires
fill-requires c = ready _ _ _ c.differ.ensures c.in_ok-check_two.ensures refl c.in_ok-check_room.ensures refl

pub returns : goal.returns
returns c = at-end _ _ _ c.differ.ensures c.in_ok-check_two.ensures refl c.in_ok-check_room.ensures refl c.fill.ensures
