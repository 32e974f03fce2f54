-- `prepare` meets its contract. Assumes nothing.
use Rattle.std.proofs.Common.{refl, arith, []}
use Rattle.lists.specs.Calls.{scratch}
use Rattle.lists.proofs.Refusals.{passed-number, passed-some}
use Rattle.cs_matrix.proofs.Squaring.{prepare_refused, larger_small, prepare_6, prepare_0}
use Rattle.cs_matrix.proofs.square.prepare.Goals as goal

pub returns-in_err-check_square : goal.returns-in_err-check_square
returns-in_err-check_square c = prepare_refused _ _ (passed-number _ _ c.from_residual.ensures.1 c.in_err-check_square.ensures)
    (passed-some _ _ c.from_residual.ensures.1)

pub overflow_add-need : goal.overflow_add-need
overflow_add-need c = omega (arith, larger_small _ (scratch [] [] [] []) c.in_ok-check_square.ensures refl c.max-need.ensures)

pub returns-then-too_narrow : goal.returns-then-too_narrow
returns-then-too_narrow c = prepare_6 _ _ c.in_ok-check_square.ensures refl c.max-need.ensures c.too_narrow.ensures c.if-too_narrow.true

pub returns : goal.returns
returns c = prepare_0 _ _ c.in_ok-check_square.ensures refl c.max-need.ensures c.too_narrow.ensures c.if-too_narrow.false c.clear_scratch.ensures
