-- `product`: the ways out of proofs/Produced.antt. Assumes nothing.
use Rattle.std.proofs.Common.{refl, arith, []}
use Rattle.lists.specs.Calls.{lent, scratch}
use Rattle.lists.proofs.Refusals.{passed-number, passed-some}
use Rattle.cs_matrix.specs.Matrix.{stored}
use Rattle.cs_columns.proofs.Judging.{passed}
use Rattle.cs_product.proofs.Produced.{at_check, m_small, at_6, in_w1, in_w2, in_w3, in_x, clean, at_served}
use Rattle.cs_product.proofs.product.product.Goals as goal

pub returns-in_err-check_two : goal.returns-in_err-check_two
returns-in_err-check_two c = at_check _ _ _ (passed-number _ _ c.from_residual.ensures.1 c.in_err-check_two.ensures)
    (passed-some _ _ c.from_residual.ensures.1)

pub overflow_add-need : goal.overflow_add-need
overflow_add-need c = let h = m_small _ _ (lent (stored [] [] []) (scratch [] [] [] [])) c.in_ok-check_two.ensures refl c.max.ensures
    c.max-2.ensures c.max-need.ensures in record { fits = omega arith }

pub returns-then-too_narrow : goal.returns-then-too_narrow
returns-then-too_narrow c = at_6 _ _ _ c.in_ok-check_two.ensures refl c.max.ensures c.max-2.ensures c.max-need.ensures c.too_narrow.ensures
    c.if-too_narrow.true

pub slice_bounds-serve-end : goal.slice_bounds-serve-end
slice_bounds-serve-end c = in_w1 _ _ (lent (stored [] [] []) _) c.in_ok-check_two.ensures refl c.max.ensures c.max-2.ensures c.max-need.ensures
    c.too_narrow.ensures c.if-too_narrow.false c.clear_scratch.ensures

pub slice_bounds-serve-end-2 : goal.slice_bounds-serve-end-2
slice_bounds-serve-end-2 c = in_w2 _ _ (lent (stored [] [] []) _) c.in_ok-check_two.ensures refl c.max.ensures c.max-2.ensures c.max-need.ensures
    c.too_narrow.ensures c.if-too_narrow.false c.clear_scratch.ensures

pub slice_bounds-serve-end-3 : goal.slice_bounds-serve-end-3
slice_bounds-serve-end-3 c = in_w3 _ _ (lent (stored [] [] []) _) c.in_ok-check_two.ensures refl c.max.ensures c.max-2.ensures c.max-need.ensures
    c.too_narrow.ensures c.if-too_narrow.false c.clear_scratch.ensures

pub slice_bounds-serve-end-4 : goal.slice_bounds-serve-end-4
slice_bounds-serve-end-4 c = in_x _ _ (lent (stored [] [] []) _) c.in_ok-check_two.ensures refl c.max.ensures c.max-2.ensures c.max-need.ensures
    c.too_narrow.ensures c.if-too_narrow.false c.clear_scratch.ensures

pub invariant_of-serve : goal.invariant_of-serve
invariant_of-serve c = record { valid = (passed _ _ _ c.in_ok-check_two.ensures refl).first }

pub invariant_of-serve-2 : goal.invariant_of-serve-2
invariant_of-serve-2 c = record { valid = (passed _ _ _ c.in_ok-check_two.ensures refl).second }

pub serve-answer-requires : goal.serve-answer-requires
serve-answer-requires c = clean _ _ (lent (stored [] [] []) _) c.in_ok-check_two.ensures refl c.max.ensures c.max-2.ensures c.max-need.ensures
    c.too_narrow.ensures c.if-too_narrow.false c.clear_scratch.ensures

pub returns : goal.returns
returns c = at_served _ _ _ c.in_ok-check_two.ensures refl c.max.ensures c.max-2.ensures c.max-need.ensures c.too_narrow.ensures
    c.if-too_narrow.false c.clear_scratch.ensures c.serve-answer.new.mark c.serve-answer.new.met c.serve-answer.new.spare c.serve-answer.new.x
    c.serve-answer.auto.mark c.serve-answer.auto.met c.serve-answer.auto.spare c.serve-answer.auto.x c.clear_scratch-2.ensures c.serve-answer.ensures
