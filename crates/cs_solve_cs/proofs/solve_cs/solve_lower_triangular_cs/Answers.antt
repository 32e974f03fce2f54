-- `solve_lower_triangular_cs`: the ways out of proofs/Ways.antt. Assumes nothing.
use Rattle.std.proofs.Common.{arith, refl}
use Rattle.lists.proofs.Refusals.{refusal-some}
use Rattle.cs_solve_cs.proofs.Ways.{passed, at_check, at_6, w1_long, x_long, ready, at_served}
use Rattle.cs_solve_cs.proofs.solve_cs.solve_lower_triangular_cs.Goals as goal

pub returns-in-Err : goal.returns-in-Err
returns-in-Err c = rw c.refused.ensures (at_check _ _ _ _ _ _ _ _ c.in-Err.ensures (refusal-some _))

pub overflow_add-need : goal.overflow_add-need
overflow_add-need c = let h = (passed _ _ c.in_default.ensures refl).valid.pattern.cols in
    record { fits = omega arith }

pub returns-then-too_narrow : goal.returns-then-too_narrow
returns-then-too_narrow c = rw c.refused-then-too_narrow.ensures
    (at_6 _ _ _ _ _ _ _ _ c.in_default.ensures refl c.too_narrow.ensures c.if-too_narrow.true)

pub invariant_of-valid : goal.invariant_of-valid
invariant_of-valid c = record { valid = (passed _ _ c.in_default.ensures refl).valid }

pub slice_bounds-serve-end : goal.slice_bounds-serve-end
slice_bounds-serve-end c = let h = w1_long _ _ c.too_narrow.ensures c.if-too_narrow.false c.clear_scratch.ensures in omega arith

pub slice_bounds-serve-end-2 : goal.slice_bounds-serve-end-2
slice_bounds-serve-end-2 c = let h = x_long _ _ c.too_narrow.ensures c.if-too_narrow.false c.clear_scratch.ensures in omega arith

pub serve-served-requires : goal.serve-served-requires
serve-served-requires c = ready _ _ c.too_narrow.ensures c.if-too_narrow.false c.clear_scratch.ensures _ _ _ _ _ _ c.in_default.ensures refl

pub returns : goal.returns
returns c = at_served _ _ _ _ _ _ _ _ c.in_default.ensures refl c.too_narrow.ensures c.if-too_narrow.false
    c.clear_scratch.ensures c.type_inv.bv c.serve-served.new.w c.serve-served.new.x c.serve-served.ensures c.serve-served.auto.w
    c.serve-served.auto.x c.fill.ensures c.fill-2.ensures
