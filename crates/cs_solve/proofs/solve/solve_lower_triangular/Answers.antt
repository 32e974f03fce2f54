-- `solve_lower_triangular`: the ways out of proofs/Ways.antt. Assumes nothing.
use Rattle.std.proofs.Common.{arith, refl}
use Rattle.lists.proofs.Refusals.{refusal-some}
use Rattle.cs_solve.proofs.Ways.{passed, at_check, at_10, at-end}
use Rattle.cs_solve.proofs.solve.solve_lower_triangular.Goals as goal

pub returns-in-Err : goal.returns-in-Err
returns-in-Err c = rw c.refused.ensures (at_check _ _ _ _ c.in-Err.ensures (refusal-some _))

pub invariant_of-valid : goal.invariant_of-valid
invariant_of-valid c = record { valid = (passed _ _ c.in_default.ensures refl).valid }

pub overflow_cast-column : goal.overflow_cast-column
overflow_cast-column c = omega (arith, c.in-Some.ensures.2, (passed _ _ c.in_default.ensures refl).valid.pattern.cols)

pub returns-in-Some : goal.returns-in-Some
returns-in-Some c = rw c.lacking.ensures (at_10 _ _ _ _ c.in_default.ensures refl c.in-Some.ensures.0 c.in-Some.ensures.1)

pub forward-requires : goal.forward-requires
forward-requires c = passed _ _ c.in_default.ensures refl

pub returns : goal.returns
returns c = at-end _ _ _ _ c.in_default.ensures refl c.in_default-first_lacking.ensures c.forward.ensures
