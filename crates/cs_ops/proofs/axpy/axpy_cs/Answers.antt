-- `axpy_cs`: the ways out of proofs/Adding.antt. Assumes nothing.
use Rattle.std.proofs.Common.{refl}
use Rattle.lists.proofs.Refusals.{passed-number, passed-some}
use Rattle.cs_ops.proofs.Adding.{at_2, at-vector, axpy-fits, at-assigned, at_added}
use Rattle.cs_ops.proofs.axpy.axpy_cs.Goals as goal

pub returns-then-y-x : goal.returns-then-y-x
returns-then-y-x c = at_2 _ _ _ c.check_vector-refused.ensures c.if-y-x.true c.lower.ensures

pub returns-in_err-refused : goal.returns-in_err-refused
returns-in_err-refused c = at-vector _ _ _ (passed-number _ _ c.from_residual.ensures.1 c.in_err-refused.ensures) c.if-y-x.false
    (passed-some _ _ c.from_residual.ensures.1)

pub assign-requires : goal.assign-requires
assign-requires c = axpy-fits _ _ c.in_ok-refused.ensures c.if-y-x.false refl

pub accumulate-requires : goal.accumulate-requires
accumulate-requires c = axpy-fits _ _ c.in_ok-refused.ensures c.if-y-x.false refl

pub returns-then-beta : goal.returns-then-beta
returns-then-beta c = at-assigned _ _ _ _ c.in_ok-refused.ensures c.if-y-x.false refl c.if-beta.true c.assign.ensures

pub returns-else-beta : goal.returns-else-beta
returns-else-beta c = at_added _ _ _ _ c.in_ok-refused.ensures c.if-y-x.false refl c.if-beta.false c.accumulate.ensures
