-- `scale`: the check, then the loop. Assumes nothing.
use Rattle.lists.proofs.Calls.{left-written}
use Rattle.lists.proofs.Refusals.{passed-number, passed-some}
use Rattle.cs_ops.proofs.Adding.{scale_refused}
use Rattle.cs_ops.proofs.scale.scale.Goals as goal

pub returns-in_err-check : goal.returns-in_err-check
returns-in_err-check c = scale_refused _ _ (passed-number _ _ c.from_residual.ensures.1 c.in_err-check.ensures)
    (passed-some _ _ c.from_residual.ensures.1)

pub returns : goal.returns
returns c = (c.in_ok-check.ensures, left-written _ _ c.times.ensures)
