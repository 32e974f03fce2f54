-- `forward_at`: the step of proofs/Steps.antt. Assumes nothing.
use Rattle.cs_solve.proofs.Steps.{forward-is, forward_out}
use Rattle.cs_solve.proofs.solve.forward_at.Goals as goal

pub returns-then-j-b : goal.returns-then-j-b
returns-then-j-b c = forward-is _ _ _ _ _ c.lower_rows.ensures

pub returns-else-j-b : goal.returns-else-j-b
returns-else-j-b c = forward_out _ _ _ _ _ c.if-j-b.false
