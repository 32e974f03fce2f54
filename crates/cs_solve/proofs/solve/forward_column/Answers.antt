-- `forward_column`: the step of proofs/Steps.antt. Assumes nothing.
use Rattle.cs_solve.proofs.Steps.{forward-is}
use Rattle.cs_solve.proofs.solve.forward_column.Goals as goal

pub returns : goal.returns
returns c = forward-is _ _ _ _ _ c.lower_column.ensures
