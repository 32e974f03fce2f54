-- `transposed_at`: the step of proofs/Steps.antt. Assumes nothing.
use Rattle.cs_solve.proofs.Steps.{transposed-is}
use Rattle.cs_solve.proofs.tr_solve.transposed_at.Goals as goal

pub returns : goal.returns
returns c = transposed-is _ _ _ _ _ _ c.requires.here c.raised-y.ensures
