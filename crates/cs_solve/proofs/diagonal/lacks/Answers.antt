-- `lacks`: the diagonal is the value at row j. Assumes nothing.
use Rattle.cs_solve.proofs.Columns.{lacking-is}
use Rattle.cs_solve.proofs.diagonal.lacks.Goals as goal

pub returns : goal.returns
returns c = lacking-is c.column-col.ensures c.value_at.ensures
