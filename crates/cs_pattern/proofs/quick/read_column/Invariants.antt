-- `read_column` meets its contract. Assumes nothing.
use Rattle.cs_tree.proofs.Backward.{Backing}
use Rattle.cs_pattern.proofs.quick.read_column.Given as goal

abbrev pub invariant-loop-row : goal.invariant-loop-row
invariant-loop-row l = Backing l.k l.par l.rows l.held l.initial.mark l.mark l.top l.row-index
