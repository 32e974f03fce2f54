-- `read_columns` meets its contract. Assumes nothing.
use Rattle.cs_tree.proofs.Backward.{Reading}
use Rattle.cs_pattern.specs.Columns.{columns}
use Rattle.cs_pattern.specs.Lent.{square_of}
use Rattle.cs_pattern.proofs.quick.read_columns.Given as goal

abbrev pub invariant-loop-k : goal.invariant-loop-k
invariant-loop-k l = Reading (columns (square_of l.fn.a)) l.up l.ui l.mark l.k
