-- `accumulate`: the loop of proofs/Meeting.antt. Assumes nothing.
use lib.ListN.{length}
use Rattle.cs_matrix.specs.Lent.{matrix_of}
use Rattle.cs_product.proofs.Meeting.{Accumulating}
use Rattle.cs_product.proofs.accumulate.accumulate.Given as goal

abbrev pub invariant-loop-col : goal.invariant-loop-col
invariant-loop-col l = Accumulating (matrix_of l.a.matrix) l.stamp l.rows l.vals l.initial.x l.mark l.met l.x l.many (length l.yielded)
