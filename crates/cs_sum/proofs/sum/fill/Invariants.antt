-- `fill`: the loop of proofs/Summed.antt. Assumes nothing.
use Rattle.cs_matrix.specs.Lent.{matrix_of}
use Rattle.cs_sum.proofs.Summed.{Writing}
use Rattle.cs_sum.proofs.sum.fill.Given as goal

abbrev pub invariant-loop-j : goal.invariant-loop-j
invariant-loop-j l = Writing (matrix_of l.a.matrix) (matrix_of l.b.matrix) l.initial.op l.initial.oi l.initial.ov l.op l.oi l.ov l.at l.j
