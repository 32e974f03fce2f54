-- `count`: the loop of proofs/Summed.antt. Assumes nothing.
use Rattle.cs_matrix.specs.Lent.{matrix_of}
use Rattle.cs_sum.proofs.Summed.{Tallying}
use Rattle.cs_sum.proofs.sum.count.Given as goal

abbrev pub invariant-loop-j : goal.invariant-loop-j
invariant-loop-j l = Tallying (matrix_of l.a.matrix) (matrix_of l.b.matrix) l.places l.j
