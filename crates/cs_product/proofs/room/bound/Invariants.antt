-- `bound`: the loop of proofs/Produced.antt. Assumes nothing.
use Rattle.cs_matrix.specs.Lent.{matrix_of}
use Rattle.cs_product.proofs.Produced.{Bounding}
use Rattle.cs_product.proofs.room.bound.Given as goal

abbrev pub invariant-loop-j : goal.invariant-loop-j
invariant-loop-j l = Bounding (matrix_of l.a.matrix) (matrix_of l.b.matrix) l.most l.j
