-- `count`: the loop of proofs/Produced.antt. Assumes nothing.
use Rattle.cs_matrix.specs.Lent.{matrix_of}
use Rattle.cs_product.proofs.Produced.{Tallying}
use Rattle.cs_product.proofs.room.count.Given as goal

abbrev pub invariant-loop-j : goal.invariant-loop-j
invariant-loop-j l = Tallying (matrix_of l.a.matrix) (matrix_of l.b.matrix) l.mark l.met l.x l.entries l.j
