-- `fill`: the loop of proofs/Produced.antt. Assumes nothing.
use Rattle.cs_matrix.specs.Lent.{matrix_of}
use Rattle.cs_product.proofs.Produced.{Writing}
use Rattle.cs_product.proofs.product.fill.Given as goal

abbrev pub invariant-loop-j : goal.invariant-loop-j
invariant-loop-j l = Writing (matrix_of l.a.matrix) (matrix_of l.b.matrix) l.initial.op l.initial.oi l.initial.ov l.mark l.met l.spare l.x
    l.op l.oi l.ov l.at l.j
