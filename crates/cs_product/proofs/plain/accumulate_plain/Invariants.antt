-- `accumulate_plain`: the loop of proofs/Adding.antt. Assumes nothing.
use lib.ListN.{length}
use Rattle.cs_matrix.specs.Lent.{matrix_of}
use Rattle.cs_product.proofs.Adding.{Adding-up}
use Rattle.cs_product.proofs.plain.accumulate_plain.Given as goal

abbrev pub invariant-loop-col : goal.invariant-loop-col
invariant-loop-col l = Adding-up (matrix_of l.a.matrix) l.rows l.vals l.initial.x l.x (length l.yielded)
