-- `accumulate`: the loop of proofs/Adding.antt, from y times β. Assumes nothing.
use lib.ListN.{length}
use Rattle.cs_ops.proofs.Adding.{Storing}
use Rattle.cs_ops.specs.Axpy.{add_at}
use Rattle.cs_matrix.specs.Lent.{vector_of}
use Rattle.cs_ops.proofs.axpy.accumulate.Given as goal

abbrev pub invariant-loop-row : goal.invariant-loop-row
invariant-loop-row l = Storing (add_at l.alpha) (vector_of l.x) l.initial.y l.y (length l.yielded)
