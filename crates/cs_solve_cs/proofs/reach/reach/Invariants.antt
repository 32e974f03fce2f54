-- `reach`: the loop of proofs/Reaching.antt. Assumes nothing.
use Rattle.cs_matrix.specs.Lent.{matrix_of}
use Rattle.cs_solve_cs.proofs.Reaching.{Reaching}
use Rattle.cs_solve_cs.proofs.reach.reach.Given as goal

abbrev pub invariant-loop-j : goal.invariant-loop-j
invariant-loop-j l = Reaching (matrix_of l.a.matrix) l.bi l.w l.count l.lacking l.j
