-- `forward`: the loop of proofs/Stepping.antt. Assumes nothing.
use Rattle.cs_matrix.specs.Lent.{matrix_of}
use Rattle.cs_solve_cs.proofs.Stepping.{Serving}
use Rattle.cs_solve_cs.proofs.steps.forward.Given as goal

abbrev pub invariant-loop-j : goal.invariant-loop-j
invariant-loop-j l = Serving (matrix_of l.a.matrix) l.w l.initial.x l.initial.xi l.initial.xv l.x l.xi l.xv l.at l.j
