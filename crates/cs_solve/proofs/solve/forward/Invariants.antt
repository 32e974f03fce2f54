-- `forward`: the loop of proofs/Turns.antt. Assumes nothing.
use Rattle.cs_matrix.specs.Lent.{matrix_of}
use Rattle.cs_solve.proofs.Turns.{Forwarding}
use Rattle.cs_solve.proofs.solve.forward.Given as goal

abbrev pub invariant-loop-j : goal.invariant-loop-j
invariant-loop-j l = Forwarding (matrix_of l.a.matrix) l.initial.b l.b l.j
