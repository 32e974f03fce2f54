-- `transposed`: the loop of proofs/Turns.antt. Assumes nothing.
use Rattle.cs_matrix.specs.Lent.{matrix_of}
use Rattle.cs_solve.proofs.Turns.{Transposing}
use Rattle.cs_solve.proofs.tr_solve.transposed.Given as goal

abbrev pub invariant-loop-j : goal.invariant-loop-j
invariant-loop-j l = Transposing (matrix_of l.a.matrix) l.initial.b l.b l.j
