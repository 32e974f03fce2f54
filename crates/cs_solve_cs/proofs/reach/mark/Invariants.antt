-- `mark`: the loop of proofs/Marking.antt. Assumes nothing.
use Rattle.cs_solve_cs.proofs.Marking.{Marking}
use Rattle.cs_solve_cs.proofs.reach.mark.Given as goal

abbrev pub invariant-loop-row : goal.invariant-loop-row
invariant-loop-row l = Marking l.from l.rows l.initial.w l.w l.row-index
