-- `put`: two slices side by side, of cs_solve/proofs/Sides.antt. Assumes nothing.
use Rattle.cs_solve_cs.specs.SolveCs.{put_at}
use Rattle.cs_solve.proofs.Sides.{Left}
use Rattle.cs_solve_cs.proofs.steps.put.Given as goal

abbrev pub invariant-loop-row : goal.invariant-loop-row
invariant-loop-row l = Left put_at l.rows l.vals l.initial.x l.row-iterator l.x
