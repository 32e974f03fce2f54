-- `raised`: two slices side by side, of cs_solve/proofs/Sides.antt. Assumes nothing.
use lib.ListN.{set}
use Rattle.cs_solve.specs.TrSolve.{raise_at}
use Rattle.cs_solve.proofs.Sides.{Left}
use Rattle.cs_solve.proofs.tr_solve.raised.Given as goal

abbrev pub invariant-loop-row : goal.invariant-loop-row
invariant-loop-row l = Left (raise_at l.j) l.rows l.vals l.b l.row-iterator (set l.b l.j l.y)
