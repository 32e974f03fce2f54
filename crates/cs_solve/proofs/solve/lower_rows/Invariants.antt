-- `lower_rows`: two slices side by side, of cs_solve/proofs/Sides.antt. Assumes nothing.
use Rattle.std.proofs.Common.{take}
use Rattle.cs_solve.specs.Solve.{lower_at}
use Rattle.cs_solve.proofs.Sides.{Left}
use Rattle.cs_solve.proofs.solve.lower_rows.Given as goal

abbrev pub invariant-loop-row : goal.invariant-loop-row
invariant-loop-row l = Left (lower_at l.j l.x) (take l.n l.rows) (take l.n l.vals) l.initial.b l.row-iterator l.b
