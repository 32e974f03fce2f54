-- `lower_run`: the loop of lists/proofs/Runs.antt. Assumes nothing.
use lib.Ieee.{binary64, sub, mul}
use Rattle.lists.proofs.Runs.{Zipping}
use Rattle.cs_solve.proofs.solve.lower_run.Given as goal

abbrev pub invariant-loop-k : goal.invariant-loop-k
invariant-loop-k l = Zipping (λ y v. sub binary64 y (mul binary64 l.x v)) l.vals l.initial.b l.k-end l.b l.k
