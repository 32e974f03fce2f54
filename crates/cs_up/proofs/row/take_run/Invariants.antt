-- `take_run`: the loop of lists/proofs/Runs.antt. Assumes nothing.
use lib.Ieee.{binary64, sub, mul}
use Rattle.lists.proofs.Runs.{Zipping}
use Rattle.cs_up.proofs.row.take_run.Given as goal

abbrev pub invariant-loop-z : goal.invariant-loop-z
invariant-loop-z l = Zipping (λ a v. sub binary64 a (mul binary64 v l.t)) l.vals l.initial.x l.n l.x l.z
