-- `put` meets its contract. Assumes nothing.
use Rattle.little.proofs.Putting.{Putting}
use Rattle.little.proofs.put.Given as goal

abbrev pub invariant-loop-i : goal.invariant-loop-i
invariant-loop-i l = Putting l.initial.out l.at l.k l.x l.out l.rest l.i
