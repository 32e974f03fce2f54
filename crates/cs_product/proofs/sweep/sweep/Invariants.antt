-- `sweep`: the loop of proofs/Sweeping.antt. Assumes nothing.
use lib.ListN.{length}
use Rattle.cs_product.proofs.Sweeping.{Sweeping}
use Rattle.cs_product.proofs.sweep.sweep.Given as goal

abbrev pub invariant-loop-r : goal.invariant-loop-r
invariant-loop-r l = Sweeping (length l.initial.x) l.lo l.hi l.start l.initial.x l.initial.oi l.initial.ov l.x l.oi l.ov l.at l.r
