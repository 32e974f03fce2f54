-- `add_column`: the loop of proofs/Meeting.antt. Assumes nothing.
use lib.ListN.{length}
use Rattle.cs_product.proofs.Meeting.{AddingUp}
use Rattle.cs_product.proofs.accumulate.add_column.Given as goal

abbrev pub invariant-loop-row : goal.invariant-loop-row
invariant-loop-row l = AddingUp (length l.initial.x) l.stamp l.beta l.rows l.vals l.initial.x l.mark l.met l.x l.many (length l.yielded)
