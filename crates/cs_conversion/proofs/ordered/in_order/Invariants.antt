-- `in_order` meets its contract. Assumes nothing.
use Rattle.cs_conversion.proofs.InOrder.{Watching}
use Rattle.cs_conversion.proofs.ordered.in_order.Given as goal

abbrev pub invariant-loop-k : goal.invariant-loop-k
invariant-loop-k l = Watching l.rows l.cols l.bad l.k
