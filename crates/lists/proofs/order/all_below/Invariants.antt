-- `all_below`: every one is looked at, and `bad` tells. Assumes nothing.
use Rattle.std.proofs.Common.{ltb, length, get_or}
use Rattle.lists.proofs.Folds.{Telling}
use Rattle.lists.proofs.order.all_below.Given as goal

abbrev pub invariant-loop-x : goal.invariant-loop-x
invariant-loop-x l = Telling (λ q. ltb (get_or l.l q 0) l.n) (length l.l) l.bad l.x-index
