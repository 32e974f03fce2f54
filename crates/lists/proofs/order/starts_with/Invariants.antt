-- `starts_with`: every place of the shorter is looked at, and `apart` tells. Assumes nothing.
use Rattle.std.proofs.Common.{length}
use Rattle.lists.proofs.Folds.{Telling}
use Rattle.lists.proofs.Matching.{same_at}
use Rattle.lists.proofs.order.starts_with.Given as goal

abbrev pub invariant-loop-q : goal.invariant-loop-q
invariant-loop-q l = Telling (same_at l.a l.b) (length l.a) l.apart l.q
