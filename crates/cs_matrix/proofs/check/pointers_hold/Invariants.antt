-- `pointers_hold`: the first, the last, then every pair of neighbours, and `falls` tells. Assumes nothing.
use Rattle.lists.proofs.Folds.{Telling}
use Rattle.cs_matrix.proofs.Pointers.{climbs_at}
use Rattle.cs_matrix.proofs.check.pointers_hold.Given as goal

abbrev pub invariant-loop-k : goal.invariant-loop-k
invariant-loop-k l = Telling (climbs_at l.p) l.last l.falls l.k
