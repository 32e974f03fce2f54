-- `falls`: how many of the places looked at so far fall. Assumes nothing.
use Rattle.std.proofs.Common.{◌-◌, length}
use Rattle.cs_matrix.specs.Falls.{falls_at}
use Rattle.cs_matrix.proofs.Falling.{Counting}
use Rattle.cs_matrix.proofs.check.falls.Given as goal

abbrev pub invariant-loop-k : goal.invariant-loop-k
invariant-loop-k l = Counting (falls_at l.rows) (length l.rows - 1) l.n (l.k - 1)
