-- `descend` meets its contract. Assumes nothing.
use Rattle.cs_tree.proofs.Aiming.{Aiming}
use Rattle.cs_tree.proofs.Backward.{Descending}
use Rattle.std.proofs.Common.{◌^◌, ◌<◌, length}
use Rattle.cs_pattern.proofs.quick.descend.Given as goal

abbrev pub invariant-loop-t : goal.invariant-loop-t
invariant-loop-t l = Descending l.k l.par l.held l.initial.mark l.mark l.above l.t × (length l.held < 2 ^ 32) ×
    Aiming l.k l.par l.row l.held l.initial.mark l.above l.t
