-- `count_column` meets its contract. Assumes nothing.
use Rattle.cs_tree.proofs.Bumping.{Rowing}
use Rattle.std.proofs.Common.{◌≤◌, length}
use Rattle.cs_pattern.proofs.count.count_column.Given as goal

abbrev pub invariant-loop-row : goal.invariant-loop-row
invariant-loop-row l = Rowing l.k l.par l.rows l.initial.mark l.mark l.initial.counts l.counts l.count l.row-index × (length l.rows ≤ 4194304)
