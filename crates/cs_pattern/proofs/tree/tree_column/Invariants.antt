-- `tree_column` meets its contract. Assumes nothing.
use Rattle.cs_tree.proofs.Climbing.{Climbing, Rows}
use Rattle.std.proofs.Common.{◌-◌}
use Rattle.cs_pattern.proofs.tree.tree_column.Given as goal

abbrev pub invariant-climb : goal.invariant-climb
invariant-climb l = Climbing l.k l.initial.par l.initial.anc l.par l.anc l.initial.i l.i

abbrev pub decreases-climb : goal.decreases-climb
decreases-climb l = l.k - l.i

abbrev pub invariant-loop-row : goal.invariant-loop-row
invariant-loop-row l = Rows l.k l.rows l.initial.par l.initial.anc l.par l.anc l.row-index
