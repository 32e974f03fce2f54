-- `count_walk` meets its contract. Assumes nothing.
use Rattle.cs_tree.proofs.Bumping.{Bumping}
use Rattle.std.proofs.Common.{◌+◌, ◌-◌}
use Rattle.cs_pattern.proofs.count.count_walk.Given as goal

abbrev pub invariant-loop-i : goal.invariant-loop-i
invariant-loop-i l = Bumping l.k l.par l.row l.initial.mark l.mark l.initial.counts l.counts l.i l.len

abbrev pub decreases-loop-i : goal.decreases-loop-i
decreases-loop-i l = l.k + 1 - l.i
