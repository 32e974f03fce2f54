-- `trace` meets its contract. Assumes nothing.
use Rattle.cs_tree.proofs.Tracing.{Tracing}
use Rattle.std.proofs.Common.{◌+◌, ◌-◌}
use Rattle.cs_pattern.proofs.reach.trace.Given as goal

abbrev pub invariant-loop-c : goal.invariant-loop-c
invariant-loop-c l = Tracing l.s l.k l.par l.row l.initial.mark l.mark l.initial.out l.out l.c l.len

abbrev pub decreases-loop-c : goal.decreases-loop-c
decreases-loop-c l = l.k + 1 - l.c
