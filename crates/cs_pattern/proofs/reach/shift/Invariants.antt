-- `shift` meets its contract. Assumes nothing.
use Rattle.cs_tree.proofs.Tracing.{Shifting}
use Rattle.cs_pattern.proofs.reach.shift.Given as goal

abbrev pub invariant-loop-t : goal.invariant-loop-t
invariant-loop-t l = Shifting l.len l.top l.low l.initial.out l.out l.t
