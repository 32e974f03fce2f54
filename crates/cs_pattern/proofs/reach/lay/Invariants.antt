-- `lay` meets its contract. Assumes nothing.
use Rattle.cs_tree.proofs.Tracing.{Reaching}
use Rattle.cs_pattern.proofs.reach.lay.Given as goal

abbrev pub invariant-loop-row : goal.invariant-loop-row
invariant-loop-row l = Reaching l.s l.k l.par l.rows l.initial.mark l.mark l.initial.out l.out l.end l.top l.row-index
