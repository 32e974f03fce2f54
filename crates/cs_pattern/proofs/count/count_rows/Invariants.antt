-- `count_rows` meets its contract. Assumes nothing.
use Rattle.cs_tree.proofs.Bumping.{Totting}
use Rattle.cs_pattern.specs.Columns.{columns}
use Rattle.cs_pattern.specs.Lent.{square_of}
use Rattle.cs_pattern.proofs.count.count_rows.Given as goal

abbrev pub invariant-loop-k : goal.invariant-loop-k
invariant-loop-k l = Totting (columns (square_of l.fn.a)) l.initial.counts l.mark l.counts l.total l.k
