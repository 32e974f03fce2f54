-- `fill_columns` meets its contract. Assumes nothing.
use Rattle.cs_tree.proofs.Falling.{Falling}
use Rattle.cs_pattern.specs.Columns.{columns}
use Rattle.cs_pattern.specs.Lent.{square_of}
use Rattle.cs_pattern.proofs.upper.fill_columns.Given as goal

abbrev pub invariant-loop-k : goal.invariant-loop-k
invariant-loop-k l = Falling (columns (square_of l.fn.a)) l.initial.up l.initial.ui l.initial.next l.initial.li l.mark l.up l.ui l.next l.li
    l.top l.k
