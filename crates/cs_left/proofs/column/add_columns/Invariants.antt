-- `add_columns` meets its contract. Assumes nothing.
use Rattle.cs_left.proofs.Crossing.{Adding}
use Rattle.cs_left.proofs.column.add_columns.Given as goal

abbrev pub invariant-loop-u : goal.invariant-loop-u
invariant-loop-u l = Adding l.k l.us l.lp l.li l.lx l.initial.next l.initial.x l.next l.x l.u-index
