-- `divide` meets its contract. Assumes nothing.
use Rattle.cs_left.proofs.Columns.{Dividing}
use Rattle.cs_left.proofs.column.divide.Given as goal

abbrev pub invariant-loop-q : goal.invariant-loop-q
invariant-loop-q l = Dividing l.d l.rows l.initial.vals l.initial.x l.vals l.x l.q
