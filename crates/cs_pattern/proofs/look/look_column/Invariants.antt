-- `look_column` meets its contract. Assumes nothing.
use Rattle.cs_tree.proofs.Spreading.{Going}
use Rattle.cs_tree.proofs.Looking.{Looking}
use Rattle.cs_pattern.proofs.look.look_column.Given as goal

abbrev pub invariant-loop-row : goal.invariant-loop-row
invariant-loop-row l = Looking l.k l.rows l.li l.initial.next l.next l.row-index × Going l.k l.rows l.initial.next l.li l.next l.li l.row-index
