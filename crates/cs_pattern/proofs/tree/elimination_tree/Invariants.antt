-- `elimination_tree` meets its contract. Assumes nothing.
use Rattle.cs_tree.proofs.Growing.{Growing}
use Rattle.cs_pattern.specs.Columns.{columns}
use Rattle.cs_pattern.specs.Lent.{square_of}
use Rattle.cs_pattern.proofs.tree.elimination_tree.Given as goal

abbrev pub invariant-loop-k : goal.invariant-loop-k
invariant-loop-k l = Growing (columns (square_of l.fn.a)) l.par l.anc l.k
