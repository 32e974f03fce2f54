-- `value_at`: what is left of the rows and values has the value that all of them have. Assumes nothing.
use Rattle.std.proofs.Common.{◌≡◌}
use Rattle.std.specs.Iterator.Adapters.{zip_first, zip_second}
use Rattle.std.specs.Slice.Iter.{iter_rest}
use Rattle.cs_matrix.specs.Matrix.{value_at}
use Rattle.cs_solve.proofs.diagonal.value_at.Given as goal

abbrev pub invariant-loop-row : goal.invariant-loop-row
invariant-loop-row l = value_at l.j l.rows l.vals ≡ value_at l.j (iter_rest (zip_first l.row-iterator)) (iter_rest (zip_second l.row-iterator))
