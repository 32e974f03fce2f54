-- The columns of a lent pattern, each the list of its stored rows. Assumes nothing.
use Rattle.std.specs.Prelude.{ℕ, List}
use Rattle.lists.specs.Tables.{table}
use Rattle.cs_matrix.specs.Matrix.{Pattern, column}

unfoldable pub columns : Pattern → List (List ℕ)
columns a = table a.ncols (λ j. column a.p j a.i)
