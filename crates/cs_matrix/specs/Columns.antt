-- A column as it is handed on. Assumes nothing.
use Rattle.std.specs.Prelude.{List, ◌≡◌, ℕ, Float}
use Rattle.cs_matrix.specs.Matrix.{Matrix, column}

-- the rows and values of column j
pub record IsColumn (a : Matrix) (j : ℕ) (rows : List ℕ) (vals : List Float) : Type 0 where
  pub rows_are : rows ≡ column a.pattern.p j a.pattern.i
  pub vals_are : vals ≡ column a.pattern.p j a.v
