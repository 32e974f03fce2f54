-- What the run of a job starts from. Assumes nothing.
use Rattle.std.specs.Prelude.{true, ◌≡◌, ◌≤◌, length}
use Rattle.cs_matrix.specs.Matrix.{Matrix}
use Rattle.cs_tree.specs.Pattern.{Analysis, analysed}
use Rattle.cs_pattern.specs.Columns.{columns}
use Rattle.cs_pattern.specs.Compare.{same}

-- the matrix a is within the program's maxima, and g holds its analysis, with no more entries of L than there is room for values
pub record Prepared (a : Matrix) (g : Analysis) : Type 0 where
  pub small : a.pattern.ncols ≤ 256
  pub own : same (analysed (columns a.pattern)) g ≡ true
  pub few : length g.li ≤ 2048
