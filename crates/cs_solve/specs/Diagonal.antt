-- The diagonal of a column, as every solve reads it. Assumes nothing.
use Rattle.std.specs.Prelude.{Bool, ℕ, Float}
use Rattle.std.specs.Float.Ieee.{eq}
use Rattle.lists.specs.Calls.{none}
use Rattle.cs_matrix.specs.Matrix.{Matrix, column, value_at}

-- the diagonal of column j
unfoldable pub diagonal : Matrix → ℕ → Float
diagonal a j = value_at j (column a.pattern.p j a.pattern.i) (column a.pattern.p j a.v)

-- it is absent, +0 or -0
unfoldable pub lacking : Matrix → ℕ → Bool
lacking a j = eq (diagonal a j) none
