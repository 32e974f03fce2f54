-- What the diagonal of a column is. Assumes nothing.
use mathlib.Core.List.{List}
use mathlib.Core.Path.{◌≡◌, ◌∙◌}
use Prim.Native.Nat.{ℕ}
use lib.Ieee.{Float, eq}
use Rattle.cs_matrix.specs.Matrix.{Matrix, value_at}
use Rattle.cs_matrix.specs.Columns.{IsColumn}
use Rattle.lists.specs.Calls.{none}
use Rattle.cs_solve.specs.Diagonal.{diagonal, lacking}

-- the value at row j of column j is its diagonal
pub diagonal-is : {a : Matrix} {j : ℕ} {rows : List ℕ} {vals : List Float} {d : Float} → IsColumn a j rows vals → d ≡ value_at j rows vals
    → d ≡ diagonal a j
unfolding diagonal
diagonal-is c q = q ∙ (rw (c.rows_are, c.vals_are))

-- whether it is zero
pub lacking-is : {a : Matrix} {j : ℕ} {rows : List ℕ} {vals : List Float} {d : Float} → IsColumn a j rows vals → d ≡ value_at j rows vals
    → eq d none ≡ lacking a j
unfolding lacking
lacking-is c q = rw (← diagonal-is c q)
