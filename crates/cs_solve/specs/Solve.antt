-- The forward solve: document 01, "Dense forward". Each float operation is rounded once, its operands in 01's order.
-- Assumes nothing.
use Rattle.std.specs.Prelude.{cond, List, ℕ, ltb, get_or, set, Float}
use Rattle.std.specs.Float.{nan, binary64}
use Rattle.std.specs.Float.Ieee.{sub, mul, div}
use Rattle.lists.specs.Folds.{over, turns}
use Rattle.cs_matrix.specs.Matrix.{Matrix, column}
use Rattle.cs_solve.specs.Diagonal.{diagonal}

-- for a lower row i with value v, x being b(j): b(i) = b(i) - (x times v)
unfoldable pub lower_at : ℕ → Float → ℕ → Float → List Float → List Float
lower_at j x i v b = cond (ltb j i) (set b i (sub binary64 (get_or b i nan) (mul binary64 x v))) b

-- b(j) = b(j) / d, then the lower rows of the column, rising
unfoldable pub forward_at : ℕ → Float → List ℕ → List Float → List Float → List Float
forward_at j d rows vals b = let x = div binary64 (get_or b j nan) d in over (lower_at j x) rows vals (set b j x)

-- column j of the matrix
unfoldable pub forward_column : Matrix → ℕ → List Float → List Float
forward_column a j = forward_at j (diagonal a j) (column a.pattern.p j a.pattern.i) (column a.pattern.p j a.v)

-- all columns, rising
unfoldable pub forward : Matrix → List Float → List Float
forward a b = turns a.pattern.ncols (forward_column a) b
