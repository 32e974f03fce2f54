-- The solve with the matrix transposed: document 01, "Transposed". Assumes nothing.
use Rattle.std.specs.Prelude.{cond, List, ◌≡◌, ℕ, ◌<◌, ltb, length, get_or, set, Float}
use Rattle.std.specs.Float.{nan, binary64}
use Rattle.std.specs.Float.Ieee.{sub, mul, div}
use Rattle.lists.specs.Folds.{over, falls}
use Rattle.cs_matrix.specs.Matrix.{Matrix, column}
use Rattle.cs_solve.specs.Diagonal.{diagonal}

-- for a lower row i with value v: b(j) = b(j) - (v times b(i))
unfoldable pub raise_at : ℕ → ℕ → Float → List Float → List Float
raise_at j i v b = cond (ltb j i) (set b j (sub binary64 (get_or b j nan) (mul binary64 v (get_or b i nan)))) b

-- the lower rows of the column, rising, then b(j) = b(j) / d
unfoldable pub transposed_at : ℕ → Float → List ℕ → List Float → List Float → List Float
transposed_at j d rows vals b = let c = over (raise_at j) rows vals b in set c j (div binary64 (get_or c j nan) d)

-- column j of the matrix
unfoldable pub transposed_column : Matrix → ℕ → List Float → List Float
transposed_column a j = transposed_at j (diagonal a j) (column a.pattern.p j a.pattern.i) (column a.pattern.p j a.v)

-- all columns, falling
unfoldable pub transposed : Matrix → List Float → List Float
transposed a b = falls a.pattern.ncols (transposed_column a) b

-- what the steps of one column ask: as many values as rows, and each row, and j, a place of b
pub record Column (j n : ℕ) (rows : List ℕ) (vals : List Float) : Type 0 where
  pub alike : length vals ≡ length rows
  pub below : (k : ℕ) → k < length rows → get_or rows k 0 < n
  pub here : j < n
