-- The transpose: each row of the matrix becomes a column, its entries in the order of their columns. Document 01: "Transpose
-- reads columns in order." Assumes nothing.
use Rattle.std.specs.Prelude.{List, [], ◌∷◌, ◌++◌, ◌≡◌, ℕ, zero, suc, ◌+◌, ◌-◌, length, get_or, replicate}
use Rattle.lists.specs.Calls.{lowest, narrow, Lent}
use Rattle.lists.specs.Keys.{by_key}
use Rattle.lists.specs.Tables.{table}
use Rattle.cs_matrix.specs.Matrix.{Pattern, pattern, Matrix, Stored, judged, needed, short, Valid}

-- the column of each entry, in the order stored: j, as often as column j has entries
unfoldable pub columns : ℕ → List ℕ → List ℕ
columns zero p = []
columns (suc j) p = columns j p ++ replicate (get_or p (j + 1) 0 - get_or p j 0) j

-- where the entries of each row start, and their columns, row by row
unfoldable pub transposed_pattern : Pattern → Pattern
transposed_pattern a = pattern a.ncols a.nrows (table (a.nrows + 1) (λ r. length (by_key r a.i a.i))) (by_key a.nrows a.i (columns a.ncols a.p))

-- and their values, row by row
unfoldable pub transposed : Matrix → Matrix
transposed a = record { pattern = transposed_pattern a.pattern; v = by_key a.pattern.nrows a.pattern.i a.v }

-- the number that `transpose` answers
unfoldable pub number : Matrix → Lent Stored → ℕ
number a old = lowest (judged a ++ (6, narrow (needed a.pattern) old.work) ∷ (7, short (transposed a) old.out) ∷ [])

-- what is promised of the transpose besides: it is a valid matrix, and its own transpose is the matrix again
pub record Turned (a : Matrix) : Type 0 where
  pub valid : Valid (transposed a)
  pub back : transposed (transposed a) ≡ a
