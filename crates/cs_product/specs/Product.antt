-- The product: document 01, "Product, column j: from +0.0, for stored (i,β) of B's column j rising, for stored (k,v) of A's column i,
-- w(k) = w(k) + (v times β). Rows with w equal to zero are dropped, cancelled ones too." Assumes nothing.
use Rattle.std.specs.Prelude.{Bool, not, List, [], ◌∷◌, ◌++◌, ℕ, ◌+◌, max, eqb, Float, get_or, replicate}
use Rattle.std.specs.Float.{nan}
use Rattle.std.specs.Float.Ieee.{eq}
use Rattle.lists.specs.Calls.{lowest, none, narrow, Lent}
use Rattle.lists.specs.Entries.{plus_at}
use Rattle.lists.specs.Folds.{over}
use Rattle.cs_matrix.specs.Matrix.{Pattern, Matrix, Stored, column, short}
use Rattle.cs_columns.specs.Columns.{with_entries, judged_two}

-- for stored (k, v) of A's column i: w(k) = w(k) + (v times β)
unfoldable pub add_column : Matrix → ℕ → Float → List Float → List Float
unfolding plus_at
add_column a i beta w = over (plus_at beta) (column a.pattern.p i a.pattern.i) (column a.pattern.p i a.v) w

-- column j, from +0.0: for stored (i, β) of B's column j rising
unfoldable pub accumulated : Matrix → Matrix → ℕ → List Float
unfolding add_column
accumulated a b j = over (add_column a) (column b.pattern.p j b.pattern.i) (column b.pattern.p j b.v) (replicate a.pattern.nrows none)

-- a row is dropped where w is equal to zero, +0 or -0
unfoldable pub remains : List Float → ℕ → Bool
unfolding eq
remains w r = not (eq (get_or w r nan) none)

-- the rows of column j that remain, and their values
unfoldable pub row_of : Matrix → Matrix → ℕ → ℕ → Bool
unfolding accumulated remains
row_of a b j = remains (accumulated a b j)

unfoldable pub value_of : Matrix → Matrix → ℕ → ℕ → Float
unfolding accumulated
value_of a b j r = get_or (accumulated a b j) r nan

unfoldable pub product : Matrix → Matrix → Matrix
unfolding row_of value_of
product a b = with_entries a.pattern.nrows b.pattern.ncols (row_of a b) (value_of a b)

-- the elements of each scratch slice that two operands need: max(rows, cols) + 1 over both
unfoldable pub needed_two : Pattern → Pattern → ℕ
needed_two a b = max (max a.nrows a.ncols) (max b.nrows b.ncols) + 1

-- the number that `product` answers
unfoldable pub number : Matrix → Matrix → Lent Stored → ℕ
unfolding product
number a b old =
    lowest
    (judged_two a b (not (eqb a.pattern.ncols b.pattern.nrows))
    ++ (6, narrow (needed_two a.pattern b.pattern) old.work)
    ∷ (7, short (product a b) old.out)
    ∷ [])
