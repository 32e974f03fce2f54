-- The sum: document 01, "a row of A gives v times 1.0, then a row of B assigns or adds its value times 1.0; zeros are kept."
-- Assumes nothing.
use Rattle.std.specs.Prelude.{Bool, not, cond, ◌||◌, List, [], ◌∷◌, ◌++◌, ℕ, eqb, Float}
use Rattle.std.specs.Float.{binary64}
use Rattle.std.specs.Float.Ieee.{of_bits, add, mul}
use Rattle.lists.specs.Calls.{lowest}
use Rattle.lists.specs.Order.{lists}
use Rattle.cs_matrix.specs.Matrix.{Matrix, Stored, column, value_at, short}
use Rattle.cs_columns.specs.Columns.{with_entries, either, judged_two}

-- 1.0, as the code's literal has it
abbrev pub one : Float
one = of_bits binary64 4607182418800017408

-- what a row of a column gives: its value times 1.0
unfoldable pub gives : ℕ → List ℕ → List Float → Float
unfolding mul
gives r rows vals = mul binary64 (value_at r rows vals) one

-- a row of A gives; then a row of B assigns, or adds to that
unfoldable pub summed_at : List ℕ → List Float → List ℕ → List Float → ℕ → Float
unfolding add gives
summed_at ai av bi bv r = cond (lists r bi) (cond (lists r ai) (add binary64 (gives r ai av) (gives r bi bv)) (gives r bi bv)) (gives r ai av)

-- column j of the sum: the rows of A's column or B's, and their values
unfoldable pub row_of : Matrix → Matrix → ℕ → ℕ → Bool
row_of a b j = either (column a.pattern.p j a.pattern.i) (column b.pattern.p j b.pattern.i)

unfoldable pub value_of : Matrix → Matrix → ℕ → ℕ → Float
unfolding summed_at
value_of a b j =
    summed_at
    (column a.pattern.p j a.pattern.i)
    (column a.pattern.p j a.v)
    (column b.pattern.p j b.pattern.i)
    (column b.pattern.p j b.v)

unfoldable pub sum : Matrix → Matrix → Matrix
unfolding value_of
sum a b = with_entries a.pattern.nrows a.pattern.ncols (row_of a b) (value_of a b)

-- the dimensions of the two differ
unfoldable pub differ : ℕ → ℕ → ℕ → ℕ → Bool
differ nrows ncols bnrows bncols = not (eqb nrows bnrows) || not (eqb ncols bncols)

-- the number that `sum` answers
unfoldable pub number : Matrix → Matrix → Stored → ℕ
unfolding sum
number a b old =
    lowest (judged_two a b (differ a.pattern.nrows a.pattern.ncols b.pattern.nrows b.pattern.ncols) ++ (7, short (sum a b) old) ∷ [])
