-- The up factoring, column by column: document 01, "Factorings". L's columns stand as the lists of their values, in the order
-- of the rows that the pattern lists. Column k gives row k of L: a value behind those of each column that U's column k names, and
-- the diagonal of a new column. Assumes nothing.
use Rattle.std.specs.Prelude.{cond, ◌&&◌, List, [], ◌∷◌, ◌++◌, ℕ, ltb, leb, eqb, Float, length, get_or, set, replicate}
use Rattle.std.specs.Float.{nan, binary64}
use Rattle.std.specs.Float.Ieee.{sub, mul, div}
use Rattle.lists.specs.Calls.{lowest, none, Lent}
use Rattle.lists.specs.Folds.{along, over}
use Rattle.root.specs.Root.{root_of}
use Rattle.cs_matrix.specs.Matrix.{Matrix, column, value_at}
use Rattle.cs_tree.specs.Pattern.{Analysis, upper, lower}
use Rattle.cs_pattern.specs.Columns.{columns}
use Rattle.cs_cholesky.specs.Factor.{Step, Outcome, factor, judged_factor}

-- the stored value of a row r at or above k is put into x
unfoldable pub put_at : ℕ → ℕ → Float → List Float → List Float
put_at k r v x = cond (leb r k) (set x r v) x

-- x(r) = x(r) - (L(r, j) times t), for a row j < r < k
unfoldable pub sub_at : ℕ → ℕ → Float → ℕ → Float → List Float → List Float
sub_at j k t r v x = cond (ltb j r && ltb r k) (set x r (sub binary64 (get_or x r nan) (mul binary64 v t))) x

-- a column on its way: x, the pivot, and L's values
pub record Way : Type 0 where
  pub x : List Float
  pub pivot : Float
  pub columns : List (List Float)

-- j < k, whose column of L has these rows: t = x(j) / L(j, j); x(j) = 0; each row between rising; the pivot loses t times t; L(k, j) = t
unfoldable pub row_at : ℕ → List ℕ → ℕ → Way → Way
row_at k rows j s =
    let vals = get_or s.columns j [] in
    let t = div binary64 (get_or s.x j nan) (value_at j rows vals) in
    record {
      x = over (sub_at j k t) rows vals (set s.x j none);
      pivot = sub binary64 s.pivot (mul binary64 t t);
      columns = set s.columns j (vals ++ t ∷ []);
    }

-- each j < k in the order us of U's column k; ls has L's rows, column by column
unfoldable pub rows_at : ℕ → List (List ℕ) → List ℕ → Way → Way
rows_at k ls us s = along (λ j s. cond (ltb j k) (row_at k (get_or ls j []) j s) s) us s

-- the start of column k: the stored values of rows at and above k put into zeros; the pivot starts as x(k), then x(k) = 0
unfoldable pub start_at : Matrix → ℕ → List (List Float) → Way
start_at a k done =
    let x = over (put_at k) (column a.pattern.p k a.pattern.i) (column a.pattern.p k a.v) (replicate a.pattern.ncols none) in
    record { x = set x k none; pivot = get_or x k nan; columns = done }

-- column k: the diagonal becomes the root of the pivot
unfoldable pub up_step : Matrix → List (List ℕ) → List (List ℕ) → ℕ → List (List Float) → Step
up_step a us ls k done =
    let s = rows_at k ls (get_or us k []) (start_at a k done) in
    record { pivot = s.pivot; columns = s.columns ++ (root_of s.pivot ∷ []) ∷ [] }

-- the up factoring of a by its pattern
unfoldable pub up : Matrix → Outcome
up a = let cols = columns a.pattern in factor (up_step a (upper cols) (lower cols)) a.pattern.ncols 0 []

-- the number that the up factoring answers
unfoldable pub number : Matrix → Analysis → Lent (List Float) → ℕ
number a given old = lowest (judged_factor a given (length old.out) old.work ++ (11, eqb (up a).answer.number 11) ∷ [])
