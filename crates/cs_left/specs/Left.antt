-- The left factoring, column by column: document 01, "Factorings". L's columns stand as the lists of their values, in the order
-- of the rows that the pattern lists. Column k is made from its own stored part at and below the diagonal, and from those columns
-- of L that U's column k names. Assumes nothing.
use Rattle.std.specs.Prelude.{Bool, not, cond, ◌&&◌, List, [], ◌∷◌, ◌++◌, map, ℕ, ltb, leb, eqb, Float, length, get_or, set, replicate}
use Rattle.std.specs.Float.{nan, binary64}
use Rattle.std.specs.Float.Ieee.{add, mul, div, neg}
use Rattle.lists.specs.Calls.{lowest, none, Lent}
use Rattle.lists.specs.Choices.{some_of, some, chosen}
use Rattle.lists.specs.Folds.{along, over}
use Rattle.lists.specs.Order.{lists}
use Rattle.root.specs.Root.{root_of}
use Rattle.cs_matrix.specs.Matrix.{Matrix, column, value_at}
use Rattle.cs_tree.specs.Pattern.{Analysis, upper, lower}
use Rattle.cs_pattern.specs.Columns.{columns}
use Rattle.cs_cholesky.specs.Factor.{Step, Outcome, factor, judged_factor}

-- the stored value of a row z at or below k is put into x
unfoldable pub put_at : ℕ → ℕ → Float → List Float → List Float
put_at k z v x = cond (leb k z) (set x z v) x

-- x(z) = x(z) + (L(z, j) times f), for a row z >= k
unfoldable pub add_at : ℕ → Float → ℕ → Float → List Float → List Float
add_at k f z v x = cond (leb k z) (set x z (add binary64 (get_or x z nan) (mul binary64 v f))) x

-- for j < k, whose column of L has these rows and values: f = -(L at row k, column j), then each row z >= k rising
unfoldable pub add_column : ℕ → List ℕ → List Float → List Float → List Float
add_column k rows vals x = over (add_at k (neg (value_at k rows vals))) rows vals x

-- each j < k in the order us of U's column k; ls has L's rows, done L's values, column by column
unfoldable pub add_columns : ℕ → List (List ℕ) → List (List Float) → List ℕ → List Float → List Float
add_columns k ls done us x = along (λ j x. cond (ltb j k) (add_column k (get_or ls j []) (get_or done j []) x) x) us x

-- x of column k, once all is added: from zeros, with the stored values of rows at and below k
unfoldable pub left_x : Matrix → List (List ℕ) → List (List ℕ) → ℕ → List (List Float) → List Float
left_x a us ls k done =
    add_columns k ls done (get_or us k [])
    (over (put_at k) (column a.pattern.p k a.pattern.i) (column a.pattern.p k a.v) (replicate a.pattern.ncols none))

-- every row p of L's column k, the diagonal too, becomes x(p) / d
unfoldable pub quotients : Float → List ℕ → List Float → List Float
quotients d rows x = map (λ p. div binary64 (get_or x p nan) d) rows

-- column k: the pivot is x(k), d its root
unfoldable pub left_step : Matrix → List (List ℕ) → List (List ℕ) → ℕ → List (List Float) → Step
left_step a us ls k done =
    let x = left_x a us ls k done in
    let pivot = get_or x k nan in
    record { pivot = pivot; columns = done ++ quotients (root_of pivot) (get_or ls k []) x ∷ [] }

-- the left factoring of a by its pattern
unfoldable pub left : Matrix → Outcome
left a = let cols = columns a.pattern in factor (left_step a (upper cols) (lower cols)) a.pattern.ncols 0 []

-- 9: a stored row i > k of column k is absent from L's column k
unfoldable pub stray : List (List ℕ) → List (List ℕ) → ℕ → Bool
stray cols ls k = some_of (λ i. ltb k i && not (lists i (get_or ls k []))) (get_or cols k [])

unfoldable pub strays : Matrix → Bool
strays a = let cols = columns a.pattern in some (chosen a.pattern.ncols (stray cols (lower cols)))

-- the number that the left factoring answers
unfoldable pub number : Matrix → Analysis → Lent (List Float) → ℕ
number a given old =
    lowest (judged_factor a given (length old.out) old.work ++ (9, strays a) ∷ (11, eqb (left a).answer.number 11) ∷ [])
