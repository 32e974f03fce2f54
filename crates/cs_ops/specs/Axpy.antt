-- Axpy on a dense y: document 01, "with β zero (+0 or -0), only x's rows are set to α times value; else all of y is multiplied by
-- β and α times value is added at x's rows." Assumes nothing.
use Rattle.std.specs.Prelude.{not, cond, List, ◌≡◌, ℕ, ◌<◌, eqb, Float, length, get_or, set}
use Rattle.std.specs.Float.{nan, binary64}
use Rattle.std.specs.Float.Ieee.{add, mul, eq}
use Rattle.lists.specs.Calls.{lowest, both, disagree, none}
use Rattle.lists.specs.Folds.{over}
use Rattle.cs_matrix.specs.Matrix.{Vector, judged_vector}
use Rattle.cs_ops.specs.Scale.{scaled}

-- y(i) = α times v
unfoldable pub assign_at : Float → ℕ → Float → List Float → List Float
unfolding mul
assign_at alpha i v y = set y i (mul binary64 alpha v)

-- y(i) = y(i) + (α times v)
unfoldable pub add_at : Float → ℕ → Float → List Float → List Float
unfolding add mul
add_at alpha i v y = set y i (add binary64 (get_or y i nan) (mul binary64 alpha v))

-- with β zero: only x's rows are set
unfoldable pub assigned : Float → Vector → List Float → List Float
unfolding assign_at
assigned alpha x y = over (assign_at alpha) x.i x.v y

-- else: all of y times β, then x's rows
unfoldable pub added : Float → Vector → Float → List Float → List Float
unfolding add_at scaled
added alpha x beta y = over (add_at alpha) x.i x.v (scaled beta y)

-- what y then holds
unfoldable pub axpy : Float → Vector → Float → List Float → List Float
unfolding assigned added eq
axpy alpha x beta y = cond (eq beta none) (assigned alpha x y) (added alpha x beta y)

-- the number: x judged as a vector, and y's length is its dimension, else 2
unfoldable pub axpy_number : Vector → List Float → ℕ
axpy_number x y = lowest (both (judged_vector x) (disagree (not (eqb (length y) x.n))))

-- what the private steps ask: as many values as rows, and a place of y for each row
pub record Fitting (x : Vector) (y : List Float) : Type 0 where
  pub alike : length x.v ≡ length x.i
  pub named : (k : ℕ) → k < length x.i → get_or x.i k 0 < length y
