-- The sparse solve beside the dense one of the same right side. An unreached column divides a zero and subtracts its products:
-- that leaves every value as it was, but for the sign of a zero, unless its diagonal is zero or NaN or a value below it is not
-- finite. Assumes nothing.
use Rattle.std.specs.Prelude.{true, false, ◌≡◌, ℕ, ◌<◌, length, get_or}
use Rattle.std.specs.Float.{nan}
use Rattle.std.specs.Float.Ieee.{is_nan}
use Rattle.lists.specs.Order.{lists}
use Rattle.cs_matrix.specs.Matrix.{Matrix, Vector, column}
use Rattle.float_laws.specs.Zeros.{Zero, Alike, finite}
use Rattle.cs_solve.specs.Diagonal.{diagonal, lacking}
use Rattle.cs_solve.specs.Solve.{forward}
use Rattle.cs_solve_cs.specs.Reach.{Reaches}
use Rattle.cs_solve_cs.specs.SolveCs.{right, solution}

-- column j gives a zero for a zero
pub record Harmless (a : Matrix) (j : ℕ) : Type 0 where
  pub there : lacking a j ≡ false
  pub number : is_nan (diagonal a j) ≡ false
  pub values : (k : ℕ) → k < length (column a.pattern.p j a.pattern.i) → j < get_or (column a.pattern.p j a.pattern.i) k 0
      → finite (get_or (column a.pattern.p j a.v) k nan) ≡ true

-- at each reached row the dense solve has the result's value, or both have a zero; at every other row it has a zero
pub record Agrees (a : Matrix) (b : Vector) : Type 0 where
  pub on : (q : ℕ) → q < length (solution a b).i → Alike (get_or (forward a (right b)) (get_or (solution a b).i q 0) nan)
      (get_or (solution a b).v q nan)
  pub off : (k : ℕ) → k < b.n → lists k (solution a b).i ≡ false → Zero (get_or (forward a (right b)) k nan)

-- what is promised of the result besides: its rows are the least set, and where no unreached column does harm it agrees with the dense solve
pub record Promised (a : Matrix) (b : Vector) : Type 0 where
  pub reach : Reaches a.pattern b.i (solution a b).i
  pub dense : ((j : ℕ) → j < a.pattern.ncols → lists j (solution a b).i ≡ false → Harmless a j) → Agrees a b
