-- What the private steps of the sparse solve ask and leave. No public contract names these. Assumes nothing.
use Rattle.std.specs.Prelude.{Bool, not, cond, List, ◌≡◌, ℕ, ◌≤◌, leb, eqb, Float, length, get_or, set, replicate}
use Rattle.lists.specs.Calls.{none}
use Rattle.lists.specs.Choices.{chosen}
use Rattle.lists.specs.Folds.{along}
use Rattle.cs_matrix.specs.Matrix.{Matrix, Vector, Valid, ValidVector}

-- a mark at row r, where it is not below `from`
unfoldable pub mark_at : ℕ → ℕ → List ℕ → List ℕ
mark_at from r w = cond (leb from r) (set w r 1) w

-- the marks of a list of rows
unfoldable pub mark_all : ℕ → List ℕ → List ℕ → List ℕ
mark_all from rows w = along (mark_at from) rows w

-- place k is marked; the marked places below n, rising
abbrev pub marked : List ℕ → ℕ → Bool
marked w k = not (eqb (get_or w k 0) 0)

unfoldable pub marks : ℕ → List ℕ → List ℕ
marks n w = chosen n (marked w)

-- what `serve` asks: a valid square matrix and right side, and scratch that is cleared
pub record Ready (a : Matrix) (b : Vector) (w : List ℕ) (x : List Float) : Type 0 where
  pub valid : Valid a
  pub side : ValidVector b
  pub square : b.n ≡ a.pattern.ncols
  pub clean : w ≡ replicate a.pattern.ncols 0
  pub zeros : x ≡ replicate a.pattern.ncols none

-- what `forward` asks besides: marks and values, and room for the marked places
pub record Room (n : ℕ) (w : List ℕ) (x : List Float) (xi : List ℕ) (xv : List Float) : Type 0 where
  pub small : n ≤ 65535
  pub w_long : n ≤ length w
  pub x_long : n ≤ length x
  pub in_i : length (marks n w) ≤ length xi
  pub in_v : length (marks n w) ≤ length xv
