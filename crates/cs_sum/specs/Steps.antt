-- What the private steps of the sum ask. No public contract names these. Assumes nothing.
use Rattle.std.specs.Prelude.{Bool, true, ◌&&◌, List, ◌≡◌, ℕ, ◌+◌, ◌<◌, ◌≤◌, eqb, Float, length, get_or}
use Rattle.lists.specs.Choices.{chosen}
use Rattle.lists.specs.Order.{rises, starts_with}
use Rattle.cs_matrix.specs.Matrix.{Matrix, Stored, Valid}
use Rattle.cs_columns.specs.Columns.{either, joined}
use Rattle.cs_sum.specs.Sum.{row_of}

-- two columns that rise, below the row count n
pub record Risen (n : ℕ) (l m : List ℕ) : Type 0 where
  pub small : n ≤ 65535
  pub l_below : (k : ℕ) → k < length l → get_or l k 0 < n
  pub m_below : (k : ℕ) → k < length m → get_or m k 0 < n
  pub l_up : rises l ≡ true
  pub m_up : rises m ≡ true

-- with values, and with room for the rows of both from `at` on
pub record Column (n at : ℕ) (ai : List ℕ) (av : List Float) (bi : List ℕ) (bv : List Float) (oi : List ℕ) (ov : List Float) : Type 0 where
  pub risen : Risen n ai bi
  pub a_alike : length av ≡ length ai
  pub b_alike : length bv ≡ length bi
  pub few : at + length (chosen n (either ai bi)) ≤ 4194304
  pub in_i : at + length (chosen n (either ai bi)) ≤ length oi
  pub in_v : at + length (chosen n (either ai bi)) ≤ length ov

-- the two lists have the same elements
unfoldable pub same_rows : List ℕ → List ℕ → Bool
same_rows l m = eqb (length l) (length m) && starts_with l m

-- as many values as rows, and as many places for them
pub record Places (rows : List ℕ) (av bv : List Float) (oi : List ℕ) (ov : List Float) : Type 0 where
  pub a_alike : length av ≡ length rows
  pub b_alike : length bv ≡ length rows
  pub i_alike : length oi ≡ length rows
  pub v_alike : length ov ≡ length rows

-- two valid matrices of the same dimensions
pub record Alike (a b : Matrix) : Type 0 where
  pub first : Valid a
  pub second : Valid b
  pub rows : a.pattern.nrows ≡ b.pattern.nrows
  pub cols : a.pattern.ncols ≡ b.pattern.ncols

-- and room for their sum
pub record Ready (a b : Matrix) (out : Stored) : Type 0 where
  pub alike : Alike a b
  pub few : length (joined (λ j. chosen a.pattern.nrows (row_of a b j)) a.pattern.ncols) ≤ 4194304
  pub in_p : a.pattern.ncols + 1 ≤ length out.p
  pub in_i : length (joined (λ j. chosen a.pattern.nrows (row_of a b j)) a.pattern.ncols) ≤ length out.i
  pub in_v : length (joined (λ j. chosen a.pattern.nrows (row_of a b j)) a.pattern.ncols) ≤ length out.v
