-- Triplets that come in order: what the steps that copy them ask and leave. Assumes nothing.
use Rattle.std.specs.Prelude.{List, ◌≡◌, ℕ, zero, suc, ◌+◌, ◌-◌, ◌≤◌, ◌<◌, max, length, get_or}
use Rattle.lists.specs.Keys.{by_key}
use Rattle.lists.specs.Tables.{table}
use Rattle.cs_matrix.specs.Matrix.{Matrix, matrix}
use Rattle.cs_conversion.specs.Assembly.{Triplets}

-- columns and rows of which two make one number
pub record Coded (rows cols : List ℕ) : Type 0 where
  pub alike : length cols ≡ length rows
  pub rows_below : (k : ℕ) → k < length rows → get_or rows k 0 < 65536
  pub cols_below : (k : ℕ) → k < length cols → get_or cols k 0 < 65536

-- columns never fall
pub record Climbing (cols : List ℕ) : Type 0 where
  pub climbs : (k q : ℕ) → k < q → q < length cols → get_or cols k 0 ≤ get_or cols q 0

-- and within a column rows rise
pub record Ordered (rows cols : List ℕ) : Type 0 where
  pub columns : Climbing cols
  pub rise : (k q : ℕ) → k < q → q < length cols → q < length rows → get_or cols k 0 ≡ get_or cols q 0 → get_or rows k 0 < get_or rows q 0

-- the matrix that has rows and values as they are given
unfoldable pub as_given : Triplets → Matrix
as_given t = matrix t.nrows t.ncols (table (t.ncols + 1) (λ c. length (by_key c t.j t.j))) t.i t.v

-- ---- the pointers
-- of n places there is one for each column, and one behind it
pub record Placed (n : ℕ) (cols : List ℕ) : Type 0 where
  pub few : length cols ≤ 4194304
  pub named : (k : ℕ) → k < length cols → get_or cols k 0 + 1 < n

-- of the first k triplets the place behind each column's last one, 0 where it has none
pub record Ends (k : ℕ) (cols p : List ℕ) : Type 0 where
  pub first : get_or p 0 0 ≡ 0
  pub some : (c : ℕ) → 0 < get_or p (c + 1) 0 → (get_or p (c + 1) 0 ≤ k) × (get_or cols (get_or p (c + 1) 0 - 1) 0 ≡ c)
  pub last : (q : ℕ) → q < k → q < get_or p (get_or cols q 0 + 1) 0

-- the highest of the first k, or 0
unfoldable pub highest : List ℕ → ℕ → ℕ
highest l zero = 0
highest l (suc k) = max (highest l k) (get_or l k 0)

-- at each place the highest up to it
pub record Raised (p₀ p : List ℕ) : Type 0 where
  pub long : length p ≡ length p₀
  pub high : (q : ℕ) → q < length p₀ → get_or p q 0 ≡ highest p₀ (suc q)
