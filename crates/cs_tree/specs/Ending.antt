-- When what is held of a column of U is right, row by row. Assumes nothing.
use Rattle.std.specs.Prelude.{◌≡◌, List, ℕ, ◌+◌, ◌≤◌, get_or, drop}
use Rattle.cs_tree.specs.Steps.{way}

-- a row that is not marked: it has a way of its own
pub record Unlisted (k : ℕ) (mark : List ℕ) (row : ℕ) : Type 0 where
  pub low : row ≤ k
  pub new : get_or mark row 0 ≡ k + 1 → ⊥

-- what is held ends with the way from a row, which starts at m
pub record Ending (k : ℕ) (par : List ℕ) (row : ℕ) (older held : List ℕ) (m : ℕ) : Type 0 where
  pub is : drop m held ≡ way k par row older
