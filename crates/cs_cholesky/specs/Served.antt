-- What a factoring starts from, once its matrix and the lent analysis are judged. Assumes nothing.
use Rattle.std.specs.Prelude.{◌≡◌, List, [], ℕ, ◌+◌, ◌≤◌, ◌<◌, Float, length, get_or}
use Rattle.lists.specs.Parts.{part}
use Rattle.cs_matrix.specs.Matrix.{pattern, matrix, Valid}
use Rattle.cs_tree.specs.Least.{Promised}
use Rattle.cs_tree.specs.Pattern.{upper, lower, entries}
use Rattle.cs_tree.specs.Steps.{Pointed}
use Rattle.cs_tree.specs.Tree.{tree}
use Rattle.cs_pattern.specs.Columns.{columns}

-- the columns us stand in the front of i, with their pointers in the front of p
pub record Laid (us : List (List ℕ)) (p i : List ℕ) : Type 0 where
  pub pointed : Pointed us p
  pub inside : entries us ≤ length i
  pub column : (k : ℕ) → k < length us → part (get_or p k 0) (get_or p (k + 1) 0) i ≡ get_or us k []

-- a matrix of n columns with its own analysis, and room for as many values as U has entries
pub record Served (n : ℕ) (p i : List ℕ) (v : List Float) (up ui lp li : List ℕ) (room : ℕ) : Type 0 where
  pub valid : Valid (matrix n n p i v)
  pub promised : Promised (columns (pattern n n p i)) (tree (columns (pattern n n p i))) (upper (columns (pattern n n p i)))
      (lower (columns (pattern n n p i)))
  pub u_long : length (upper (columns (pattern n n p i))) ≡ n
  pub l_long : length (lower (columns (pattern n n p i))) ≡ n
  pub u_laid : Laid (upper (columns (pattern n n p i))) up ui
  pub l_laid : Laid (lower (columns (pattern n n p i))) lp li
  pub few : entries (upper (columns (pattern n n p i))) ≤ 4194304
  pub roomy : entries (upper (columns (pattern n n p i))) ≤ room
