-- What the private steps of the check count: rows that are not above the one before. No public contract names these. Assumes
-- nothing.
use Rattle.std.specs.Prelude.{Bool, not, ◌&&◌, List, ◌≡◌, ℕ, ◌+◌, ◌-◌, ◌≤◌, leb, eqb, length, get_or}
use Rattle.lists.specs.Folds.{tally}
use Rattle.cs_matrix.specs.Matrix.{Pointers}

-- the row behind place k is not above the one there
abbrev pub falls_at : List ℕ → ℕ → Bool
falls_at l k = leb (get_or l (k + 1) 0) (get_or l k 0)

-- how many such places a list has
unfoldable pub fallen : List ℕ → ℕ
fallen l = tally (length l - 1) (falls_at l)

-- a column from a to e that has entries, and whose first row is not above the one before
unfoldable pub start_falls : List ℕ → ℕ → ℕ → Bool
start_falls i a e = not (eqb a 0) && (not (leb e a) && leb (get_or i a 0) (get_or i (a - 1) 0))

-- how many columns below n have such a start
unfoldable pub starts_fallen : ℕ → List ℕ → List ℕ → ℕ
starts_fallen n p i = tally n (λ j. start_falls i (get_or p j 0) (get_or p (j + 1) 0))

-- what the counting asks
pub record Parted (ncols : ℕ) (p i : List ℕ) : Type 0 where
  pub cols : ncols ≤ 65535
  pub entries : length i ≤ 4194304
  pub p_long : length p ≡ ncols + 1
  pub ptrs : Pointers p (length i)
