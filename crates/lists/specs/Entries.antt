-- A column's rows and values side by side, and what they add to x row by row. Assumes nothing.
use Rattle.std.specs.Prelude.{◌≡◌, ℕ, ◌<◌, List, length, slice_index, slice_index_or, slice_set, Float}
use Rattle.std.specs.Float.{nan, binary64}
use Rattle.std.specs.Float.Ieee.{add, mul}

-- rows below m, with a value for each
pub record Entries {B : Type 0} (m : ℕ) (rows : List ℕ) (vals : List B) : Type 0 where
  pub alike : length vals ≡ length rows
  pub below : (q : ℕ) → q < length rows → slice_index rows q < m

-- x(z) = x(z) + (v times f)
unfoldable pub plus_at : Float → ℕ → Float → List Float → List Float
plus_at f z v x = slice_set x z (add binary64 (slice_index_or x z nan) (mul binary64 v f))
