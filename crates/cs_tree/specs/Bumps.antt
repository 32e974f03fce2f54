-- What a walk leaves that counts what it marks, and a column's walks: counts over what was listed. Assumes nothing.
use Rattle.std.specs.Prelude.{◌≡◌, List, [], ℕ, ◌+◌, ◌≤◌, length}
use Rattle.lists.specs.Keeping.{Kept}
use Rattle.lists.specs.Sums.{counted}
use Rattle.cs_tree.specs.Pattern.{paths}
use Rattle.cs_tree.specs.Steps.{Marks, Walked, way}

-- the way from a row is marked and counted; nothing above k is counted
abbrev pub Bumped : (k : ℕ) (par : List ℕ) (row len : ℕ) (mark₀ mark counts₀ counts : List ℕ) → Type 0
Bumped k par row len mark₀ mark counts₀ counts =
    (len ≤ k + 1) × Kept 0 (k + 1) counts₀ counts
    × ((older : List ℕ) → Marks k mark₀ older → Walked k k par row older len mark × (counts ≡ counted (way k par row older) counts₀))

-- the whole column is
pub record Tallied (k : ℕ) (par rows : List ℕ) (count : ℕ) (mark counts₀ counts : List ℕ) : Type 0 where
  pub size : count ≡ length (paths par k rows [])
  pub marks : Marks k mark (paths par k rows [])
  pub kept : Kept 0 (k + 1) counts₀ counts
  pub are : counts ≡ counted (paths par k rows []) counts₀
