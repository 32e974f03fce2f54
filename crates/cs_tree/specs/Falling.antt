-- What the steps of a fill from the last column to the first ask and leave, on plain lists. Assumes nothing.
use Rattle.std.specs.Prelude.{◌≡◌, List, ◌++◌, [], ℕ, ◌+◌, ◌≤◌, ◌<◌, length, get_or, take, drop}
use Rattle.lists.proofs.Receding.{Receding}
use Rattle.cs_tree.specs.Pattern.{paths, upper, lower, entries}
use Rattle.cs_tree.specs.Steps.{Marks}

-- column k of U stands in `out` from low to end, what lies behind is as it was in `old`, and its rows are marked by s + 1
pub record Reached (s k : ℕ) (par rows : List ℕ) (end : ℕ) (old : List ℕ) (low : ℕ) (mark out : List ℕ) : Type 0 where
  pub size : low + length (paths par k rows []) ≡ end
  pub back : drop low out ≡ paths par k rows [] ++ drop end old
  pub marks : Marks s mark (paths par k rows [])

-- column k of U, its rows being the last of the entries that are not yet put by their rows into li: `next` has where the earlier
-- entries of each end
pub record Last (k : ℕ) (rows next li : List ℕ) : Type 0 where
  pub n : ℕ
  pub keys : List ℕ
  pub xs : List ℕ
  pub next₀ : List ℕ
  pub li₀ : List ℕ
  pub at : ℕ
  pub is : Receding 0 n keys xs next₀ li₀ next li (at + length rows)
  pub keyed : (q : ℕ) → q < length rows → get_or keys (at + q) 0 ≡ get_or rows q 0
  pub numbered : (q : ℕ) → q < length rows → get_or xs (at + q) 0 ≡ k

-- where the entries are put, once all but q of its rows are
abbrev pub Left : (k : ℕ) (rows next li : List ℕ) → Last k rows next li → List ℕ → List ℕ → ℕ → Type 0
Left k rows next li s next1 li1 q = Receding 0 s.n s.keys s.xs s.next₀ s.li₀ next1 li1 (s.at + q)

-- a slice has where each column ends
pub record Ending (ls : List (List ℕ)) (next : List ℕ) : Type 0 where
  pub long : length ls ≤ length next
  pub at : (j : ℕ) → j < length ls → get_or next j 0 ≡ entries (take (j + 1) ls)

-- there is room for U and L, with t entries each, and it is known where the columns of L end
pub record Ample (cols : List (List ℕ)) (t : ℕ) (up ui next li : List ℕ) : Type 0 where
  pub size : t ≡ entries (upper cols)
  pub few : t ≤ 4194304
  pub up_room : length cols + 1 ≤ length up
  pub ui_room : t ≤ length ui
  pub li_room : t ≤ length li
  pub ends : Ending (lower cols) next
