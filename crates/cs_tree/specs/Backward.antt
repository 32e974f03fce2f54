-- What it tells to read a column of U from its end, and to look for its entries in L. Assumes nothing.
use Rattle.std.specs.Prelude.{◌≡◌, ℕ, ◌+◌, ◌≤◌, ◌<◌, length, get_or, drop}
use mathlib.Core.List.{List, [], ◌++◌, flatten}
use Rattle.lists.proofs.Standing.{Standing}
use Rattle.cs_tree.specs.Pattern.{path, upper, entries}
use Rattle.cs_tree.specs.Steps.{Marks, Pointed, way}

-- the way up the tree goes no further than c
pub record Stops (k : ℕ) (par mark : List ℕ) (c : ℕ) : Type 0 where
  pub low : c ≤ k
  pub none : (older : List ℕ) → Marks k mark older → (f : ℕ) → path f par k (get_or par c 0) older ≡ []

-- the way from a row is what is held from r on, and it is marked
pub record Read (k : ℕ) (par : List ℕ) (row : ℕ) (older held : List ℕ) (r : ℕ) (mark : List ℕ) : Type 0 where
  pub is : way k par row older ≡ drop r held
  pub marks : Marks k mark (drop r held ++ older)

-- the slices hold U
pub record Holds (cols : List (List ℕ)) (up ui : List ℕ) : Type 0 where
  pub pointed : Pointed (upper cols) up
  pub room : entries (upper cols) ≤ length ui
  pub laid : (q : ℕ) → q < entries (upper cols) → get_or ui q 0 ≡ get_or (flatten (upper cols)) q 0

-- column k of U, its rows being next among the entries that are looked for by their rows
pub record Among (k : ℕ) (rows : List ℕ) (n : ℕ) (keys xs next : List ℕ) (at : ℕ) : Type 0 where
  pub alike : length xs ≡ length keys
  pub wide : n ≤ length next
  pub end : at + length rows ≤ length keys
  pub keyed : (q : ℕ) → q < length rows → get_or keys (at + q) 0 ≡ get_or rows q 0
  pub numbered : (q : ℕ) → q < length rows → get_or xs (at + q) 0 ≡ k

-- q of its rows stand in li where they should, for whatever they stand among
abbrev pub Stood : (k : ℕ) (rows li next₀ next : List ℕ) (q : ℕ) → Type 0
Stood k rows li next₀ next q = (n : ℕ) (keys xs held : List ℕ) (at : ℕ) → Among k rows n keys xs next₀ at → Standing 0 n keys xs held li next₀ at →
    Standing 0 n keys xs held li next (at + q)
