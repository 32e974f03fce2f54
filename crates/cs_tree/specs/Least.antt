-- What the pattern is: the least one that holds the stored entries on and above the diagonal and that both gaining rules keep.
-- `Fill` is that pattern as a relation; `Pattern` lists what is promised of U, L and the tree. Assumes nothing.
use Rattle.std.specs.Prelude.{◌≡◌, ◌⊎◌, ◌↔◌, true, false, ℕ, ◌≤◌, ◌<◌, leb, length, get_or}
use mathlib.Core.List.{List, [], ◌∷◌, Memᴰ, map}
use Rattle.lists.specs.Order.{Rising, Once}
use Rattle.lists.specs.Tables.{table}
use Rattle.cs_tree.specs.Tree.{root, tree}
use Rattle.cs_tree.specs.Pattern.{upper, entries}

-- (i, k) is in the pattern: row i is listed in column k
abbrev pub In : List (List ℕ) → ℕ → ℕ → Type 0
In us i k = Memᴰ i (get_or us k [])

-- the least pattern: the stored entries, and what the two rules gain
pub data Fill (cols : List (List ℕ)) : ℕ → ℕ → Type 0 where
  stored : {i k : ℕ} → i ≤ k → In cols i k → Fill cols i k
  cross : {j k : ℕ} (i : ℕ) → i < j → j < k → Fill cols i j → Fill cols i k → Fill cols j k
  diag : {j k : ℕ} (i : ℕ) → j ≡ k → i < k → Fill cols i k → Fill cols j k

-- a pattern that holds the stored entries on and above the diagonal, and that both rules keep
pub record Closed (cols ps : List (List ℕ)) : Type 0 where
  pub stores : (i k : ℕ) → i ≤ k → In cols i k → In ps i k
  pub crosses : (i j k : ℕ) → i < j → j < k → In ps i j → In ps i k → In ps j k
  pub diagonal : (i k : ℕ) → i < k → In ps i k → In ps k k

-- each index listed has its parent, if that is at most k, listed behind it: descendants precede ancestors
pub data Behind (par : List ℕ) (k : ℕ) : List ℕ → Type 0 where
  last : Behind par k []
  next : {x : ℕ} {xs : List ℕ} → (get_or par x root ≤ k → Memᴰ (get_or par x root) xs) → Behind par k xs → Behind par k (x ∷ xs)

-- p is the smallest k above i with (i, k) in the pattern, or the root's mark where there is none
unfoldable pub IsParent : (ℕ → ℕ → Type 0) → ℕ → ℕ → Type 0
IsParent R i p = ((p ≡ root) × ((k : ℕ) → i < k → ¬ R i k)) ⊎ ((i < p) × R i p × ((k : ℕ) → i < k → R i k → p ≤ k))

-- a column's rows, sorted
unfoldable pub insert : ℕ → List ℕ → List ℕ
insert x [] = x ∷ []
insert x (y ∷ ys) = elim (leb x y) [ true ↦ x ∷ y ∷ ys | false ↦ y ∷ insert x ys ]

unfoldable pub sorted : List ℕ → List ℕ
unfolding insert
sorted [] = []
sorted (x ∷ xs) = insert x (sorted xs)

-- the rows of column k that are at or above the diagonal
unfoldable pub up_to : ℕ → List ℕ → List ℕ
up_to k [] = []
up_to k (i ∷ is) = elim (leb i k) [ true ↦ i ∷ up_to k is | false ↦ up_to k is ]

-- the matrix without what is stored below the diagonal
unfoldable pub triangle : List (List ℕ) → List (List ℕ)
unfolding up_to
triangle cols = table (length cols) (λ k. up_to k (get_or cols k []))

-- what is promised of the tree, of U and of L, the analysis of the matrix `cols`
pub record Promised (cols : List (List ℕ)) (par : List ℕ) (us ls : List (List ℕ)) : Type 0 where
  -- U holds each entry once
  pub once : (k : ℕ) → Once (get_or us k [])
  -- it has the stored entries on and above the diagonal and is closed under both rules
  pub closed : Closed cols us
  -- it is contained in every pattern that is
  pub least : (ps : List (List ℕ)) → Closed cols ps → (i k : ℕ) → In us i k → In ps i k
  -- filling U's pattern, its rows sorted, adds nothing
  pub settled : (i k : ℕ) → In (upper (map sorted us)) i k ↔ In us i k
  -- the rows so sorted rise
  pub sorts : (k : ℕ) → Rising 0 (get_or (map sorted us) k [])
  -- a matrix that stores all those upper entries and more has a least pattern that holds all of this one
  pub more : (bs : List (List ℕ)) → length bs ≡ length cols → ((i k : ℕ) → i ≤ k → In cols i k → In bs i k) → (i k : ℕ) → In us i k →
      In (upper bs) i k
  -- the parent of i is the smallest k > i with (i, k) in U, or the root's mark
  pub parent : (i : ℕ) → i < length cols → IsParent (In us) i (get_or par i root)
  -- descendants precede ancestors within a column
  pub order : (k : ℕ) → Behind par k (get_or us k [])
  -- L's columns rise
  pub rise : (j : ℕ) → Rising 0 (get_or ls j [])
  -- and hold exactly U's entries transposed
  pub across : (j k : ℕ) → In ls k j ↔ In us j k
  -- U and L have a column for each of the matrix, and as many entries
  pub u_columns : length us ≡ length cols
  pub l_columns : length ls ≡ length cols
  pub counts : entries ls ≡ entries us
  -- where column k stores no row at or above k, column k of U is empty
  pub empty : (k : ℕ) → ((i : ℕ) → i ≤ k → ¬ In cols i k) → get_or us k [] ≡ []
  -- nothing below the diagonal is read
  pub tree_reads : par ≡ tree (triangle cols)
  pub u_reads : us ≡ upper (triangle cols)
