-- The elimination tree: document 01, "Pattern". A square matrix is a list of columns, each the list of its stored rows. A climb
-- rises with each step, so that as many steps as its column has a number are enough. Assumes nothing.
use Rattle.std.specs.Prelude.{true, false, List, [], ℕ, zero, suc, ltb, eqb, length, get_or, set, replicate}
use Rattle.lists.specs.Folds.{along}

-- what a root of the tree holds, and an index without ancestor
unfoldable pub root : ℕ
root = 4294967295

-- the parent of each index, and the ancestor noted of each
pub record Forest : Type 0 where
  pub parent : List ℕ
  pub anc : List ℕ

abbrev pub forest : List ℕ → List ℕ → Forest
forest parent anc = record { parent = parent; anc = anc }

-- from i, while i < k: note the ancestor of i and set it to k; if there was none, the parent of i is k and the climb stops
-- there; else go on from the noted one
unfoldable pub climb : ℕ → ℕ → ℕ → Forest → Forest
climb zero k i s = s
climb (suc f) k i s = elim (ltb i k) [
  | true ↦ elim (eqb (get_or s.anc i root) root) [
    | true ↦ forest (set s.parent i k) (set s.anc i k)
    | false ↦ climb f k (get_or s.anc i root) (forest s.parent (set s.anc i k))
  ]
  | false ↦ s
]

-- for each stored row of column k in order
unfoldable pub climbs : ℕ → List ℕ → Forest → Forest
unfolding climb along
climbs k rows s = along (climb k k) rows s

-- for k rising, once the columns below k are done
unfoldable pub tree_to : List (List ℕ) → ℕ → Forest
unfolding climbs
tree_to cols zero = forest (replicate (length cols) root) (replicate (length cols) root)
tree_to cols (suc k) = climbs k (get_or cols k []) (tree_to cols k)

unfoldable pub tree : List (List ℕ) → List ℕ
unfolding tree_to
tree cols = (tree_to cols (length cols)).parent
