-- Nothing below the diagonal is read: the tree and U are those of the matrix without it; and a column that stores no row at or
-- above the diagonal is empty in U. Assumes nothing.
use mathlib.Core.Path.{◌≡◌, refl, sym, ap, ◌∙◌}
use mathlib.Core.List.{List, [], ◌∷◌, ◌++◌, Memᴰ}
use Prim.Native.Nat.{ℕ, zero, suc, ◌≤◌, ◌<◌}
use native.Mathlib.Omega.{arith}
use native.Mathlib.Decide.{dec_lt, dec_le}
use lib.ListN.{length, get_or, get_or-eq_default}
use borrow.Author.Tests.{le-leb, lt-leb}
use Rattle.lists.specs.Tables.{table}
use Rattle.lists.proofs.Tables.{length-table, get_or-table, is-table}
use Rattle.lists.specs.Folds.{along}
use Rattle.cs_tree.specs.Tree.{Forest, climb, climbs, tree_to, tree}
use Rattle.cs_tree.specs.Pattern.{path, paths, upper_column, upper}
use Rattle.cs_tree.specs.Least.{up_to, triangle}
use Rattle.cs_tree.proofs.Steps.{climb_stop, path-over}

up_to-keeps : (k i : ℕ) (is : List ℕ) → i ≤ k → up_to k (i ∷ is) ≡ i ∷ up_to k is
unfolding up_to
up_to-keeps k i is h = rw (le-leb i k h, up_to)

up_to_drops : (k i : ℕ) (is : List ℕ) → k < i → up_to k (i ∷ is) ≡ up_to k is
unfolding up_to
up_to_drops k i is h = rw (lt-leb i k h, up_to)

climbs-read : (k : ℕ) (rows : List ℕ) (s : Forest) → climbs k (up_to k rows) s ≡ climbs k rows s
unfolding climbs up_to along
climbs-read k [] s = refl
climbs-read k (i ∷ is) s = go (dec_le i k) (climbs-read k is)
  where
    go : Dec (i ≤ k) → ((s : Forest) → climbs k (up_to k is) s ≡ climbs k is s) → climbs k (up_to k (i ∷ is)) s ≡ climbs k is (climb k k i s)
    go (yes l) ih = rw (up_to-keeps k i is l) (ih (climb k k i s))
    go (no n) ih = rw (up_to_drops k i is (omega arith), climb_stop k k i s (omega arith)) (ih s)

paths-read : (par : List ℕ) (k : ℕ) (rows older : List ℕ) → paths par k (up_to k rows) older ≡ paths par k rows older
unfolding paths up_to along
paths-read par k [] older = refl
paths-read par k (i ∷ is) older = go (dec_le i k) (paths-read par k is)
  where
    go : Dec (i ≤ k) → ((older : List ℕ) → paths par k (up_to k is) older ≡ paths par k is older) → paths par k (up_to k (i ∷ is)) older
        ≡ paths par k is (path (suc k) par k i older ++ older)
    go (yes l) ih = rw (up_to-keeps k i is l) (ih (path (suc k) par k i older ++ older))
    go (no n) ih = rw (up_to_drops k i is (omega arith), path-over (suc k) par k i older (omega arith)) (ih older)

module _ (cols : List (List ℕ)) where
  length-triangle : length (triangle cols) ≡ length cols
  unfolding triangle
  length-triangle = length-table (length cols) (λ k. up_to k (get_or cols k []))

  triangle-at : (k : ℕ) → get_or (triangle cols) k [] ≡ up_to k (get_or cols k [])
  unfolding triangle up_to
  triangle-at k = elim (dec_lt k (length cols)) [
    | yes l ↦ get_or-table (length cols) (λ k. up_to k (get_or cols k [])) k [] l
    | no n ↦ get_or-eq_default (table (length cols) (λ k. up_to k (get_or cols k []))) [] (rw length-table (omega arith)) ∙
        sym (ap (up_to k) (get_or-eq_default cols [] {n = k} (omega arith)))
  ]

  tree_to_lem : (k : ℕ) → tree_to (triangle cols) k ≡ tree_to cols k
  unfolding tree_to
  tree_to_lem zero = rw length-triangle
  tree_to_lem (suc k) = rw (triangle-at k, tree_to_lem k) (climbs-read k (get_or cols k []) (tree_to cols k))

  pub tree-read : tree cols ≡ tree (triangle cols)
  unfolding tree
  tree-read = sym (ap (λ (s : Forest). s.parent) (ap (tree_to (triangle cols)) length-triangle ∙ tree_to_lem (length cols)))

  column-read : (k : ℕ) → upper_column (triangle cols) k ≡ upper_column cols k
  unfolding upper_column
  column-read k = rw (← tree-read, triangle-at k) (paths-read (tree cols) k (get_or cols k []) [])

  pub upper-read : upper cols ≡ upper (triangle cols)
  unfolding upper
  upper-read =
      sym
      (is-table [] (length cols) (upper_column cols) (table (length (triangle cols)) (upper_column (triangle cols)))
      (length-table (length (triangle cols)) (upper_column (triangle cols)) ∙ length-triangle)
      (λ k l. get_or-table (length (triangle cols)) (upper_column (triangle cols)) k [] (rw length-triangle l) ∙ column-read k))

paths-none : (par : List ℕ) (k : ℕ) (rows older : List ℕ) → ((i : ℕ) → i ≤ k → ¬ Memᴰ i rows) → paths par k rows older ≡ older
unfolding paths along
paths-none par k [] older h = refl
paths-none par k (i ∷ is) older h =
    let l : k < i = elim (dec_le i k) [ yes l ↦ absurd (h i l (Memᴰ.head refl)) | no n ↦ omega arith ] in
    rw (path-over (suc k) par k i older l) (paths-none par k is older (λ j m t. h j m (Memᴰ.tail t)))

pub column-none : (cols : List (List ℕ)) (k : ℕ) → ((i : ℕ) → i ≤ k → ¬ Memᴰ i (get_or cols k [])) → upper_column cols k ≡ []
unfolding upper_column
column-none cols k h = paths-none (tree cols) k (get_or cols k []) [] h
