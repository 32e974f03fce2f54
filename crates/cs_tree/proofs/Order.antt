-- The order within a column of U: each new path rises, and a parent stands behind its children. Assumes nothing.
use mathlib.Core.Path.{◌≡◌, refl}
use mathlib.Core.Logic.{◌⊎◌, inl, inr}
use mathlib.Core.Bool.{true, false}
use mathlib.Core.List.Memᴰ
use mathlib.Core.List.{List, [], ◌∷◌, ◌++◌, Memᴰ}
use Prim.Native.Nat.{ℕ, zero, suc, ◌+◌, ◌≤◌, ◌<◌}
use native.Mathlib.Omega.{arith}
use native.Mathlib.Decide.{dec_lt, dec_le}
use lib.ListN.{get_or, length}
use Rattle.lists.specs.Order.{lists}
use Rattle.lists.specs.Folds.{along}
use Rattle.cs_tree.specs.Tree.{root, tree}
use Rattle.cs_tree.specs.Pattern.{path, paths, upper_column}
use Rattle.cs_tree.specs.Least.{Behind, last, next}
use Rattle.cs_tree.proofs.Reach.{here}
use Rattle.lists.proofs.Members.{listed-or-not}
use Rattle.cs_tree.proofs.Steps.{path-over, path_seen, path_new}
use Rattle.cs_tree.proofs.Rows.{Good, tree_good}
use Rattle.cs_tree.proofs.Upper.{Upwards, rise, path_full, path_closed, upper_column_out}

module _ (cols : List (List ℕ)) (par : List ℕ) (g : Good cols par) (k : ℕ) (kr : k < root) where
  path_behind : (f i : ℕ) (seen : List ℕ) → k < i + f → Upwards par k seen → Behind par k seen → Behind par k (path f par k i seen ++ seen)
  unfolding path
  path_behind zero i seen fuel c b = b
  path_behind (suc f) i seen fuel c b = go (dec_le i k) (listed-or-not i seen) (dec_le (get_or par i root) k) (path_behind f (get_or par i root) seen)
    where
      go : Dec (i ≤ k) → ((lists i seen ≡ true) × Memᴰ i seen) ⊎ ((lists i seen ≡ false) × ¬ Memᴰ i seen) → Dec (get_or par i root ≤ k)
          → (k < get_or par i root + f → Upwards par k seen → Behind par k seen → Behind par k (path f par k (get_or par i root) seen ++ seen))
          → Behind par k (path (suc f) par k i seen ++ seen)
      go (no n) d p ih = rw (path-over (suc f) par k i seen (omega arith)) b
      go (yes l) (inl d) p ih = rw (path_seen (suc f) par k i seen l d.0) b
      go (yes l) (inr d) (no p) ih = rw (path_new f par k i seen l d.0) (next {x = i} (λ h. absurd (p h)) (ih (omega arith) c b))
      go (yes l) (inr d) (yes p) ih =
          let r = rise cols par g k kr i p in
          rw (path_new f par k i seen l d.0) (next {x = i} (λ h. path_full cols par g k kr f (get_or par i root) (get_or par i root) seen
          (omega arith) c (here refl) h) (ih (omega arith) c b))

  paths_behind : (rows acc : List ℕ) → Upwards par k acc → Behind par k acc → Behind par k (paths par k rows acc)
  unfolding paths along
  paths_behind [] acc c b = b
  paths_behind (i ∷ is) acc c b = paths_behind is (path (suc k) par k i acc ++ acc) (path_closed cols par g k kr i acc c)
      (path_behind (suc k) i acc (omega arith) c b)

module _ (cols : List (List ℕ)) (fits : length cols ≤ root) where
  pub upper_column_behind : (k : ℕ) → Behind (tree cols) k (upper_column cols k)
  unfolding upper_column Upwards
  upper_column_behind k = elim (dec_lt k (length cols)) [
    | yes l ↦ paths_behind cols (tree cols) (tree_good cols fits) k (omega arith) (get_or cols k []) [] (λ x m. absurd (Memᴰ.not-nil m)) last
    | no n ↦ rw (upper_column_out cols k (omega arith)) last
  ]
