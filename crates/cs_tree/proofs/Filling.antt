-- What a tree that is known gives: a walk may go by it, and the columns of U are what the walks list. Assumes nothing.
use mathlib.Core.Path.{◌≡◌, sym}
use mathlib.Core.List.{List, []}
use Prim.Native.Nat.{ℕ, suc, ◌≤◌, ◌<◌}
use native.Mathlib.Omega.{arith}
use lib.ListN.{length, get_or}
use Rattle.cs_tree.specs.Tree.{root}
use Rattle.cs_tree.specs.Pattern.{paths, upper_column, upper}
use Rattle.cs_tree.specs.Steps.{Walks, Given}
use Rattle.cs_tree.proofs.Count.{upper_column-short}
use Rattle.cs_tree.proofs.Growing.{tree_long, tree-above}
use Rattle.cs_tree.proofs.Laws.{upper-at}
use Rattle.cs_tree.proofs.Lower.{length-upper}

module _ {cols : List (List ℕ)} {par : List ℕ} (g : Given cols par) where
  pub fits : length cols ≤ root
  unfolding root
  fits = omega (arith, g.small)

  pub given_walks : {k : ℕ} {mark : List ℕ} → k < length cols → length mark ≡ length cols → Walks k par mark
  given_walks h e =
      record {
        small = omega (arith, g.small);
        p_long = rw (g.par_is, tree_long cols fits) h;
        m_long = omega arith;
        above = rw g.par_is (tree-above cols fits);
      }

  -- the column worked out from its rows
  pub given-column : (k : ℕ) {rows : List ℕ} → rows ≡ get_or cols k [] → paths par k rows [] ≡ get_or (upper cols) k []
  unfolding upper_column
  given-column k e = rw (e, g.par_is) (sym (upper-at cols fits k))

  pub column-short : (k : ℕ) → length (get_or (upper cols) k []) ≤ suc k
  column-short k = rw (upper-at cols fits k) (upper_column-short cols fits k)

  pub upper_long : length (upper cols) ≡ length cols
  upper_long = length-upper cols fits
