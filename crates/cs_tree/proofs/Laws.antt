-- The theorems on the pattern, for a list of at most `root` columns. That rows rise and are below n is not needed. Assumes nothing.
use mathlib.Core.Path.{◌≡◌, refl, sym, ◌∙◌}
use mathlib.Core.Logic.{inl, inr}
use mathlib.Core.List.{List, [], Memᴰ}
use Prim.Native.Nat.{ℕ, ◌≤◌, ◌<◌}
use native.Mathlib.Omega.{arith}
use native.Mathlib.Decide.{dec_lt, ℕ_discrete}
use lib.ListN.{get_or, length, get_or-eq_default}
use Rattle.lists.specs.Tables.{table}
use Rattle.lists.proofs.Tables.{length-table, get_or-table}
use Rattle.cs_tree.specs.Tree.{root, tree}
use Rattle.cs_tree.specs.Pattern.{upper_column, upper}
use Rattle.cs_tree.specs.Least.{Fill, stored, cross, diag, IsParent}
use Rattle.cs_tree.proofs.Rows.{tree_good, in_cols, parent_filled, parent_least, parent-none}
use Rattle.cs_tree.proofs.Upper.{listed_filled, filled_listed, upper_column_out}

-- ---- Fill is the least pattern with the stored upper entries that both rules keep
pub fill_least : (cols : List (List ℕ)) (R : ℕ → ℕ → Type 0)
    → ((i k : ℕ) → i ≤ k → Memᴰ i (get_or cols k []) → R i k)
    → ((i j k : ℕ) → i < j → j < k → R i j → R i k → R j k)
    → ((i k : ℕ) → i < k → R i k → R k k)
    → {i k : ℕ} → Fill cols i k → R i k
fill_least cols R s c d (stored {i = i} {k = k} l m) = s i k l m
fill_least cols R s c d (cross {j = j} {k = k} i l l' a b) = c i j k l l' (fill_least cols R s c d a) (fill_least cols R s c d b)
fill_least cols R s c d (diag {k = k} i e l a) = rw e (d i k l (fill_least cols R s c d a))

-- monotone
pub fill_mono : (xs ys : List (List ℕ)) → ((i k : ℕ) → i ≤ k → Memᴰ i (get_or xs k []) → Memᴰ i (get_or ys k [])) → {i k : ℕ} → Fill xs i k →
    Fill ys i k
fill_mono xs ys f = fill_least xs (Fill ys) (λ i k l m. stored l (f i k l m)) (λ i j k l l' a b. cross i l l' a b) (λ i k l a. diag i refl l a)

pub fill_upper : (cols : List (List ℕ)) {i k : ℕ} → Fill cols i k → (i ≤ k) × (k < length cols)
fill_upper cols (stored {i = i} {k = k} l m) = (l, in_cols cols k i m)
fill_upper cols (cross i l l' a b) = (omega arith, (fill_upper cols b).1)
fill_upper cols (diag i e l a) = (omega arith, (fill_upper cols a).1)

module _ (cols : List (List ℕ)) (fits : length cols ≤ root) where
  pub tree-parent : (i : ℕ) → IsParent (Fill cols) i (get_or (tree cols) i root)
  unfolding IsParent
  tree-parent i =
      let g = tree_good cols fits in
      elim (ℕ_discrete (get_or (tree cols) i root) root) [
        | yes e ↦ inl (e, λ k l f. parent-none cols (tree cols) g i k e l f)
        | no n ↦ inr ((g.rises i n).0, parent_filled cols (tree cols) g i n, λ k l f. parent_least cols (tree cols) g i k l f)
      ]

  pub parent-unique : (i p q : ℕ) → IsParent (Fill cols) i p → IsParent (Fill cols) i q → p ≡ q
  unfolding IsParent
  parent-unique i p q (inl a) (inl b) = a.0 ∙ sym b.0
  parent-unique i p q (inl a) (inr b) = absurd (a.1 q b.0 b.1)
  parent-unique i p q (inr a) (inl b) = absurd (b.1 p a.0 a.1)
  parent-unique i p q (inr a) (inr b) = omega (arith, a.2 q b.0 b.1, b.2 p a.0 a.1)

  -- U as a list of columns
  pub upper-at : (k : ℕ) → get_or (upper cols) k [] ≡ upper_column cols k
  unfolding upper
  upper-at k = elim (dec_lt k (length cols)) [
    | yes l ↦ get_or-table (length cols) (upper_column cols) k [] l
    | no n ↦ get_or-eq_default (table (length cols) (upper_column cols)) [] (rw length-table (omega arith)) ∙
        sym (upper_column_out cols k (omega arith))
  ]

  -- U's own pattern fills to itself
  pub fill_upper-same : {i k : ℕ} → Fill (upper cols) i k → Fill cols i k
  fill_upper-same = fill_least (upper cols) (Fill cols) (λ i k l m. listed_filled cols fits i k (rw (upper-at k) at m))
      (λ i j k l l' a b. cross i l l' a b) (λ i k l a. diag i refl l a)

  pub fill_into_upper : {i k : ℕ} → Fill cols i k → Fill (upper cols) i k
  fill_into_upper {i} {k} f = stored (fill_upper cols f).0 (rw (upper-at k) (filled_listed cols fits i k f))
