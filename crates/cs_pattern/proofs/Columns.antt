-- The columns of a valid pattern: how many, each the part between its two pointers. Assumes nothing.
use Rattle.std.proofs.Common.{◌≡◌, ℕ, ◌+◌, ◌<◌, ◌≤◌, true, List, [], length, get_or, sym, refl, ◌∙◌, arith}
use Rattle.lists.specs.Order.{rises}
use Rattle.lists.proofs.Parts.{length_part}
use Rattle.lists.proofs.Tables.{length-table, get_or-table}
use Rattle.cs_matrix.specs.Matrix.{Pattern, pattern, column, ValidPattern}
use Rattle.cs_matrix.proofs.Pointers.{Between, between, column-is}
use Rattle.cs_tree.specs.Tree.{root, tree}
use Rattle.cs_tree.specs.Steps.{Given}
use Rattle.cs_pattern.specs.Columns.{columns}

pub length-columns : (a : Pattern) → length (columns a) ≡ a.ncols
unfolding columns
length-columns a = length-table a.ncols (λ j. column a.p j a.i)

pub column-at : (a : Pattern) (k : ℕ) → k < a.ncols → get_or (columns a) k [] ≡ column a.p k a.i
unfolding columns
column-at a k h = get_or-table a.ncols (λ j. column a.p j a.i) k [] h

module _ {n : ℕ} {p i : List ℕ} (v : ValidPattern (pattern n n p i)) where
  abbrev C : List (List ℕ)
  C = columns (pattern n n p i)

  pub columns_fit : length C ≤ root
  unfolding root
  columns_fit = omega (arith, length-columns (pattern n n p i), v.cols)

  pub columns_long : n ≡ length C
  columns_long = sym (length-columns (pattern n n p i))

  pub few_columns : length C ≤ n
  few_columns = omega (arith, columns_long)

  pub inside : {k : ℕ} → k < n → k < length C
  inside h = omega (arith, columns_long)

  pub outside : {k : ℕ} → n ≤ k → length C ≤ k
  outside h = omega (arith, columns_long)

  -- a slice with a place for each column
  pub as_many : {m : ℕ} → m ≡ n → m ≡ length C
  as_many e = e ∙ columns_long

  pub given : {par : List ℕ} → par ≡ tree C → Given C par
  given e = record { small = omega (arith, columns_long, v.cols); par_is = e }

  module _ {k a e : ℕ} (h : k < n) (f : a ≡ get_or p k 0) (g : e ≡ get_or p (k + 1) 0) where
    pub here : Between p (length i) k a e
    here = between v.ptrs v.p_long h f g

  module _ {k : ℕ} {rows : List ℕ} (h : k < n) (r : rows ≡ column p k i) where
    pub rows-are : rows ≡ get_or C k []
    rows-are = r ∙ sym (column-at (pattern n n p i) k h)

    pub rows_few : length rows ≤ 4194304
    rows_few =
        let b = here h refl refl in
        rw (r, ← column-is b i) (omega (arith, length_part (get_or p k 0) (get_or p (k + 1) 0) i b.inside, b.inside, v.entries))

    pub rows-rise : rises rows ≡ true
    rows-rise = rw r (v.rise k h)
