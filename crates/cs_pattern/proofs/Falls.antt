-- The loop of `fill_columns`, from the last column to the first: what each call in it is given. Assumes nothing.
use Rattle.std.proofs.Common.{◌≡◌, ℕ, suc, ◌-◌, ◌<◌, ◌≤◌, true, List, [], length, get_or, set, arith}
use Rattle.lists.specs.Order.{rises}
use Rattle.lists.specs.Parts.{part}
use Rattle.cs_matrix.specs.Matrix.{pattern, column, ValidPattern}
use Rattle.cs_tree.specs.Falling.{Reached, Last, Left}
use Rattle.cs_tree.specs.Pattern.{paths}
use Rattle.cs_tree.specs.Steps.{Given, Marks, Walks}
use Rattle.cs_tree.proofs.Falling.{Falling, fall_inside, fall_walks, fall_fresh, fall_room, fall_order, fall_end, fall_last, falling_turn}
use Rattle.cs_pattern.specs.Columns.{columns}
use Rattle.cs_pattern.proofs.Columns.{columns_long, rows-are, rows-rise}

module _ {n : ℕ} {p i par : List ℕ} (v : ValidPattern (pattern n n p i)) (g : Given (columns (pattern n n p i)) par)
    {up₀ ui₀ next₀ li₀ mark up ui next li : List ℕ} {top k : ℕ} (F : Falling (columns (pattern n n p i)) up₀ ui₀ next₀ li₀ mark up ui next li top k)
  where
    pub falls-within : k ≤ n
    falls-within = omega (arith, F.within, columns_long v)

    module _ (h : 0 < k) where
      one : k ≡ suc (k - 1)
      one = omega arith

      pub falls-in : k - 1 < n
      falls-in = omega (arith, falls-within)

      module _ {rows : List ℕ} (x : rows ≡ column p (k - 1) i) where
        rows_are : rows ≡ get_or (columns (pattern n n p i)) (k - 1) []
        rows_are = rows-are v falls-in x

        -- s columns came before this one
        module _ {s : ℕ} (d : s ≡ n - k) where
          before : s ≡ length (columns (pattern n n p i)) - k
          before = omega (arith, columns_long v)

          pub falls_asks : (s < 65535) × Walks (k - 1) par mark × Marks s mark [] × (top ≤ length ui) ×
              (length (paths par (k - 1) rows []) ≤ top) × (rises rows ≡ true)
          falls_asks = (
            omega (arith, v.cols),
            fall_walks g F (k - 1) s one before rows_are,
            fall_fresh g F (k - 1) s one before rows_are,
            fall_inside g F,
            fall_room g F (k - 1) s one before rows_are,
            rows-rise v falls-in x,
          )

          module _ {low : ℕ} {mark1 ui1 : List ℕ} (l : length ui1 ≡ length ui) (r : Reached s (k - 1) par rows top ui low mark1 ui1) where
            pub falls_order : low ≤ top
            falls_order = fall_order g F (k - 1) s one before rows_are l r

            pub falls-end : top ≤ length ui1
            falls-end = fall_end g F (k - 1) s one before rows_are l r

            pub falls-last : Last (k - 1) (part low top ui1) next li
            falls-last = fall_last g F (k - 1) s one before rows_are l r

            pub falls-turn : {next1 li1 : List ℕ} → length mark1 ≡ length mark →
                ((q : Last (k - 1) (part low top ui1) next li) → Left (k - 1) (part low top ui1) next li q next1 li1 0)
                → Falling (columns (pattern n n p i)) up₀ ui₀ next₀ li₀ mark1 (set up (k - 1) low) ui1 next1 li1 low (k - 1)
            falls-turn = falling_turn g F (k - 1) s one before rows_are l r
