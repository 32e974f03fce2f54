-- The loop of `accumulate_plain`. Assumes nothing.
use mathlib.Core.Path.{◌≡◌, ◌∙◌}
use mathlib.Core.Bool.{true}
use mathlib.Core.List.{List}
use Prim.Native.Nat.{ℕ, ◌+◌, ◌≤◌, ◌<◌}
use native.Mathlib.Omega.{arith}
use lib.Ieee.{Float, nan}
use lib.ListN.{length, get_or}
use Rattle.lists.specs.Entries.{Entries, plus_at}
use Rattle.lists.specs.Folds.{over}
use Rattle.lists.specs.Order.{rises}
use Rattle.lists.proofs.Folds.{Over, over-start, over-turn, over-end}
use Rattle.cs_matrix.specs.Matrix.{Matrix}
use Rattle.cs_matrix.specs.Columns.{IsColumn}
use Rattle.cs_matrix.proofs.Handing.{column-alike, column-below, column-up}
use Rattle.cs_product.specs.Product.{add_column}
use Rattle.cs_product.specs.Steps.{Plain}

-- ---- `accumulate_plain`
module _ (a : Matrix) (rows : List ℕ) (vals : List Float) where
  abbrev ncols : ℕ
  ncols = a.pattern.ncols

  pub record Adding-up (x₀ x : List Float) (k : ℕ) : Type 0 where
    pub ask : Plain a rows vals x₀
    pub long : length x ≡ length x₀
    pub is : Over (add_column a) rows vals x₀ x k

  pub up_start : {x : List Float} → Plain a rows vals x → Adding-up x x 0
  up_start {x} s = record { ask = s; long = omega arith; is = over-start (add_column a) rows vals x }

  module _ {x₀ x : List Float} {k : ℕ} (s : Adding-up x₀ x k) where
    pub up_done : length rows ≤ k → x ≡ over (add_column a) rows vals x₀
    up_done h = over-end (add_column a) rows vals s.is h

    module _ (h : k < length rows) {c : ℕ} (ec : c ≡ get_or rows k 0) where
      pub col_below : c < ncols
      col_below = omega (arith, s.ask.below k h)

      module _ {us : List ℕ} {ys : List Float} (d : IsColumn a c us ys) where
        pub up_asks : Entries (length x) us ys × (rises us ≡ true)
        up_asks = (
          record {
            alike = column-alike s.ask.valid col_below d;
            below = λ q l. omega (arith, column-below s.ask.valid col_below d q l, s.long, s.ask.x_long);
          },
          column-up s.ask.valid col_below d,
        )

        pub up_turn : {x' : List Float} → x' ≡ over (plus_at (get_or vals k nan)) us ys x → length x' ≡ length x → Adding-up x₀ x' (k + 1)
        unfolding add_column
        up_turn q m =
            record {
              ask = s.ask;
              long = m ∙ s.long;
              is = over-turn (add_column a) rows vals 0 nan s.ask.alike s.is h (q ∙ (rw (d.rows_are, d.vals_are, ec)));
            }
