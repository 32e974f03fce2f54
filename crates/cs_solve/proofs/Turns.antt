-- The loops over the columns. Assumes nothing.
use mathlib.Core.Path.{◌≡◌, refl, ap, ◌∙◌}
use mathlib.Core.Bool.{true}
use mathlib.Core.List.{List}
use Prim.Native.Nat.{ℕ, ◌+◌, ◌-◌, ◌≤◌, ◌<◌}
use native.Mathlib.Omega.{arith}
use lib.Ieee.{Float}
use lib.ListN.{length}
use Rattle.lists.specs.Folds.{turns}
use Rattle.lists.specs.Order.{rises}
use Rattle.lists.proofs.Folds.{turns-none, turns_more, turns-end, Falls, falls-turn, falls-end}
use Rattle.cs_matrix.specs.Matrix.{Matrix, value_at}
use Rattle.cs_matrix.specs.Columns.{IsColumn}
use Rattle.cs_matrix.proofs.Handing.{column-alike, column-below}
use Rattle.cs_solve.specs.Judge.{Passed}
use Rattle.cs_solve.specs.Solve.{forward_at, forward_column, forward}
use Rattle.cs_solve.specs.TrSolve.{transposed_at, transposed_column, transposed, Column}
use Rattle.cs_solve.proofs.Columns.{diagonal-is}
use Rattle.cs_solve.proofs.Steps.{length-forward_column, length-transposed_at}

-- ---- rising
-- the step that the code makes is the column's
pub forward-step : {a : Matrix} {j : ℕ} {rows : List ℕ} {vals : List Float} {d : Float} (b : List Float) {b' : List Float} → IsColumn a j rows vals →
    d ≡ value_at j rows vals → b' ≡ forward_at j d rows vals b → b' ≡ forward_column a j b
unfolding forward_column
forward-step b h q e = e ∙ (rw (diagonal-is h q, h.rows_are, h.vals_are))

pub record Forwarding (a : Matrix) (b₀ b : List Float) (j : ℕ) : Type 0 where
  pub passed : Passed a (length b₀)
  pub within : j ≤ a.pattern.ncols
  pub long : length b ≡ length b₀
  pub is : b ≡ turns j (forward_column a) b₀

pub forwarding_start : {a : Matrix} {b : List Float} → Passed a (length b) → Forwarding a b b 0
forwarding_start {b = b} w = record { passed = w; within = omega arith; long = refl; is = turns-none _ b }

module _ {a : Matrix} {b₀ b : List Float} {j : ℕ} (w : Forwarding a b₀ b j) where
  pub forwarding_asked : {rows : List ℕ} {vals : List Float} → j < a.pattern.ncols → IsColumn a j rows vals →
      Column j (length b) rows vals × (rises rows ≡ true)
  forwarding_asked g h = (
    record {
      alike = column-alike w.passed.valid g h;
      below = λ q f. omega (arith, column-below w.passed.valid g h q f, w.long, w.passed.whole, w.passed.square);
      here = omega (arith, w.long, w.passed.whole);
    },
    rw h.rows_are (w.passed.valid.pattern.rise j g),
  )

  pub forwarding_turn : {rows : List ℕ} {vals : List Float} {d : Float} {b' : List Float} → j < a.pattern.ncols → IsColumn a j rows vals →
      d ≡ value_at j rows vals → b' ≡ forward_at j d rows vals b → Forwarding a b₀ b' (j + 1)
  forwarding_turn g h q e =
      let f = forward-step b h q e in
      record {
        passed = w.passed;
        within = omega arith;
        long = ap length f ∙ length-forward_column a j b ∙ w.long;
        is = f ∙ turns_more j (forward_column a) b₀ w.is;
      }

  pub forwarding_end : a.pattern.ncols ≤ j → b ≡ forward a b₀
  unfolding forward
  forwarding_end g = turns-end a.pattern.ncols j _ b₀ w.is w.within g

-- ---- falling
column-step : {a : Matrix} {j : ℕ} {rows : List ℕ} {vals : List Float} {d : Float} (b : List Float) → IsColumn a j rows vals →
    d ≡ value_at j rows vals → transposed_at j d rows vals b ≡ transposed_column a j b
unfolding transposed_column
column-step b h q = rw (diagonal-is h q, h.rows_are, h.vals_are)

pub record Transposing (a : Matrix) (b₀ b : List Float) (k : ℕ) : Type 0 where
  pub passed : Passed a (length b₀)
  pub long : length b ≡ length b₀
  pub rest : Falls (transposed_column a) a.pattern.ncols b₀ b k

module _ {a : Matrix} {b₀ b : List Float} {k : ℕ} (w : Transposing a b₀ b k) (h : 0 < k) where
  pub k_inside : k - 1 < a.pattern.ncols
  k_inside = omega (arith, w.rest.within)

  module _ {rows : List ℕ} {vals : List Float} (t : IsColumn a (k - 1) rows vals) where
    pub column_asked : Column (k - 1) (length b) rows vals
    column_asked =
        record {
          alike = column-alike w.passed.valid k_inside t;
          below = λ q g. omega (arith, column-below w.passed.valid k_inside t q g, w.long, w.passed.whole, w.passed.square);
          here = omega (arith, k_inside, w.long, w.passed.whole);
        }

    pub transposing_turn : {d : Float} {b' : List Float} → d ≡ value_at (k - 1) rows vals → b' ≡ transposed_at (k - 1) d rows vals b →
        Transposing a b₀ b' (k - 1)
    transposing_turn {d} q f =
        record {
          passed = w.passed;
          long = ap length f ∙ length-transposed_at (k - 1) d rows vals b ∙ w.long;
          rest = falls-turn (transposed_column a) w.rest h (f ∙ column-step b t q);
        }

pub transposing_end : {a : Matrix} {b₀ b : List Float} {k : ℕ} → Transposing a b₀ b k → k ≡ 0 → b ≡ transposed a b₀
unfolding transposed
transposing_end w h = falls-end _ w.rest h
