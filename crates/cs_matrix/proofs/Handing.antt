-- A column of a valid matrix, handed on as the part between its two pointers, and the empty one past the end. Assumes nothing.
use mathlib.Core.List.{List, []}
use mathlib.Core.Bool.{true}
use mathlib.Core.Path.{◌≡◌, refl, sym, ◌∙◌}
use Prim.Native.Nat.{ℕ, ◌+◌, ◌-◌, ◌≤◌, ◌<◌}
use native.Mathlib.Omega.{arith}
use lib.Ieee.{Float}
use lib.ListN.{length, get_or, take, drop}
use Rattle.std.proofs.lemmas.List.{get_or_past}
use Rattle.lists.specs.Order.{rises}
use Rattle.lists.specs.Parts.{part}
use Rattle.lists.proofs.Parts.{part-below as below-part}
use Rattle.cs_matrix.specs.Matrix.{Matrix, Valid, column}
use Rattle.cs_matrix.specs.Columns.{IsColumn}
use Rattle.cs_matrix.proofs.Pointers.{between, column-is, length-column}

module _ {a : Matrix} (w : Valid a) {j : ℕ} where
  pub j_small : j < a.pattern.ncols → j < 65535
  j_small h = omega (arith, w.pattern.cols)

  module _ (h : j < a.pattern.ncols) {s e : ℕ} (f : s ≡ get_or a.pattern.p j 0) (g : e ≡ get_or a.pattern.p (j + 1) 0) where
    pub inside : e ≤ length a.pattern.i
    inside = (between w.pattern.ptrs w.pattern.p_long h f g).inside

    pub inside_v : e ≤ length a.v
    inside_v = omega (arith, inside, w.v_long)

    pub column-handed : IsColumn a j (part s e a.pattern.i) (part s e a.v)
    column-handed = let b = between w.pattern.ptrs w.pattern.p_long h f g in record { rows_are = column-is b a.pattern.i; vals_are = column-is b a.v }

  module _ (h : j < a.pattern.ncols) {rows : List ℕ} {vals : List Float} (c : IsColumn a j rows vals) where
    pub column-alike : length vals ≡ length rows
    column-alike = rw (c.rows_are, c.vals_are) (length-column a.pattern.p j a.v (inside_v h refl refl) ∙
        sym (length-column a.pattern.p j a.pattern.i (inside h refl refl)))

    pub column-few : length rows ≤ length a.pattern.i
    column-few = rw c.rows_are (omega (arith, length-column a.pattern.p j a.pattern.i (inside h refl refl), inside h refl refl))

    pub column-up : rises rows ≡ true
    column-up = rw c.rows_are (w.pattern.rise j h)

    pub column-below : (k : ℕ) → k < length rows → get_or rows k 0 < a.pattern.nrows
    column-below =
        let b = between w.pattern.ptrs w.pattern.p_long h refl refl in
        rw (c.rows_are, ← column-is b a.pattern.i) (below-part _ _ a.pattern.nrows a.pattern.i b.inside w.pattern.below)

  pub past_end : a.pattern.ncols ≤ j → IsColumn a j [] []
  unfolding column
  past_end h = record { rows_are = gone a.pattern.i; vals_are = gone a.v }
    where
      last : get_or a.pattern.p (j + 1) 0 ≡ 0
      last = get_or_past a.pattern.p (j + 1) 0 (omega (arith, w.pattern.p_long))

      nothing : (n : ℕ) → 0 - n ≡ 0
      nothing n = omega arith

      gone : {A : Type 0} (l : List A) → [] ≡ column a.pattern.p j l
      gone l = rw (last, nothing (get_or a.pattern.p j 0))
