-- A walk over a column of a valid matrix is never refused. Assumes nothing.
use mathlib.Core.Path.{◌≡◌, sym, ◌∙◌, subst}
use Prim.Native.Nat.{ℕ, ◌+◌, ◌≤◌, ◌<◌}
use native.Mathlib.Omega.{arith}
use lib.ListN.{length, get_or}
use Rattle.cs_matrix.specs.Matrix.{Matrix, Valid, column}
use Rattle.cs_matrix.proofs.Pointers.{at_most, length-column}
use Rattle.cs_walk.specs.Walk.{number}
use Rattle.cs_walk.proofs.Walking.{number_same}

pub column-number : (a : Matrix) → Valid a → (j : ℕ) → j < a.pattern.ncols → number (column a.pattern.p j a.pattern.i) (column a.pattern.p j a.v) ≡ 0
column-number a ok j h =
    let p = a.pattern.p in
    let inside : get_or p (j + 1) 0 ≤ length a.pattern.i = at_most ok.pattern.ptrs (j + 1) (omega (arith, h, ok.pattern.p_long)) in
    sym (number_same _ _ (length-column p j a.pattern.i inside ∙
    sym (length-column p j a.v (subst (λ (n : ℕ). get_or p (j + 1) 0 ≤ n) ok.v_long inside))))
