-- `judge`: the pattern's numbers beside 2 for the values. Assumes nothing.
use mathlib.Core.Path.{◌≡◌, refl, sym, ap, ◌∙◌}
use mathlib.Core.Bool.{Bool, true, false, not, ◌||◌}
use Prim.Native.Nat.{ℕ, ◌+◌, ◌<◌}
use native.Mathlib.Omega.{arith}
use lib.Dec.{eqb}
use lib.ListN.{length}
use borrow.Author.Tests.{eq-eqb, ne_eqb, lt-ltb}
use Rattle.lists.specs.Calls.{lowest, both, disagree, lower, Scratch, worked}
use Rattle.lists.proofs.Calls.{lowest-both, lower-none, first, below_7}
use Rattle.cs_matrix.specs.Matrix.{Matrix, too_large, judged_pattern, judged, judged_square, judged_square_matrix, needed}
use Rattle.cs_matrix.proofs.Refusing.{from-disagree}
use Rattle.cs_matrix.proofs.Squaring.{from-square, early_matrix}
use Rattle.cs_tree.specs.Pattern.{Analysis}
use Rattle.cs_pattern.specs.Compare.{number}
use Rattle.cs_cholesky.specs.Factor.{judged_factor}

or_swap : (a b c : Bool) → (a || b || c) ≡ (a || c || b)
or_swap true b c = refl
or_swap false true true = refl
or_swap false true false = refl
or_swap false false true = refl
or_swap false false false = refl

or-drop : (a b : Bool) → (a || false || b) ≡ (a || b)
or-drop true b = refl
or-drop false b = refl

module _ (a : Matrix) (given : Analysis) (room : ℕ) (old : Scratch) where
  abbrev odd : Bool
  odd = not (eqb (length a.pattern.i) (length a.v))

  swapped : both (judged_square a.pattern) (disagree odd) ≡ judged_square_matrix a
  unfolding judged_square judged_square_matrix judged judged_pattern both
  swapped = rw (or_swap (not (eqb (length a.pattern.p) (a.pattern.ncols + 1))) (not (eqb a.pattern.nrows a.pattern.ncols)) odd)

  -- values that are not as many as the rows
  pub judge_2 : (length a.v ≡ length a.pattern.i → ⊥) → {r s : ℕ} → r ≡ lowest (judged_square a.pattern) → s ≡ lower r 2 →
      (s ≡ lowest (judged_factor a given room old)) × (old ≡ worked s (needed a.pattern) old)
  unfolding judged_factor worked
  judge_2 h {r} {s} e f =
      let t : odd ≡ true = ap not (ne_eqb (length a.pattern.i) (length a.v) (λ q. h (sym q))) in
      let l : lower r (lowest (disagree odd)) ≡ lower r 2 = rw t in
      let u : s ≡ lowest (judged_square_matrix a) =
      f ∙ sym l ∙ ap (λ (k : ℕ). lower k (lowest (disagree odd))) e ∙ lowest-both 1 (judged_square a.pattern) (disagree odd) (omega arith)
      (from-square a.pattern) (from-disagree odd) ∙ ap lowest swapped in
      let z : s ≡ 0 → ⊥ = λ q. omega (arith, (lower-none r 2 (sym f ∙ q)).1) in
      let m : s < 7 = omega (arith, below_7 (judged_square_matrix a) (early_matrix a)) in
      (first (judged_square_matrix a) _ u z, rw (lt-ltb 0 s (omega (arith, z)), lt-ltb s 7 m))

  pub judge_rest : length a.v ≡ length a.pattern.i → {r : ℕ} → r ≡ number a.pattern room given old → r ≡ lowest (judged_factor a given room old)
  unfolding number judged_factor judged_square judged_square_matrix judged judged_pattern both
  judge_rest h e = rw (
    eq-eqb (length a.pattern.i) (length a.v) (sym h),
    or-drop (not (eqb (length a.pattern.p) (a.pattern.ncols + 1)))
        (not (eqb a.pattern.nrows a.pattern.ncols)),
    or-drop (too_large a.pattern) false,
  ) e
