-- `lower_column`: rows behind the diagonal that are a run are one part of b. Assumes nothing.
use mathlib.Core.Path.{◌≡◌, sym, ap, ◌∙◌}
use mathlib.Core.Bool.{true}
use mathlib.Core.List.{List, ◌∷◌}
use Prim.Native.Nat.{ℕ, ◌+◌, ◌-◌, ◌≤◌, ◌<◌}
use native.Mathlib.Omega.{arith}
use lib.Ieee.{Float, nan, binary64, sub, mul}
use lib.ListN.{length, get_or}
use lib.Seq.{take_all}
use Rattle.lists.specs.Folds.{over}
use Rattle.lists.specs.Order.{rises}
use Rattle.lists.specs.Parts.{part, placed}
use Rattle.lists.specs.Runs.{tight, zipped}
use Rattle.lists.proofs.Folds.{over_first}
use Rattle.lists.proofs.Ordering.{rises-apart}
use Rattle.lists.proofs.Parts.{length_part, get_d_part}
use Rattle.lists.proofs.Pushing.{part-first}
use Rattle.lists.proofs.Runs.{rises-part, tight-within, over-tight}
use Rattle.cs_solve.specs.Solve.{lower_at}
use Rattle.cs_solve.specs.TrSolve.{Column}
use Rattle.cs_solve.proofs.Steps.{lower-set, lower-above}

whole : {A : Type 0} (l : List A) (d : A) (n : ℕ) → 1 < n → length l ≡ n → l ≡ get_or l 0 d ∷ part 1 n l
whole l d n h e = sym (take_all (n - 0) l (omega arith)) ∙ part-first 0 n l d (omega arith) (omega arith)

module _ {j : ℕ} {rows : List ℕ} {vals : List Float} (b : List Float) {n : ℕ} (a : Column j (length b) rows vals) (h : rises rows ≡ true)
    (is : length rows ≡ n) (many : 1 < n) where
  below_rise : rises (part 1 n rows) ≡ true
  below_rise = rises-part 1 n rows (omega arith) (λ y z f g l. rises-apart rows h y z g (omega arith))

  below_long : length (part 1 n rows) ≡ n - 1
  below_long = length_part 1 n rows (omega arith)

  vals_long : length (part 1 n vals) ≡ n - 1
  vals_long = length_part 1 n vals (omega (arith, a.alike))

  module _ (t : tight (part 1 n rows) ≡ true) {first : ℕ} (e : first ≡ get_or rows 1 0) where
    first-is : first ≡ get_or (part 1 n rows) 0 0
    first-is = e ∙ sym (get_d_part 1 n rows 0 0 (omega arith))

    pub run-within : first + (n - 1) ≤ length b
    run-within =
        let w = tight-within (part 1 n rows) below_rise t (length b) (λ q g. rw (get_d_part 1 n rows q 0 (omega (arith, below_long)))
        (a.below (1 + q) (omega (arith, below_long)))) in
        omega (arith, first-is, below_long)

    pub run_lowers : (x : Float) → get_or rows 0 0 ≡ j → {y : List Float} →
        y ≡ zipped (λ y v. sub binary64 y (mul binary64 x v)) (part first (first + (n - 1)) b) (part 1 n vals)
        → placed first (first + (n - 1)) b y ≡ over (lower_at j x) rows vals b
    run_lowers x d q =
        let low : j < first = omega (arith, rises-apart rows h 0 1 (omega arith) (omega arith)) in
        over-tight (λ y v. sub binary64 y (mul binary64 x v)) nan (lower_at j x) (part 1 n rows) below_rise t first (first + (n - 1)) first-is
        (λ z v c g. sym (lower-set j x z v c (omega arith))) (part 1 n vals) (vals_long ∙ sym below_long) b (omega (arith, vals_long)) run-within q
        ∙ ap (over (lower_at j x) (part 1 n rows) (part 1 n vals)) (lower-above j x (get_or rows 0 0) (get_or vals 0 nan) b (omega arith))
        ∙ sym (over_first (lower_at j x) (get_or rows 0 0) (get_or vals 0 nan) (part 1 n rows) (part 1 n vals) b)
        ∙ ap (λ (l : List ℕ). over (lower_at j x) l (get_or vals 0 nan ∷ part 1 n vals) b) (sym (whole rows 0 n many is))
        ∙ ap (λ (l : List Float). over (lower_at j x) rows l b) (sym (whole vals nan n many (a.alike ∙ is)))
