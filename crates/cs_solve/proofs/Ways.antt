-- What a dense solve answers and leaves, at each of its ways out. Assumes nothing.
use mathlib.Core.Path.{◌≡◌, refl, sym, ◌∙◌}
use mathlib.Core.Bool.{Bool, true, false, not, ◌||◌}
use mathlib.Core.List.{List, [], ◌∷◌}
use mathlib.Core.Logic.{◌⊎◌}
use Prim.Native.Nat.{ℕ, ◌<◌}
use native.Mathlib.Omega.{arith}
use lib.Dec.{eqb}
use lib.Ieee.{Float}
use lib.ListN.{length}
use borrow.Author.Tests.{eq-eqb, ne_eqb, eqb-true}
use Rattle.std.proofs.lemmas.Bool.Decides.{nat_tests}
use Rattle.lists.specs.Calls.{lowest, both, disagree, lower, outputs}
use Rattle.lists.specs.Choices.{some}
use Rattle.lists.proofs.Bools.{or-false, not_holds, passed_over}
use Rattle.lists.proofs.Calls.{Early, below_7, first, then, lowest-both, lower_alone, lower-none}
use Rattle.cs_matrix.specs.Matrix.{Matrix, judged_pattern, judged}
use Rattle.cs_matrix.proofs.Refusing.{from-judged, from-disagree}
use Rattle.cs_matrix.proofs.Validity.{valid}
use Rattle.cs_solve.specs.Judge.{judged_solve, Passed, lacking_columns, number, solved, answer}
use Rattle.cs_solve.specs.declared.Solved.{Solved}

pub judged-is : (a : Matrix) (b : Bool) → lower (lowest (judged a)) (lowest (disagree b)) ≡ lowest (both (judged a) (disagree b))
judged-is a b = lowest-both 1 (judged a) (disagree b) (omega arith) (from-judged a) (from-disagree b)

-- ---- `judge`
abbrev odd : Matrix → ℕ → Bool
odd a m = not (eqb a.pattern.nrows a.pattern.ncols) || not (eqb m a.pattern.ncols)

module _ (a : Matrix) (m : ℕ) {r : ℕ} (e : r ≡ lowest (judged a)) where
  with_2 : odd a m ≡ true → lower r 2 ≡ lowest (judged_solve a m)
  unfolding judged_solve
  with_2 h = rw (e, h) (judged-is a true)

  pub judge_2 : (a.pattern.nrows ≡ a.pattern.ncols → ⊥) ⊎ ((a.pattern.nrows ≡ a.pattern.ncols) × (m ≡ a.pattern.ncols → ⊥)) →
      {s : ℕ} → s ≡ lower r 2 → s ≡ lowest (judged_solve a m)
  judge_2 h f = f ∙ with_2 (grind (arith, nat_tests))

  pub judge_rest : a.pattern.nrows ≡ a.pattern.ncols → m ≡ a.pattern.ncols → r ≡ lowest (judged_solve a m)
  unfolding judged_solve
  judge_rest g h = rw (eq-eqb a.pattern.nrows a.pattern.ncols g, eq-eqb m a.pattern.ncols h) (lower_alone r ∙ (rw e (judged-is a false)))

-- ---- after 1 to 5
early_solve : (a : Matrix) (m : ℕ) → Early (judged_solve a m)
unfolding judged_solve judged judged_pattern both
early_solve a m = (
  omega arith,
  omega arith,
  (omega arith, omega arith, (omega arith, omega arith, (omega arith, omega arith, (omega arith, omega arith, omega arith)))),
)

pub passed : (a : Matrix) (m : ℕ) {r : ℕ} → r ≡ lowest (judged_solve a m) → r ≡ 0 → Passed a m
unfolding judged_solve
passed a m e h =
    let b = odd a m in
    let t = lower-none (lowest (judged a)) (lowest (disagree b)) (judged-is a b ∙ sym e ∙ h) in
    let s = or-false (not (eqb a.pattern.nrows a.pattern.ncols)) (not (eqb m a.pattern.ncols)) (passed_over b 1 0 t.1).0 in
    record {
      valid = valid a t.0;
      square = eqb-true a.pattern.nrows a.pattern.ncols (not_holds (eqb a.pattern.nrows a.pattern.ncols) s.0);
      whole = eqb-true m a.pattern.ncols (not_holds (eqb m a.pattern.ncols) s.1);
    }

-- ---- the ways out: `name` is the column that 10 is to name, and w what is written by 0
module _ (a : Matrix) (old : List Float) (name : ℕ) (w : List Float) where
  abbrev pub Answer : Solved → List Float → Type 0
  Answer r new = (r ≡ answer (number a old) name) × (new ≡ outputs (number a old) w old)

  pub at_check : {r : ℕ} → r ≡ lowest (judged_solve a (length old)) → (r ≡ 0 → ⊥) → Answer (solved r 0) old
  unfolding number answer outputs
  at_check {r} e h =
      let l : r < 7 = omega (arith, below_7 (judged_solve a (length old)) (early_solve a (length old))) in
      rw (
        ← first (judged_solve a (length old)) ((10, some (lacking_columns a)) ∷ []) e h,
        ne_eqb r 10 (λ q. omega arith),
        ne_eqb r 0 h,
        ne_eqb r 11 (λ q. omega arith),
      ) (refl, refl)

  module _ {r : ℕ} (e : r ≡ lowest (judged_solve a (length old))) (h : r ≡ 0) where
    after : lowest ((10, some (lacking_columns a)) ∷ []) ≡ number a old
    unfolding number
    after = then (judged_solve a (length old)) _ (early_solve a (length old)) e h

    pub at_10 : {q : ℕ} → some (lacking_columns a) ≡ true → q ≡ name → Answer (solved 10 q) old
    unfolding answer outputs
    at_10 {q} f g = rw (← after, f) ((λ k. solved 10 (g k)), refl)

    pub at-end : {new : List Float} → some (lacking_columns a) ≡ false → new ≡ w → Answer (solved 0 0) new
    unfolding answer outputs
    at-end f u = rw (← after, f) (refl, u)
