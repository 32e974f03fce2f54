-- What a factoring answers and leaves at each of its ways out. Its number is the lowest of 1 to 8 and of those behind them, `rest`.
-- Assumes nothing.
use mathlib.Core.Path.{◌≡◌, refl, sym, ap, ◌∙◌}
use mathlib.Core.Bool.{Bool, cond}
use mathlib.Core.List.{List, ◌++◌}
use mathlib.Core.Logic.{◌⊎◌, ⊎_elim}
use Prim.Native.Nat.{ℕ, ◌≤◌, ◌<◌}
use native.Mathlib.Omega.{arith}
use lib.Dec.{eqb}
use lib.Ieee.{Float}
use lib.ListN.{length}
use borrow.Author.Tests.{ne_eqb}
use Rattle.lists.specs.Calls.{lowest, none, Scratch, wiped, lent, worked, leaves}
use Rattle.lists.proofs.Calls.{Under, under_both, lowest_under, first, then_under, left_alone, late, done, blanked}
use Rattle.cs_matrix.specs.Matrix.{Matrix, needed, judged_square_matrix}
use Rattle.cs_matrix.proofs.Squaring.{early_matrix}
use Rattle.cs_tree.specs.Pattern.{Analysis}
use Rattle.cs_cholesky.specs.declared.Factored.{Factored}
use Rattle.cs_cholesky.specs.Factor.{Outcome, factored, judged_factor, answer, written}

low_factor : (a : Matrix) (given : Analysis) (room : ℕ) (work : Scratch) → Under 9 (judged_factor a given room work)
unfolding judged_factor
low_factor a given room work = under_both 7 9 (judged_square_matrix a) _ (omega arith) (early_matrix a) (
  omega arith,
  omega arith,
  (omega arith, omega arith, (omega arith, omega arith, omega arith)),
)

-- out and work are lent, t is as many as U has entries, and f is what the factoring comes to
module _ (a : Matrix) (given : Analysis) (out : List Float) (work : Scratch) (rest : List (ℕ × Bool)) (t : ℕ) (f : Outcome) where
  abbrev cs : List (ℕ × Bool)
  cs = judged_factor a given (length out) work

  abbrev pub Answer : Factored → List Float → Scratch → Type 0
  Answer r out1 work1 = (r ≡ answer (lowest (cs ++ rest)) f) ×
      (lent out1 work1 ≡ leaves r.number (needed a.pattern) (written t f out) (lent out work))

  module _ {r : ℕ} (e : r ≡ lowest cs) where
    -- by 1 to 8
    pub at_judge : (r ≡ 0 → ⊥) → {work1 : Scratch} → work1 ≡ worked r (needed a.pattern) work → Answer (factored r 0 none) out work1
    unfolding answer leaves
    at_judge h g =
        let l : r < 9 = omega (arith, lowest_under 9 cs (omega arith) (low_factor a given (length out) work)) in (
          rw (← first cs rest e h, ne_eqb r 11 (λ q. omega arith)),
          (let o = left_alone r (written t f out) out h (λ q. omega arith) in λ k. record { out = o k; work = g k }),
        )

    module _ (h : r ≡ 0) where
      after : lowest rest ≡ lowest (cs ++ rest)
      after = then_under 9 cs rest (low_factor a given (length out) work) refl (sym e ∙ h)

      -- by 9 or 10
      pub at-refusal : {s : ℕ} → s ≡ lowest rest → 7 ≤ s → s < 11 → {work1 : Scratch} → work1 ≡ wiped (needed a.pattern) work →
          Answer (factored s 0 none) out work1
      unfolding answer
      at-refusal {s} g l m w = (rw (← after, ← g, ne_eqb s 11 (λ q. omega arith)), late s (needed a.pattern) (written t f out) (lent out work) l m w)

      -- by 0 or 11
      module _ (g : lowest rest ≡ cond (eqb f.answer.number 11) 11 0) {out1 : List Float} {work1 : Scratch} (z : out1 ≡ written t f out)
          (w : work1 ≡ wiped (needed a.pattern) work) where
        zeros : f.answer ≡ factored 0 0 none → Answer f.answer out1 work1
        unfolding answer
        zeros q =
            let n : f.answer.number ≡ 0 = ap (λ (r : Factored). r.number) q in
            let l : lowest (cs ++ rest) ≡ 0 = sym after ∙ g ∙ (rw n refl) in (
              rw l q,
              done (needed a.pattern) (written t f out) (lent out work) z w ∙
                  ap (λ (k : ℕ). leaves k (needed a.pattern) (written t f out) (lent out work)) (sym n),
            )

        eleven : f.answer.number ≡ 11 → Answer f.answer out1 work1
        unfolding answer
        eleven n =
            let l : lowest (cs ++ rest) ≡ 11 = sym after ∙ g ∙ (rw n refl) in (
              rw l refl,
              blanked (needed a.pattern) (written t f out) (lent out work) z w ∙
                  ap (λ (k : ℕ). leaves k (needed a.pattern) (written t f out) (lent out work)) (sym n),
            )

        pub at-end : (f.answer ≡ factored 0 0 none) ⊎ (f.answer.number ≡ 11) → {s : Factored} → s ≡ f.answer → Answer s out1 work1
        at-end o u = rw u (⊎_elim zeros eleven o)
