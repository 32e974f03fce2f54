-- The columns in turn: the fold that a factoring is, one column at a time. Assumes nothing.
use mathlib.Core.Path.{◌≡◌, refl, ap, ◌∙◌}
use mathlib.Core.Bool.{Bool, true, false, cond}
use mathlib.Core.List.{List, []}
use mathlib.Core.Logic.{◌⊎◌, inl, inr}
use Prim.Native.Nat.{ℕ, zero, suc, ◌+◌, ◌-◌, ◌≤◌, ◌<◌}
use native.Mathlib.Omega.{arith}
use lib.Ieee.{Float, lt}
use Rattle.lists.specs.Calls.{none}
use Rattle.cs_cholesky.specs.Factor.{Step, factored, factor}

module _ (step : ℕ → List (List Float) → Step) where
  -- it ends with 0, or stops with 11
  pub factor-ends : (d k : ℕ) (done : List (List Float)) → ((factor step d k done).answer ≡ factored 0 0 none) ⊎
      ((factor step d k done).answer.number ≡ 11)
  unfolding factor
  factor-ends zero k done = inl refl
  factor-ends (suc d) k done = go (lt none (step k done).pivot) (factor-ends d (k + 1) (step k done).columns)
    where
      go : (b : Bool) → ((factor step d (k + 1) (step k done).columns).answer ≡ factored 0 0 none) ⊎
          ((factor step d (k + 1) (step k done).columns).answer.number ≡ 11)
          → ((cond b (factor step d (k + 1) (step k done).columns) (record { answer = factored 11 k (step k done).pivot; columns = [] })).answer
          ≡ factored 0 0 none)
          ⊎ ((cond b (factor step d (k + 1) (step k done).columns)
          (record { answer = factored 11 k (step k done).pivot; columns = [] })).answer.number ≡ 11)
      go true h = h
      go false h = inr refl

  -- k of n columns are done, and the rest from here is the whole
  pub record Reached (n k : ℕ) (done : List (List Float)) : Type 0 where
    pub within : k ≤ n
    pub rest : factor step n 0 [] ≡ factor step (n - k) k done

  pub reached-start : (n : ℕ) → Reached n 0 []
  reached-start n = let e : n - 0 ≡ n = omega arith in record { within = omega arith; rest = rw e refl }

  module _ {n k : ℕ} {done : List (List Float)} (w : Reached n k done) where
    left_over : k < n → factor step n 0 [] ≡ factor step (suc (n - (k + 1))) k done
    left_over h = let e : n - k ≡ suc (n - (k + 1)) = omega arith in w.rest ∙ ap (λ (d : ℕ). factor step d k done) e

    pub reached-turn : {pivot : Float} {more : List (List Float)} → k < n → pivot ≡ (step k done).pivot → lt none pivot ≡ true →
        more ≡ (step k done).columns → Reached n (k + 1) more
    unfolding factor
    reached-turn h p t m = record { within = omega arith; rest = left_over h ∙ (rw (← p, t, ← m)) }

    pub reached_stop : {pivot : Float} → k < n → pivot ≡ (step k done).pivot → lt none pivot ≡ false → factor step n 0 []
        ≡ record { answer = factored 11 k pivot; columns = [] }
    unfolding factor
    reached_stop h p t = left_over h ∙ (rw (← p, t))

    pub reached-end : n ≤ k → factor step n 0 [] ≡ record { answer = factored 0 0 none; columns = done }
    unfolding factor
    reached-end h = let e : n - k ≡ 0 = omega (arith, w.within) in w.rest ∙ ap (λ (d : ℕ). factor step d k done) e
