-- Two operands judged together, and number 7 of a result that is written column by column. Assumes nothing.
use mathlib.Core.Path.{◌≡◌, refl, sym, ◌∙◌}
use mathlib.Core.Bool.{Bool, true, false, ◌||◌}
use mathlib.Core.List.{[], ◌∷◌}
use Prim.Native.Nat.{ℕ, ◌+◌, ◌≤◌, ◌<◌}
use native.Mathlib.Omega.{arith}
use lib.Dec.{ltb}
use lib.ListN.{length}
use borrow.Author.Tests.{le-ltb, ltb-false}
use Rattle.lists.specs.Calls.{lowest, both, disagree, lower}
use Rattle.lists.proofs.Bools.{passed_over, or-false}
use Rattle.lists.proofs.Calls.{Early, From, lowest-both, lowest_under, lower_alone, lower-none}
use Rattle.cs_matrix.specs.Matrix.{Matrix, Stored, judged_pattern, judged, short, short_by, Valid}
use Rattle.cs_matrix.proofs.Refusing.{from-judged, from-disagree}
use Rattle.cs_matrix.proofs.Rooms.{room}
use Rattle.cs_matrix.proofs.Validity.{valid}
use Rattle.cs_columns.specs.Columns.{judged_two, short_for}

-- ---- 1 to 5
from-both : (a b : Matrix) → From 1 (both (judged a) (judged b))
unfolding judged judged_pattern both
from-both a b = (refl, (refl, (refl, (refl, (refl, omega arith)))))

two_is : (a b : Matrix) → lower (lowest (judged a)) (lowest (judged b)) ≡ lowest (both (judged a) (judged b))
two_is a b = lowest-both 1 (judged a) (judged b) (omega arith) (from-judged a) (from-judged b)

three_is : (a b : Matrix) (t : Bool) → lower (lowest (both (judged a) (judged b))) (lowest (disagree t)) ≡ lowest (judged_two a b t)
unfolding judged_two
three_is a b t = lowest-both 1 (both (judged a) (judged b)) (disagree t) (omega arith) (from-both a b) (from-disagree t)

module _ (a b : Matrix) {r s t : ℕ} (e : r ≡ lowest (judged a)) (f : s ≡ lowest (judged b)) (g : t ≡ lower r s) where
  t_is : t ≡ lowest (both (judged a) (judged b))
  t_is = g ∙ (rw (e, f) (two_is a b))

  pub two-apart : {differ : Bool} → differ ≡ true → {u : ℕ} → u ≡ lower t 2 → u ≡ lowest (judged_two a b differ)
  two-apart h q = rw h (q ∙ (rw t_is (three_is a b true)))

  pub two_alike : {differ : Bool} → differ ≡ false → t ≡ lowest (judged_two a b differ)
  two_alike h = rw h (lower_alone t ∙ (rw t_is (three_is a b false)))

pub early_two : (a b : Matrix) (t : Bool) → Early (judged_two a b t)
unfolding judged_two judged judged_pattern both
early_two a b t = (
  omega arith,
  omega arith,
  (omega arith, omega arith, (omega arith, omega arith, (omega arith, omega arith, (omega arith, omega arith, omega arith)))),
)

-- two that pass are valid, and their dimensions agree
pub record Passed (a b : Matrix) (differ : Bool) : Type 0 where
  pub first : Valid a
  pub second : Valid b
  pub agree : differ ≡ false

pub passed : (a b : Matrix) (differ : Bool) {r : ℕ} → r ≡ lowest (judged_two a b differ) → r ≡ 0 → Passed a b differ
passed a b differ e h =
    let t = lower-none (lowest (both (judged a) (judged b))) (lowest (disagree differ)) (three_is a b differ ∙ sym e ∙ h) in
    let u = lower-none (lowest (judged a)) (lowest (judged b)) (two_is a b ∙ t.0) in
    record { first = valid a u.0; second = valid b u.1; agree = (passed_over differ 1 0 t.1).0 }

-- ---- 7
pub alone_7 : (b : Bool) → lowest ((7, b) ∷ []) < 8
alone_7 b = lowest_under 8 ((7, b) ∷ []) (omega arith) (omega arith, omega arith, omega arith)

module _ (n k p i v : ℕ) where
  pub record Roomy : Type 0 where
    pub few : k ≤ 4194304
    pub in_p : n + 1 ≤ p
    pub in_i : k ≤ i
    pub in_v : k ≤ v

  pub roomy : short_for n k p i v ≡ false → Roomy
  unfolding short_for
  roomy h =
      let x = or-false (ltb 4194304 k) _ h in
      let g = room n k p i v x.1 in
      record { few = ltb-false 4194304 k x.0; in_p = g.in_p; in_i = g.in_i; in_v = g.in_v }

-- where there is room for k there is for fewer
pub short_fewer : (n k m p i v : ℕ) → short_for n k p i v ≡ false → m ≤ k → short_for n m p i v ≡ false
unfolding short_for short_by
short_fewer n k m p i v h l =
    let r = roomy n k p i v h in
    rw (le-ltb 4194304 m (omega (arith, r.few)), le-ltb p (n + 1) r.in_p, le-ltb i m (omega (arith, r.in_i)), le-ltb v m (omega (arith, r.in_v)))

-- of a matrix whose lists are as long as its columns and entries say
pub short_for_lem : (a : Matrix) (out : Stored) (n k : ℕ) → length a.pattern.p ≡ n + 1 → length a.pattern.i ≡ k → length a.v ≡ k
    → short a out ≡ short_for n k (length out.p) (length out.i) (length out.v)
unfolding short short_for short_by
short_for_lem a out n k e f g = rw (e, f, g) (same (ltb 4194304 k) (ltb (length out.p) (n + 1)) (ltb (length out.i) k) (ltb (length out.v) k))
  where
    same : (x y z w : Bool) → (x || y || z || w) ≡ (x || (y || z || w))
    same true y z w = refl
    same false y z w = refl
