-- The loops of `assign` and `accumulate`, and the ways out of `scale` and `axpy_cs`, on plain lists. Assumes nothing.
use mathlib.Core.Path.{◌≡◌, refl, sym, ap, ◌∙◌}
use mathlib.Core.Bool.{Bool, true, false, not}
use mathlib.Core.List.{List}
use Prim.Native.Nat.{ℕ, ◌+◌, ◌≤◌, ◌<◌}
use native.Mathlib.Omega.{arith}
use lib.Dec.{eqb}
use lib.Ieee.{Float, nan, eq}
use lib.ListN.{length, get_or, set, length-set, length-map}
use borrow.Author.Tests.{eq-eqb, ne_eqb}
use Rattle.lists.specs.Calls.{lowest, both, disagree, lower, none, outputs}
use Rattle.lists.specs.Folds.{over}
use Rattle.lists.proofs.Calls.{Early, left_alone, left-written, below_7, lowest-both, lower_alone, lower-none}
use Rattle.lists.proofs.Folds.{Over, over-start, over-turn, over-end}
use Rattle.cs_matrix.specs.Matrix.{Matrix, Vector, judged, judged_vector}
use Rattle.cs_matrix.proofs.Refusing.{from_vector, from-disagree}
use Rattle.cs_matrix.proofs.Validity.{valid_vector, early_judged}
use Rattle.cs_ops.specs.Axpy.{add_at, assigned, added, axpy, axpy_number, Fitting}
use Rattle.cs_ops.specs.Scale.{times, scaled}

-- ---- the two cases of axpy
axpy-zero : (alpha beta : Float) (x : Vector) (y : List Float) → eq beta none ≡ true → assigned alpha x y ≡ axpy alpha x beta y
unfolding axpy
axpy-zero alpha beta x y h = rw h

axpy_other : (alpha beta : Float) (x : Vector) (y : List Float) → eq beta none ≡ false → added alpha x beta y ≡ axpy alpha x beta y
unfolding axpy
axpy_other alpha beta x y h = rw h

-- ---- a fold over x's rows that stores at each row
module _ (f : ℕ → Float → List Float → List Float) (x : Vector) where
  pub record Storing (y₀ y : List Float) (k : ℕ) : Type 0 where
    pub ask : Fitting x y₀
    pub long : length y ≡ length y₀
    pub is : Over f x.i x.v y₀ y k

  pub storing_start : {y : List Float} → Fitting x y → Storing y y 0
  storing_start {y = y} a = record { ask = a; long = refl; is = over-start f x.i x.v y }

  module _ {y₀ y : List Float} {k r : ℕ} (v : Storing y₀ y k) (h : k < length x.i) (e : r ≡ get_or x.i k 0) where
    pub in_y : r < length y
    in_y = omega (arith, v.ask.named k h, v.long)

    pub in_v : k < length x.v
    in_v = omega (arith, v.ask.alike)

    pub storing_turn : (z : Float) → set y r z ≡ f r (get_or x.v k nan) y → Storing y₀ (set y r z) (k + 1)
    storing_turn z g =
        record {
          ask = v.ask;
          long = length-set y r z ∙ v.long;
          is = over-turn f x.i x.v 0 nan v.ask.alike v.is h (g ∙ ap (λ (q : ℕ). f q (get_or x.v k nan) y) e);
        }

  pub storing_done : {y₀ y : List Float} {k : ℕ} → Storing y₀ y k → length x.i ≤ k → y ≡ over f x.i x.v y₀
  storing_done v h = over-end f x.i x.v v.is h

pub length-scaled : (beta : Float) (y : List Float) → length (scaled beta y) ≡ length y
unfolding scaled
length-scaled beta y = length-map y (times beta)

-- a fold that starts from y times β
pub fitting_scaled : {x : Vector} {y t : List Float} (beta : Float) → t ≡ scaled beta y → Fitting x y → Fitting x t
fitting_scaled {y = y} beta e a = record { alike = a.alike; named = λ k h. rw (e, length-scaled beta y) (a.named k h) }

pub added-done : (alpha beta : Float) (x : Vector) (y₀ : List Float) {t y : List Float} {k : ℕ} → Storing (add_at alpha) x t y k →
    t ≡ scaled beta y₀ → length x.i ≤ k → y ≡ added alpha x beta y₀
unfolding added
added-done alpha beta x y₀ v e h = storing_done (add_at alpha) x v h ∙ ap (over (add_at alpha) x.i x.v) e

-- ---- the ways out of `axpy_cs`
module _ (x : Vector) (y : List Float) {r : ℕ} (e : r ≡ lowest (judged_vector x)) where
  number_is : (b : Bool) → not (eqb (length y) x.n) ≡ b → lower r (lowest (disagree b)) ≡ axpy_number x y
  unfolding axpy_number
  number_is b h = rw (h, e) (lowest-both 1 (judged_vector x) (disagree b) (omega arith) (from_vector x) (from-disagree b))

  pub axpy_2 : (length y ≡ x.n → ⊥) → {s : ℕ} → s ≡ lower r 2 → s ≡ axpy_number x y
  axpy_2 h f = f ∙ number_is true (ap not (ne_eqb (length y) x.n h))

  pub axpy-rest : length y ≡ x.n → r ≡ axpy_number x y
  axpy-rest h = lower_alone r ∙ number_is false (ap not (eq-eqb (length y) x.n h))

  pub axpy-fits : length y ≡ x.n → r ≡ 0 → Fitting x y
  axpy-fits h z = let v = valid_vector x (sym e ∙ z) in record { alike = sym v.v_long; named = λ k l. omega (arith, v.below k l) }

early_axpy : (x : Vector) (b : Bool) → Early (both (judged_vector x) (disagree b))
unfolding judged_vector both
early_axpy x b = (
  omega arith,
  omega arith,
  (omega arith, omega arith, (omega arith, omega arith, (omega arith, omega arith, (omega arith, omega arith, omega arith)))),
)

not_11 : (x : Vector) (y : List Float) {s : ℕ} → s ≡ axpy_number x y → s ≡ 11 → ⊥
unfolding axpy_number
not_11 x y e h = omega (arith, below_7 (both (judged_vector x) (disagree (not (eqb (length y) x.n)))) (early_axpy x _), e, h)

module _ (x : Vector) (y w : List Float) {r : ℕ} (e : r ≡ lowest (judged_vector x)) where
  pub at_2 : (length y ≡ x.n → ⊥) → {s : ℕ} → s ≡ lower r 2 → (s ≡ axpy_number x y) × (y ≡ outputs s w y)
  at_2 h {s = s} f =
      let g = axpy_2 x y e h f in
      (g, left_alone s w y (λ z. omega (arith, (lower-none r 2 (sym f ∙ z)).1)) (not_11 x y g))

  pub at-vector : length y ≡ x.n → (r ≡ 0 → ⊥) → (r ≡ axpy_number x y) × (y ≡ outputs r w y)
  at-vector h n = let g = axpy-rest x y e h in (g, left_alone r w y n (not_11 x y g))

module _ (alpha beta : Float) (x : Vector) (y : List Float) {r : ℕ} (e : r ≡ lowest (judged_vector x)) (h : length y ≡ x.n) (z : r ≡ 0) where
  at_0 : {t : List Float} → t ≡ axpy alpha x beta y → (0 ≡ axpy_number x y) × (t ≡ outputs 0 (axpy alpha x beta y) y)
  at_0 f = (sym z ∙ axpy-rest x y e h, left-written _ y f)

  pub at-assigned : eq beta none ≡ true → {t : List Float} → t ≡ assigned alpha x y → (0 ≡ axpy_number x y) × (t ≡ outputs 0 (axpy alpha x beta y) y)
  at-assigned b f = at_0 (f ∙ axpy-zero alpha beta x y b)

  pub at_added : eq beta none ≡ false → {t : List Float} → t ≡ added alpha x beta y → (0 ≡ axpy_number x y) × (t ≡ outputs 0 (axpy alpha x beta y) y)
  at_added b f = at_0 (f ∙ axpy_other alpha beta x y b)

-- ---- the way out of `scale`
pub scale_refused : (a : Matrix) {r : ℕ} {old : List Float} (w : List Float) → r ≡ lowest (judged a) → (r ≡ 0 → ⊥) → (r ≡ lowest (judged a)) ×
    (old ≡ outputs r w old)
scale_refused a {r = r} {old = old} w e h = (e, left_alone r w old h (λ z. omega (arith, below_7 (judged a) (early_judged a), e, z)))
