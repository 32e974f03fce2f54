-- Numbers 1 to 6 of a pattern or matrix that has to be square: each way out of src/square.rt, and what is known where none applies.
-- Assumes nothing.
use mathlib.Core.Path.{◌≡◌, refl, sym, ap, ◌∙◌}
use mathlib.Core.Bool.{Bool, true, false, not, cond}
use mathlib.Core.List.{List, [], ◌∷◌, ◌++◌}
use Prim.Native.Nat.{ℕ, ◌+◌, ◌≤◌, max}
use native.Mathlib.Omega.{arith}
use lib.Dec.{eqb}
use borrow.Author.Tests.{eq-eqb, ne_eqb, eqb-true}
use Rattle.lists.specs.Calls.{lowest, both, disagree, lower, Scratch, narrow, wiped}
use Rattle.lists.proofs.Bools.{not_holds, passed_over}
use Rattle.lists.proofs.Calls.{Early, From, lowest-both, lower-none, first, then, Wide, not_narrow}
use Rattle.lists.proofs.Passing.{lowest-none, early_append}
use Rattle.cs_matrix.specs.Matrix.{Pattern, Matrix, oblong, judged_pattern, judged, judged_square, judged_square_matrix, needed, ValidPattern, Valid}
use Rattle.cs_matrix.proofs.Refusing.{with_2, without_2, from-pattern, from-judged, from-disagree}
use Rattle.cs_matrix.proofs.Validity.{valid_pattern, valid}

-- ---- `check_square`
module _ (a : Pattern) {r : ℕ} (e : r ≡ lowest (judged_pattern a)) where
  pub square_2 : {s : ℕ} → (a.nrows ≡ a.ncols → ⊥) → s ≡ lower r 2 → s ≡ lowest (judged_square a)
  unfolding judged_square
  square_2 h f = f ∙ with_2 a _ e (ap not (ne_eqb a.nrows a.ncols h))

  pub square-rest : a.nrows ≡ a.ncols → r ≡ lowest (judged_square a)
  unfolding judged_square
  square-rest h = without_2 a _ e (ap not (eq-eqb a.nrows a.ncols h))

-- no number of an operand, nor 2 beside it
both-none : (cs : List (ℕ × Bool)) (b : Bool) → From 1 cs → lowest (both cs (disagree b)) ≡ 0 → (lowest cs ≡ 0) × (b ≡ false)
both-none cs b f h =
    let t = lower-none (lowest cs) (lowest (disagree b)) (lowest-both 1 cs (disagree b) (omega arith) f (from-disagree b) ∙ h) in
    (t.0, (passed_over b 1 _ t.1).0)

-- a number of 0 says that the pattern or matrix is valid and square
pub valid_square : (a : Pattern) → lowest (judged_square a) ≡ 0 → ValidPattern a × (a.nrows ≡ a.ncols)
unfolding judged_square
valid_square a h =
    let t = both-none (judged_pattern a) (oblong a) (from-pattern a) h in (valid_pattern a t.0, eqb-true a.nrows a.ncols (not_holds _ t.1))

pub valid_matrix : (a : Matrix) → lowest (judged_square_matrix a) ≡ 0 → Valid a × (a.pattern.nrows ≡ a.pattern.ncols)
unfolding judged_square_matrix
valid_matrix a h =
    let t = both-none (judged a) (oblong a.pattern) (from-judged a) h in (valid a t.0, eqb-true a.pattern.nrows a.pattern.ncols (not_holds _ t.1))

-- the numbers are those from 1 to 5
pub from-square : (a : Pattern) → From 1 (judged_square a)
unfolding judged_square judged_pattern both
from-square a = (refl, (refl, (refl, (refl, (refl, omega arith)))))

pub early_matrix : (a : Matrix) → Early (judged_square_matrix a)
unfolding judged_square_matrix judged judged_pattern both
early_matrix a = (
  omega arith,
  omega arith,
  (omega arith, omega arith, (omega arith, omega arith, (omega arith, omega arith, (omega arith, omega arith, omega arith)))),
)

early_square : (a : Pattern) → Early (judged_square a)
unfolding judged_square judged_pattern both
early_square a = (
  omega arith,
  omega arith,
  (omega arith, omega arith, (omega arith, omega arith, (omega arith, omega arith, (omega arith, omega arith, omega arith)))),
)

-- ---- `prepare`
module _ (a : Pattern) (old : Scratch) where
  abbrev pub judged6 : List (ℕ × Bool)
  judged6 = judged_square a ++ ((6, narrow (needed a) old) ∷ [])

  pub early_6 : Early judged6
  early_6 = early_append (judged_square a) ((6, narrow (needed a) old) ∷ []) (early_square a) (omega arith, omega arith, omega arith)

  pub prepare_refused : {r : ℕ} → r ≡ lowest (judged_square a) → (r ≡ 0 → ⊥) → (r ≡ lowest judged6) ×
      (old ≡ cond (eqb r 0) (wiped (needed a) old) old)
  prepare_refused {r = r} e h = (first (judged_square a) _ e h, rw (ne_eqb r 0 h))

  module _ {r m : ℕ} (e : r ≡ lowest (judged_square a)) (h : r ≡ 0) (f : m ≡ max a.nrows a.ncols) where
    pub larger_small : m ≤ 65535
    larger_small = let v = (valid_square a (sym e ∙ h)).0 in omega (arith, v.rows, v.cols)

    need_is : needed a ≡ m + 1
    unfolding needed
    need_is = rw f

    pub prepare_6 : {b : Bool} → b ≡ narrow (m + 1) old → b ≡ true → (6 ≡ lowest judged6) × (old ≡ cond (eqb 6 0) (wiped (needed a) old) old)
    prepare_6 g t = (rw (← then (judged_square a) _ (early_square a) e h, need_is, ← g, t), refl)

    pub prepare_0 : {b : Bool} {s : Scratch} → b ≡ narrow (m + 1) old → b ≡ false → s ≡ wiped (m + 1) old → (0 ≡ lowest judged6) ×
        (s ≡ cond (eqb 0 0) (wiped (needed a) old) old)
    prepare_0 g t w = (rw (← then (judged_square a) _ (early_square a) e h, need_is, ← g, t), rw need_is w)

-- ---- after `prepare`
pub record Prepared (a : Pattern) (old new : Scratch) : Type 0 where
  pub none : 0 ≡ lowest (judged6 a old)
  pub valid : ValidPattern a
  pub square : a.nrows ≡ a.ncols
  pub need : needed a ≡ a.ncols + 1
  pub wide : Wide (a.ncols + 1) old
  pub clear : new ≡ wiped (a.ncols + 1) old

pub prepared : (a : Pattern) (old new : Scratch) {r : ℕ} → (r ≡ lowest (judged6 a old)) × (new ≡ cond (eqb r 0) (wiped (needed a) old) old) →
    r ≡ 0 → Prepared a old new
unfolding needed
prepared a old new {r = r} e h =
    let z = lowest-none (judged_square a) ((6, narrow (needed a) old) ∷ []) (early_square a) (sym e.0 ∙ h) in
    let s = valid_square a z.0 in
    let n : max a.nrows a.ncols + 1 ≡ a.ncols + 1 = omega (arith, s.1) in
    let w : narrow (a.ncols + 1) old ≡ false = ap (λ (k : ℕ). narrow k old) (sym n) ∙ (passed_over (narrow (needed a) old) 5 0 z.1).0 in
    let t : new ≡ wiped (needed a) old = rw h at e.1 in
    record {
      none = sym h ∙ e.0;
      valid = s.0;
      square = s.1;
      need = n;
      wide = not_narrow (a.ncols + 1) old w;
      clear = t ∙ ap (λ (k : ℕ). wiped k old) n;
    }

-- and where a number applies
pub unprepared : (a : Pattern) (old new : Scratch) {r : ℕ} → (r ≡ lowest (judged6 a old)) × (new ≡ cond (eqb r 0) (wiped (needed a) old) old) →
    (r ≡ 0 → ⊥) → new ≡ old
unprepared a old new {r = r} e h = rw (ne_eqb r 0 h) at e.1
