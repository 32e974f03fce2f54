-- Each number that a check answers, from what the tests on the way say. Assumes nothing.
use mathlib.Core.Path.{◌≡◌, refl, ap, ◌∙◌}
use mathlib.Core.Bool.{Bool, true, false, not}
use Prim.Native.Nat.{ℕ, ◌+◌, ◌≤◌, ◌<◌}
use native.Mathlib.Omega.{arith}
use lib.ListN.{length}
use borrow.Author.Tests.{lt-ltb, le-ltb, eq-eqb, ne_eqb}
use Rattle.lists.specs.Calls.{lowest, both, disagree, lower}
use Rattle.lists.specs.Order.{rises, all_below}
use Rattle.lists.proofs.Calls.{From, lowest-both, lower_alone}
use Rattle.cs_matrix.specs.Matrix.{Pattern, Matrix, Vector, too_large, pointers, columns_rise, judged_pattern, judged, judged_vector}

-- ---- a pattern
module _ (a : Pattern) where
  abbrev N : ℕ
  N = lowest (judged_pattern a)

  -- dimensions and entry count within their maxima
  pub record Small : Type 0 where
    pub rows : a.nrows ≤ 65535
    pub cols : a.ncols ≤ 65535
    pub entries : length a.i ≤ 4194304

  small : Small → too_large a ≡ false
  unfolding too_large
  small s = simp (le-ltb 65535 a.nrows s.rows, le-ltb 65535 a.ncols s.cols, le-ltb 4194304 (length a.i) s.entries)

  pub refused-rows : 65535 < a.nrows → 1 ≡ N
  unfolding judged_pattern too_large
  refused-rows h = simp (lt-ltb 65535 a.nrows h)

  pub refused_cols : a.nrows ≤ 65535 → 65535 < a.ncols → 1 ≡ N
  unfolding judged_pattern too_large
  refused_cols g h = simp (le-ltb 65535 a.nrows g, lt-ltb 65535 a.ncols h)

  pub refused-entries : a.nrows ≤ 65535 → a.ncols ≤ 65535 → 4194304 < length a.i → 1 ≡ N
  unfolding judged_pattern too_large
  refused-entries f g h = simp (le-ltb 65535 a.nrows f, le-ltb 65535 a.ncols g, lt-ltb 4194304 (length a.i) h)

  pub refused_2 : Small → (length a.p ≡ a.ncols + 1 → ⊥) → 2 ≡ N
  unfolding judged_pattern
  refused_2 s h = simp (small s, ne_eqb (length a.p) (a.ncols + 1) h)

  module _ (s : Small) (l : length a.p ≡ a.ncols + 1) where
    pub refused_3 : pointers a.p (length a.i) ≡ false → 3 ≡ N
    unfolding judged_pattern
    refused_3 h = simp (small s, eq-eqb (length a.p) (a.ncols + 1) l, h)

    pub refused_4 : pointers a.p (length a.i) ≡ true → all_below a.i a.nrows ≡ false → 4 ≡ N
    unfolding judged_pattern
    refused_4 g h = simp (small s, eq-eqb (length a.p) (a.ncols + 1) l, g, h)

    pub refused_5 : pointers a.p (length a.i) ≡ true → all_below a.i a.nrows ≡ true → columns_rise a ≡ false → 5 ≡ N
    unfolding judged_pattern
    refused_5 f g h = simp (small s, eq-eqb (length a.p) (a.ncols + 1) l, f, g, h)

    pub not-refused : pointers a.p (length a.i) ≡ true → all_below a.i a.nrows ≡ true → columns_rise a ≡ true → 0 ≡ N
    unfolding judged_pattern
    not-refused f g h = simp (small s, eq-eqb (length a.p) (a.ncols + 1) l, f, g, h)

-- ---- a matrix: the pattern's number beside 2 for the values
pub from-pattern : (a : Pattern) → From 1 (judged_pattern a)
unfolding judged_pattern
from-pattern a = (refl, (refl, (refl, (refl, (refl, omega arith)))))

pub from-judged : (a : Matrix) → From 1 (judged a)
unfolding judged judged_pattern both
from-judged a = (refl, (refl, (refl, (refl, (refl, omega arith)))))

pub from_vector : (b : Vector) → From 1 (judged_vector b)
unfolding judged_vector
from_vector b = (refl, (refl, (refl, (refl, (refl, omega arith)))))

pub from-disagree : (b : Bool) → From 1 (disagree b)
from-disagree b = (refl, (refl, omega arith))

-- a pattern's number r, and 2 where b
pub with_2 : (a : Pattern) (b : Bool) {r : ℕ} → r ≡ lowest (judged_pattern a) → b ≡ true → lower r 2 ≡ lowest (both (judged_pattern a) (disagree b))
with_2 a b e h = rw (e, h) (lowest-both 1 (judged_pattern a) (disagree true) (omega arith) (from-pattern a) (from-disagree true))

pub without_2 : (a : Pattern) (b : Bool) {r : ℕ} → r ≡ lowest (judged_pattern a) → b ≡ false → r ≡ lowest (both (judged_pattern a) (disagree b))
without_2 a b {r = r} e h = rw h (lower_alone r ∙
    (rw e (lowest-both 1 (judged_pattern a) (disagree false) (omega arith) (from-pattern a) (from-disagree false))))

module _ (a : Matrix) {r : ℕ} (e : r ≡ lowest (judged_pattern a.pattern)) where
  pub matrix_2 : (length a.pattern.i ≡ length a.v → ⊥) → {s : ℕ} → s ≡ lower r 2 → s ≡ lowest (judged a)
  unfolding judged
  matrix_2 h f = f ∙ with_2 a.pattern _ e (ap not (ne_eqb (length a.pattern.i) (length a.v) h))

  pub matrix-rest : length a.pattern.i ≡ length a.v → r ≡ lowest (judged a)
  unfolding judged
  matrix-rest h = without_2 a.pattern _ e (ap not (eq-eqb (length a.pattern.i) (length a.v) h))

-- ---- a vector
module _ (b : Vector) where
  abbrev W : ℕ
  W = lowest (judged_vector b)

  pub vector_n : 65535 < b.n → 1 ≡ W
  unfolding judged_vector
  vector_n h = simp (lt-ltb 65535 b.n h)

  pub vector-entries : b.n ≤ 65535 → 4194304 < length b.i → 1 ≡ W
  unfolding judged_vector
  vector-entries g h = simp (le-ltb 65535 b.n g, lt-ltb 4194304 (length b.i) h)

  module _ (f : b.n ≤ 65535) (g : length b.i ≤ 4194304) where
    pub vector_2 : (length b.i ≡ length b.v → ⊥) → 2 ≡ W
    unfolding judged_vector
    vector_2 h = simp (le-ltb 65535 b.n f, le-ltb 4194304 (length b.i) g, ne_eqb (length b.i) (length b.v) h)

    pub vector_4 : length b.i ≡ length b.v → all_below b.i b.n ≡ false → 4 ≡ W
    unfolding judged_vector
    vector_4 l h = simp (le-ltb 65535 b.n f, le-ltb 4194304 (length b.i) g, eq-eqb (length b.i) (length b.v) l, h)

    pub vector_5 : length b.i ≡ length b.v → all_below b.i b.n ≡ true → rises b.i ≡ false → 5 ≡ W
    unfolding judged_vector
    vector_5 l m h = simp (le-ltb 65535 b.n f, le-ltb 4194304 (length b.i) g, eq-eqb (length b.i) (length b.v) l, m, h)

    pub vector_0 : length b.i ≡ length b.v → all_below b.i b.n ≡ true → rises b.i ≡ true → 0 ≡ W
    unfolding judged_vector
    vector_0 l m h = simp (le-ltb 65535 b.n f, le-ltb 4194304 (length b.i) g, eq-eqb (length b.i) (length b.v) l, m, h)
