-- A number of 0 says that the pattern, the matrix or the vector is valid, and a valid one has the number 0. Assumes nothing.
use mathlib.Core.Path.{◌≡◌, sym, ◌∙◌}
use mathlib.Core.Bool.{true, not, ◌||◌}
use Prim.Native.Nat.{◌+◌}
use native.Mathlib.Omega.{arith}
use lib.Dec.{ltb, eqb}
use lib.ListN.{length, get_or}
use borrow.Author.Tests.{ltb-true, ltb-false, eqb-true, lt-ltb, le-leb}
use Rattle.lists.specs.Calls.{lowest, both, disagree}
use Rattle.lists.specs.Order.{rises, all_below}
use Rattle.lists.proofs.Bools.{passed_over, not_holds, or-false}
use Rattle.lists.proofs.Calls.{Early, lowest-both, lower-none}
use Rattle.lists.proofs.Folds.{every-at, every-all}
use Rattle.cs_matrix.specs.Matrix.{Pattern, Matrix, Vector, too_large, pointers, columns_rise, judged_pattern, judged, judged_vector, ValidPattern}
use Rattle.cs_matrix.specs.Matrix.{Valid, ValidVector}
use Rattle.cs_matrix.proofs.Pointers.{pointers_mean, pointers-rest}
use Rattle.cs_matrix.proofs.Refusing.{from-pattern, from-disagree, not-refused}

pub valid_pattern : (a : Pattern) → lowest (judged_pattern a) ≡ 0 → ValidPattern a
unfolding judged_pattern too_large all_below columns_rise
valid_pattern a h =
    let h1 = passed_over (too_large a) 0 _ h in
    let h2 = passed_over (not (eqb (length a.p) (a.ncols + 1))) 1 _ h1.1 in
    let h3 = passed_over (not (pointers a.p (length a.i))) 2 _ h2.1 in
    let h4 = passed_over (not (all_below a.i a.nrows)) 3 _ h3.1 in
    let h5 = passed_over (not (columns_rise a)) 4 _ h4.1 in
    let t1 = or-false (ltb 65535 a.nrows || ltb 65535 a.ncols) _ h1.0 in
    let t2 = or-false (ltb 65535 a.nrows) _ t1.0 in
    record {
      rows = ltb-false 65535 a.nrows t2.0;
      cols = ltb-false 65535 a.ncols t2.1;
      entries = ltb-false 4194304 (length a.i) t1.1;
      p_long = eqb-true (length a.p) (a.ncols + 1) (not_holds _ h2.0);
      ptrs = pointers_mean a.p (length a.i) (not_holds _ h3.0);
      below = λ k l. ltb-true (get_or a.i k 0) a.nrows (every-at _ _ (not_holds _ h4.0) k l);
      rise = λ j l. every-at _ _ (not_holds _ h5.0) j l;
    }

pub pattern_valid : (a : Pattern) → ValidPattern a → lowest (judged_pattern a) ≡ 0
unfolding all_below columns_rise
pattern_valid a v =
    sym
    (not-refused
    a
    (record { rows = v.rows; cols = v.cols; entries = v.entries })
    v.p_long
    (sym (pointers-rest a.p (length a.i) v.ptrs.first v.ptrs.last) ∙
    every-all _ _ (λ k l. le-leb (get_or a.p k 0) (get_or a.p (k + 1) 0) (v.ptrs.climbs k l)))
    below
    risen)
  where
    below : all_below a.i a.nrows ≡ true
    below = every-all _ _ (λ k l. lt-ltb (get_or a.i k 0) a.nrows (v.below k l))

    risen : columns_rise a ≡ true
    risen = every-all _ _ v.rise

pub valid : (a : Matrix) → lowest (judged a) ≡ 0 → Valid a
unfolding judged
valid a h =
    let b = not (eqb (length a.pattern.i) (length a.v)) in
    let e = lowest-both 1 (judged_pattern a.pattern) (disagree b) (omega arith) (from-pattern a.pattern) (from-disagree b) ∙ h in
    let t = lower-none (lowest (judged_pattern a.pattern)) (lowest (disagree b)) e in
    record { pattern = valid_pattern a.pattern t.0; v_long = eqb-true _ _ (not_holds _ (passed_over b 1 _ t.1).0) }

pub valid_vector : (b : Vector) → lowest (judged_vector b) ≡ 0 → ValidVector b
unfolding judged_vector all_below
valid_vector b h =
    let h1 = passed_over (ltb 65535 b.n || ltb 4194304 (length b.i)) 0 _ h in
    let h2 = passed_over (not (eqb (length b.i) (length b.v))) 1 _ h1.1 in
    let h4 = passed_over (not (all_below b.i b.n)) 3 _ h2.1 in
    let h5 = passed_over (not (rises b.i)) 4 _ h4.1 in
    let t = or-false (ltb 65535 b.n) _ h1.0 in
    record {
      dimension = ltb-false 65535 b.n t.0;
      entries = ltb-false 4194304 (length b.i) t.1;
      v_long = eqb-true _ _ (not_holds _ h2.0);
      below = λ k l. ltb-true (get_or b.i k 0) b.n (every-at _ _ (not_holds _ h4.0) k l);
      rise = not_holds _ h5.0;
    }

-- ---- the numbers of an operand are 1 to 5
pub early_judged : (a : Matrix) → Early (judged a)
unfolding judged judged_pattern both
early_judged a = (
  omega arith,
  omega arith,
  (omega arith, omega arith, (omega arith, omega arith, (omega arith, omega arith, (omega arith, omega arith, omega arith)))),
)
