-- What the sparse solve answers and leaves, at each of its ways out. Assumes nothing.
use mathlib.Core.Path.{◌≡◌, refl, sym, ap, ◌∙◌}
use mathlib.Core.Bool.{Bool, true, false, not, cond, ◌&&◌, ◌||◌}
use mathlib.Core.List.{List, ◌∷◌}
use mathlib.Core.Logic.{◌⊎◌}
use Prim.Native.Nat.{ℕ, zero, suc, ◌+◌, ◌≤◌, ◌<◌}
use native.Mathlib.Omega.{arith}
use lib.Dec.{T, ltb, eqb}
use lib.Ieee.{Float, nan, binary64, fits}
use lib.ListN.{length, get_or, length-map}
use Rattle.std.proofs.Common.{Option, Some, None}
use Rattle.std.proofs.lemmas.Bool.Decides.{nat_tests}
use borrow.Author.Tests.{le-ltb, eq-eqb, ne_eqb, eqb-true}
use Rattle.lists.specs.Calls.{lowest, both, disagree, lower, onto, none, Scratch, scratch, narrow, cleared, wiped, Lent, lent, outputs, worked}
use Rattle.lists.specs.Calls.{leaves}
use Rattle.lists.specs.Choices.{keep, some, first_or}
use Rattle.lists.specs.Folds.{along, over}
use Rattle.lists.specs.Parts.{part, placed}
use Rattle.lists.proofs.Bools.{not_holds, passed_over}
use Rattle.lists.proofs.Calls.{Early, From, below_7, first, then, lowest-both, lower_alone, lower-none, not_narrow, wiped_each, kept}
use Rattle.lists.proofs.Clearing.{length-cleared, cleared-again}
use Rattle.lists.proofs.Parts.{length_part}
use Rattle.lists.proofs.Returning.{front-zeros, cleared-after}
use Rattle.cs_matrix.specs.Matrix.{Matrix, matrix, pattern, Vector, vector, judged_pattern, judged, judged_vector, needed, Valid, ValidVector}
use Rattle.cs_matrix.proofs.Refusing.{from-judged, from_vector, from-disagree}
use Rattle.cs_matrix.proofs.Validity.{valid, valid_vector}
use Rattle.cs_solve.specs.Diagonal.{lacking}
use Rattle.cs_solve.specs.Judge.{solved, answer, Names}
use Rattle.cs_solve.specs.Solve.{forward_column}
use Rattle.cs_solve.specs.declared.Solved.{Solved}
use Rattle.cs_solve_cs.specs.Agree.{Promised}
use Rattle.cs_solve_cs.specs.Reach.{reached}
use Rattle.cs_solve_cs.specs.SolveCs.{put_at, right, steps, solution, lacking_reached, judged_cs, Stored, stored, short, written, later, number}
use Rattle.cs_solve_cs.specs.Steps.{marks, Ready}
use Rattle.cs_solve_cs.proofs.Agreeing.{agrees}
use Rattle.cs_solve_cs.proofs.Least.{member_below, reaches_least}
use Rattle.cs_solve_cs.proofs.Reaching.{below-within}
use Rattle.cs_solve_cs.proofs.Stepping.{values_of}

-- ---- 1 to 5
from-both : (a : Matrix) (b : Vector) → From 1 (both (judged a) (judged_vector b))
unfolding judged judged_pattern judged_vector both
from-both a b = (refl, (refl, (refl, (refl, (refl, omega arith)))))

two_is : (a : Matrix) (b : Vector) → lower (lowest (judged a)) (lowest (judged_vector b)) ≡ lowest (both (judged a) (judged_vector b))
two_is a b = lowest-both 1 (judged a) (judged_vector b) (omega arith) (from-judged a) (from_vector b)

three_is : (a : Matrix) (b : Vector) (t : Bool) → lower (lowest (both (judged a) (judged_vector b))) (lowest (disagree t))
    ≡ lowest (both (both (judged a) (judged_vector b)) (disagree t))
three_is a b t = lowest-both 1 (both (judged a) (judged_vector b)) (disagree t) (omega arith) (from-both a b) (from-disagree t)

module _ (a : Matrix) (b : Vector) {r s t : ℕ} (e : r ≡ lowest (judged a)) (f : s ≡ lowest (judged_vector b)) (g : t ≡ lower r s) where
  t_is : t ≡ lowest (both (judged a) (judged_vector b))
  t_is = g ∙ (rw (e, f) (two_is a b))

  pub judge_square : (a.pattern.nrows ≡ a.pattern.ncols → ⊥) → {u : ℕ} → u ≡ lower t 2 → u ≡ lowest (judged_cs a b)
  unfolding judged_cs
  judge_square h q = q ∙ (rw (t_is, ne_eqb a.pattern.nrows a.pattern.ncols h) (three_is a b true))

  pub judge_rest : a.pattern.nrows ≡ a.pattern.ncols → t ≡ lowest (judged_cs a b)
  unfolding judged_cs
  judge_rest h = rw (eq-eqb a.pattern.nrows a.pattern.ncols h) (lower_alone t ∙ (rw t_is (three_is a b false)))

early_cs : (a : Matrix) (b : Vector) → Early (judged_cs a b)
unfolding judged_cs judged judged_pattern judged_vector both
early_cs a b = (
  omega arith,
  omega arith,
  (omega arith, omega arith, (omega arith, omega arith, (omega arith, omega arith, (omega arith, omega arith, omega arith)))),
)

-- what a matrix and a right side are that pass
pub record Passed (a : Matrix) (b : Vector) : Type 0 where
  pub valid : Valid a
  pub square : a.pattern.nrows ≡ a.pattern.ncols
  pub side : ValidVector b

pub passed : (a : Matrix) (b : Vector) {r : ℕ} → r ≡ lowest (judged_cs a b) → r ≡ 0 → Passed a b
unfolding judged_cs
passed a b e h =
    let o = not (eqb a.pattern.nrows a.pattern.ncols) in
    let t = lower-none (lowest (both (judged a) (judged_vector b))) (lowest (disagree o)) (three_is a b o ∙ sym e ∙ h) in
    let u = lower-none (lowest (judged a)) (lowest (judged_vector b)) (two_is a b ∙ t.0) in
    record {
      valid = valid a u.0;
      square = eqb-true a.pattern.nrows a.pattern.ncols (not_holds (eqb a.pattern.nrows a.pattern.ncols) (passed_over o 1 0 t.1).0);
      side = valid_vector b u.1;
    }

-- ---- 7, 10 and 0: the ways out of `serve`
module _ (a : Matrix) (b : Vector) (old : Stored) where
  abbrev l : List ℕ
  l = reached a.pattern b.i

  abbrev m : ℕ
  m = lowest (later a b old)

  abbrev pub Served : Solved → Stored → Type 0
  Served r new = (r ≡ answer m (first_or 0 (lacking_reached a b))) × (new ≡ outputs m (written (solution a b) old) old)

  count-within : length l ≤ a.pattern.ncols
  unfolding reached
  count-within = below-within a.pattern b.i a.pattern.ncols

  short-is : a.pattern.ncols ≤ 65535 → short (solution a b) old ≡ (ltb (length old.i) (length l) || ltb (length old.v) (length l))
  unfolding short solution
  short-is h = rw (le-ltb 4194304 (length l) (omega (arith, count-within)), length-map l (λ (j : ℕ). get_or (steps a b) j nan))

  module _ {w₀ : List ℕ} {x : List Float} (ask : Ready a b w₀ x) {c : ℕ} (e : c ≡ length l) where
    refused_7 : (ltb (length old.i) (length l) || ltb (length old.v) (length l)) ≡ true → Served (solved 7 0) old
    unfolding later answer outputs
    refused_7 t = rw (short-is ask.valid.pattern.cols, t) (refl, refl)

    pub at_7 : (length old.i < c) ⊎ ((c ≤ length old.i) × (length old.v < c)) → Served (solved 7 0) old
    at_7 g = refused_7 (grind (arith, nat_tests))

    module _ (f : c ≤ length old.i) (g : c ≤ length old.v) (w : List ℕ) (u : marks a.pattern.ncols w ≡ l) where
      roomy : short (solution a b) old ≡ false
      roomy = short-is ask.valid.pattern.cols ∙ (rw (
        le-ltb (length old.i) (length l) (omega (arith, e)),
        le-ltb (length old.v) (length l) (omega (arith, e)),
      ))

      module _ (q : Option ℕ) (d : Names a.pattern.ncols (keep (lacking a) l) (first_or 0 (keep (lacking a) l)) q) where
        lacks : Names a.pattern.ncols (lacking_reached a b) (first_or 0 (lacking_reached a b)) q
        unfolding lacking_reached
        lacks = d

        pub at_10 : {j : ℕ} → q ≡ Some j → Served (solved 10 j) old
        unfolding later answer outputs
        at_10 k = let s = lacks in let t = rw k at s in rw (roomy, t.0) ((λ z. solved 10 (t.1 z)), refl)

        pub at-end : {x1 : List Float} {xi : List ℕ} {xv : List Float} → q ≡ None → x1 ≡ over put_at b.i b.v x
            → xi ≡ onto old.i (marks a.pattern.ncols w)
            → xv ≡ onto old.v (values_of (along (forward_column a) (marks a.pattern.ncols w) x1) (marks a.pattern.ncols w)) →
            Served (solved 0 0) (stored xi xv)
        unfolding later answer outputs written solution steps right
        at-end k s r o = let c = lacks in rw (roomy, rw k at c) (refl, both_are (r ∙ (rw u)) (o ∙ (rw (s, ask.zeros, u, ← ask.square))))
          where
            both_are : {i i' : List ℕ} {v v' : List Float} → i ≡ i' → v ≡ v' → stored i v ≡ stored i' v'
            both_are r o = λ k. stored (r k) (o k)

-- ---- what 7, 10 and 0 leave
late_leaves : (a : Matrix) (b : Vector) (n : ℕ) (old : Lent Stored) {new : Stored} {s : Scratch} →
    (let m = lowest (later a b old.out) in let w = written (solution a b) old.out in
    new ≡ outputs m w old.out → s ≡ wiped n old.work → lent new s ≡ leaves m n w old)
unfolding leaves worked later
late_leaves a b n old e f = rw (late (short (solution a b) old.out) (some (lacking_reached a b))) (λ k. lent (e k) (f k))
  where
    late : (s t : Bool) → (ltb 0 (cond s 7 (cond t 10 0)) && ltb (cond s 7 (cond t 10 0)) 7) ≡ false
    late true t = refl
    late false true = refl
    late false false = refl

-- ---- the scratch, once 6 is passed: what is lent of it, and what is left in the end
module _ (n : ℕ) (work : Scratch) {t : Bool} (f : t ≡ narrow (n + 1) work) (g : t ≡ false) {s : Scratch} (q : s ≡ wiped (n + 1) work) where
  w1_is : s.w1 ≡ cleared 0 (n + 1) work.w1
  unfolding wiped
  w1_is = ap (λ (z : Scratch). z.w1) q

  x_is : s.x ≡ cleared none (n + 1) work.x
  unfolding wiped
  x_is = ap (λ (z : Scratch). z.x) q

  pub w1_long : n + 1 ≤ length s.w1
  w1_long = rw (w1_is, length-cleared 0 (n + 1) work.w1) (not_narrow (n + 1) work (sym f ∙ g)).in_w1

  pub x_long : n + 1 ≤ length s.x
  x_long = rw (x_is, length-cleared none (n + 1) work.x) (not_narrow (n + 1) work (sym f ∙ g)).in_x

  pub ready : (k : ℕ) (p i : List ℕ) (v : List Float) (bi : List ℕ) (bv : List Float) {r : ℕ} →
      r ≡ lowest (judged_cs (matrix k n p i v) (vector k bi bv)) → r ≡ 0
      → Ready (matrix k n p i v) (vector k bi bv) (part 0 n s.w1) (part 0 n s.x)
  ready k p i v bi bv e h =
      let w = not_narrow (n + 1) work (sym f ∙ g) in
      let c = passed (matrix k n p i v) (vector k bi bv) e h in
      record {
        valid = c.valid;
        side = c.side;
        square = c.square;
        clean = rw w1_is (front-zeros 0 n (n + 1) work.w1 (omega arith) w.in_w1);
        zeros = rw x_is (front-zeros none n (n + 1) work.x (omega arith) w.in_x);
      }

  wiped-is : {w : List ℕ} (x : List ℕ) {y : List Float} (z : List Float) → length x ≡ length (part 0 n s.w1) → length z ≡ length (part 0 n s.x)
      → w ≡ cleared 0 (n + 1) (placed 0 n s.w1 x) → y ≡ cleared none (n + 1) (placed 0 n s.x z) → scratch w s.w2 s.w3 y ≡ wiped (n + 1) work
  unfolding wiped
  wiped-is x z lx lz ew ey =
      wiped_each (n + 1) work
      (ew ∙ cleared-after 0 n (n + 1) s.w1 x (omega arith) (omega (arith, w1_long))
      (omega (arith, lx, length_part 0 n s.w1 (omega (arith, w1_long)))) ∙ (rw w1_is (cleared-again 0 (n + 1) work.w1)))
      (ap (λ (u : Scratch). u.w2) q)
      (ap (λ (u : Scratch). u.w3) q)
      (ey ∙ cleared-after none n (n + 1) s.x z (omega arith) (omega (arith, x_long))
      (omega (arith, lz, length_part 0 n s.x (omega (arith, x_long)))) ∙ (rw x_is (cleared-again none (n + 1) work.x)))

-- ---- what is promised besides
promised : {k n : ℕ} {p i : List ℕ} {v : List Float} {bi : List ℕ} {bv : List Float} → Valid (matrix k n p i v) → ValidVector (vector k bi bv)
    → k ≡ n →
    ((k : ℕ) → T (fits binary64 (get_or bv k nan)))
    → Promised (matrix k n p i v) (vector k bi bv)
unfolding solution
promised {k} {n} {p} {i} {v} {bi} {bv} a b e f =
    let a = rw e at a in
    let b = rw e at b in
    rw e
    (record { reach = reaches_least (pattern n n p i) bi a.pattern refl (λ k m. member_below n bi b.below k m); dense = agrees n p i v bi bv a b f })

-- ---- the ways out of the call
module _ (k n : ℕ) (p i : List ℕ) (v : List Float) (bi : List ℕ) (bv : List Float) (old : Lent Stored) where
  abbrev A : Matrix
  A = matrix k n p i v

  abbrev B : Vector
  B = vector k bi bv

  abbrev pub Answer : Solved → Lent Stored → Type 0
  Answer r new = (r ≡ answer (number A B old) (first_or 0 (lacking_reached A B))) ×
      (new ≡ leaves (number A B old) (needed A.pattern) (written (solution A B) old.out) old) × (number A B old ≡ 0 → Promised A B)

  -- by 1 to 6 all is as it was
  refused : (r : ℕ) → 0 < r → r < 7 → r ≡ number A B old → Answer (solved r 0) old
  unfolding answer
  refused r g h e = rw (← e, ne_eqb r 10 (λ q. omega arith)) (
    refl,
    kept r (needed A.pattern) (written (solution A B) old.out) old g h,
    λ z. absurd (omega arith),
  )

  module _ {r : ℕ} (e : r ≡ lowest (judged_cs A B)) where
    pub at_check : (r ≡ 0 → ⊥) → Answer (solved r 0) old
    unfolding number
    at_check h = refused r (above r h) (omega (arith, below_7 (judged_cs A B) (early_cs A B))) (first (judged_cs A B) _ e h)
      where
        above : (r : ℕ) → (r ≡ 0 → ⊥) → 0 < r
        above zero h = absurd (h refl)
        above (suc r) h = omega arith

    module _ (h : r ≡ 0) {t : Bool} (f : t ≡ narrow (n + 1) old.work) where
      need_is : needed A.pattern ≡ n + 1
      unfolding needed
      need_is = omega (arith, (passed A B e h).square)

      after_5 : lowest ((6, narrow (n + 1) old.work) ∷ later A B old.out) ≡ number A B old
      unfolding number
      after_5 = rw (← need_is) (then (judged_cs A B) ((6, narrow (needed A.pattern) old.work) ∷ later A B old.out) (early_cs A B) e h)

      pub at_6 : t ≡ true → Answer (solved 6 0) old
      at_6 g = refused 6 (omega arith) (omega arith) ((rw (← f, g)) ∙ after_5)

      module _ (g : t ≡ false) {s : Scratch} (q : s ≡ wiped (n + 1) old.work) where
        after_6 : lowest (later A B old.out) ≡ number A B old
        after_6 = (rw (← f, g)) ∙ after_5

        pub at_served : ((k : ℕ) → T (fits binary64 (get_or bv k nan))) → {r' : Solved} {new : Stored} {w : List ℕ} (x : List ℕ) {y : List Float}
            (z : List Float) → Served A B old.out r' new
            → length x ≡ length (part 0 n s.w1) → length z ≡ length (part 0 n s.x) → w ≡ cleared 0 (n + 1) (placed 0 n s.w1 x) →
            y ≡ cleared none (n + 1) (placed 0 n s.x z)
            → Answer r' (lent new (scratch w s.w2 s.w3 y))
        at_served known x z sv lx lz ew ey =
            let c = passed A B e h in
            rw (← after_6, need_is) (
              sv.0,
              late_leaves A B (n + 1) old sv.1 (wiped-is n old.work f g q x z lx lz ew ey),
              λ z. promised c.valid c.side c.square known,
            )
