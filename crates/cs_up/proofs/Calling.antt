-- What `work` leaves, and what `decompose_up_looking` answers and leaves at each of its ways out. Assumes nothing.
use mathlib.Core.Bool.{Bool}
use mathlib.Core.List.{List, [], ◌∷◌, flatten}
use mathlib.Core.Logic.{◌⊎◌}
use mathlib.Core.Path.{◌≡◌, refl, sym, ap, ◌∙◌}
use Prim.Native.Nat.{ℕ, ◌+◌, ◌≤◌}
use native.Mathlib.Omega.{arith}
use lib.Dec.{eqb}
use lib.Ieee.{Float}
use lib.ListN.{length, get_or}
use Rattle.lists.specs.Calls.{lowest, cleared, onto, none, Scratch, scratch, wiped, worked, lent, leaves}
use Rattle.lists.specs.Parts.{part, placed}
use Rattle.lists.proofs.Calls.{wiped_each}
use Rattle.lists.proofs.Clearing.{length-cleared, cleared-again}
use Rattle.lists.proofs.Returning.{front-zeros, cleared-after, cleared-written}
use Rattle.lists.proofs.Laying.{placed-front, part_long}
use Rattle.cs_matrix.specs.Matrix.{Matrix, pattern, matrix, needed}
use Rattle.cs_tree.specs.Pattern.{Analysis, analysis, upper, lower, entries}
use Rattle.cs_pattern.specs.Columns.{columns}
use Rattle.cs_cholesky.specs.Factor.{Outcome, factored, judged_factor, answer, written}
use Rattle.cs_cholesky.specs.declared.Factored.{Factored}
use Rattle.cs_cholesky.proofs.Factoring.{factor-ends}
use Rattle.cs_cholesky.proofs.Serving.{Passed, passed}
use Rattle.cs_cholesky.proofs.Ways.{at_judge, at-end}
use Rattle.cs_up.specs.Steps.{Fills}
use Rattle.cs_up.specs.Up.{up_step, up as upOf, number}
use Rattle.cs_up.proofs.Lying.{lies}

-- it ends with 0, or stops with 11
pub up_ends : (a : Matrix) → ((upOf a).answer ≡ factored 0 0 none) ⊎ ((upOf a).answer.number ≡ 11)
unfolding upOf
up_ends a = factor-ends (up_step a (upper (columns a.pattern)) (lower (columns a.pattern))) a.pattern.ncols 0 []

-- ---- `work`
module _ {n : ℕ} {p i : List ℕ} {v : List Float} {tr up ui lp li : List ℕ} {lx : List Float} {next : List ℕ} {x : List Float}
    (R : Fills (matrix n n p i v) (analysis tr up ui lp li) lx next x) where
  abbrev size : ℕ
  size = entries (upper (columns (pattern n n p i)))

  abbrev f : Outcome
  f = upOf (matrix n n p i v)

  module _ {t : ℕ} (g : t ≡ get_or lp n 0) where
    t_is : t ≡ size
    t_is = g ∙ (lies R.served).end

    pub fill_in_lx : t ≤ length lx
    fill_in_lx = omega (arith, t_is, R.served.roomy)

    module _ (lx1 : List Float) (l : length lx1 ≡ length (part 0 t lx)) (next1 : List ℕ) (x1 : List Float)
        (k : length next1 ≡ length (part 0 n next)) (m : length x1 ≡ length (part 0 n x)) where
      long : length lx1 ≡ t
      long = l ∙ part_long t lx fill_in_lx

      -- what a way out owes
      abbrev Filled : Factored → List Float → Type 0
      Filled s lx2 = (s ≡ f.answer) × (lx2 ≡ written size f lx) × (cleared 0 (n + 1) (placed 0 n next next1) ≡ cleared 0 (n + 1) next) ×
          (cleared none (n + 1) (placed 0 n x x1) ≡ cleared none (n + 1) x)

      pub filled : {s : Factored} {lx2 : List Float} → s ≡ f.answer → lx2 ≡ written size f lx → Filled s lx2
      filled e b = (
        e,
        b,
        cleared-after 0 n (n + 1) next next1 (omega arith) R.in_next (k ∙ part_long n next R.in_next),
        cleared-after none n (n + 1) x x1 (omega arith) R.in_x (m ∙ part_long n x R.in_x),
      )

      pub filled_11 : {s : Factored} {lx2 : List Float} → (s ≡ f.answer) × (s.number ≡ 11) → lx2 ≡ cleared none t (placed 0 t lx lx1) → Filled s lx2
      unfolding written
      filled_11 F b =
          let z : f.answer.number ≡ 11 = ap (λ (r : Factored). r.number) (sym F.0) ∙ F.1 in
          filled F.0 (b ∙ cleared-written none t lx lx1 fill_in_lx long ∙ (rw (z, ← t_is) refl))

      pub filled_0 : (f.answer ≡ factored 0 0 none) × (lx1 ≡ flatten f.columns) → Filled (factored 0 0 none) (placed 0 t lx lx1)
      unfolding written
      filled_0 F =
          let z : f.answer.number ≡ 0 = ap (λ (r : Factored). r.number) F.0 in
          filled (sym F.0) (placed-front lx lx1 t long ∙ ap (onto lx) F.1 ∙ (rw z refl))

-- ---- the call
module _ (nrows n : ℕ) (p i : List ℕ) (v : List Float) (tr up ui lp li : List ℕ) (lx : List Float) (w1 w2 w3 : List ℕ) (x : List Float) where
  abbrev a : Matrix
  a = matrix nrows n p i v

  abbrev given : Analysis
  given = analysis tr up ui lp li

  abbrev work : Scratch
  work = scratch w1 w2 w3 x

  abbrev rest : List (ℕ × Bool)
  rest = (11, eqb (upOf a).answer.number 11) ∷ []

  -- what a way out owes
  abbrev Answer : Factored → List Float → Scratch → Type 0
  Answer r out1 work1 =
      (r ≡ answer (number a given (lent lx work)) (upOf a))
      × (lent out1 work1 ≡ leaves r.number (needed a.pattern) (written (entries (upper (columns a.pattern))) (upOf a) lx) (lent lx work))

  module _ {r : ℕ} {work1 : Scratch} (e : (r ≡ lowest (judged_factor a given (length lx) work)) ×
      (work1 ≡ worked r (needed (pattern nrows n p i)) work)) where
    pub at-refused : (r ≡ 0 → ⊥) → {s : Factored} → s ≡ factored r 0 none → Answer s lx work1
    unfolding number
    at-refused h q = rw q (at_judge a given lx work rest (entries (upper (columns a.pattern))) (upOf a) e.0 h e.1)

    module _ (h : r ≡ 0) where
      P : Passed nrows n p i v up ui lp li (length lx) work
      P = passed nrows n p i v tr up ui lp li (length lx) work e.0 h

      wiped-is : work1 ≡ wiped (n + 1) work
      unfolding worked
      wiped-is = e.1 ∙ (rw (h, P.need))

      each : (work1.w1 ≡ cleared 0 (n + 1) w1) × (work1.w2 ≡ cleared 0 (n + 1) w2) × (work1.w3 ≡ cleared 0 (n + 1) w3) ×
          (work1.x ≡ cleared none (n + 1) x)
      unfolding wiped
      each = (
        ap (λ (s : Scratch). s.w1) wiped-is,
        ap (λ (s : Scratch). s.w2) wiped-is,
        ap (λ (s : Scratch). s.w3) wiped-is,
        ap (λ (s : Scratch). s.x) wiped-is,
      )

      pub small : n ≤ 65535
      small = P.served.valid.pattern.cols

      pub call_fills : Fills (matrix n n p i v) given lx work1.w1 work1.x
      call_fills = record {
        served = P.served;
        in_next = rw (each.0, length-cleared 0 (n + 1) w1) (omega (arith, P.wide.in_w1));
        in_x = rw (each.3, length-cleared none (n + 1) x) (omega (arith, P.wide.in_x));
        zeros = rw each.3 (front-zeros none n (n + 1) x (omega arith) P.wide.in_x);
      }

      module _ {s : Factored} {lx1 : List Float} (w1' : List ℕ) (x' : List Float)
          (F : (s ≡ (upOf (matrix n n p i v)).answer) × (lx1 ≡ written (entries (upper (columns (pattern n n p i)))) (upOf (matrix n n p i v)) lx) ×
          (cleared 0 (n + 1) w1' ≡ cleared 0 (n + 1) work1.w1) × (cleared none (n + 1) x' ≡ cleared none (n + 1) work1.x)) where
        pub at_done : {work2 : Scratch} → work2 ≡ wiped (n + 1) (scratch w1' work1.w2 work1.w3 x') → Answer s lx1 work2
        unfolding number
        at_done c =
            at-end a given lx work rest (entries (upper (columns a.pattern))) (upOf a) e.0 h refl (F.1 ∙ (rw P.square refl)) (c ∙ again ∙
            (rw P.need refl)) (up_ends a) (F.0 ∙ (rw P.square refl))
          where
            same : scratch (cleared 0 (n + 1) w1) (cleared 0 (n + 1) w2) (cleared 0 (n + 1) w3) (cleared none (n + 1) x) ≡ wiped (n + 1) work
            same = wiped_each (n + 1) work refl refl refl refl

            again : wiped (n + 1) (scratch w1' work1.w2 work1.w3 x') ≡ wiped (n + 1) work
            again = sym (wiped_each (n + 1) (scratch w1' work1.w2 work1.w3 x')
                (sym (F.2 ∙ ap (cleared 0 (n + 1)) each.0 ∙ cleared-again 0 (n + 1) w1))
                (sym (ap (cleared 0 (n + 1)) each.1 ∙ cleared-again 0 (n + 1) w2))
                (sym (ap (cleared 0 (n + 1)) each.2 ∙ cleared-again 0 (n + 1) w3))
                (sym (F.3 ∙ ap (cleared none (n + 1)) each.3 ∙ cleared-again none (n + 1) x))) ∙ same
