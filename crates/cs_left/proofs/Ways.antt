-- What `decompose_left_looking` answers and leaves, at each of its ways out. Assumes nothing.
use mathlib.Core.Path.{◌≡◌, refl, sym, ap, ◌∙◌}
use mathlib.Core.Bool.{Bool, true, false, cond}
use mathlib.Core.List.{List, [], ◌∷◌}
use Prim.Native.Nat.{ℕ, ◌+◌, ◌≤◌}
use native.Mathlib.Omega.{arith}
use lib.Dec.{eqb}
use lib.Ieee.{Float}
use lib.ListN.{length, get_or}
use Rattle.lists.specs.Calls.{lowest, none, Scratch, scratch, cleared, wiped, lent, worked, leaves}
use Rattle.lists.specs.Choices.{some}
use Rattle.lists.specs.Parts.{part, placed}
use Rattle.lists.proofs.Calls.{wiped_each}
use Rattle.lists.proofs.Chosen.{chosen_alike}
use Rattle.lists.proofs.Clearing.{length-cleared, cleared-again}
use Rattle.lists.proofs.Laying.{part_long}
use Rattle.lists.proofs.Ordering.{rising_rises}
use Rattle.lists.proofs.Returning.{front-zeros, cleared-after}
use Rattle.cs_matrix.specs.Matrix.{pattern, Matrix, matrix, column, needed}
use Rattle.cs_tree.specs.Pattern.{Analysis, analysis, upper, lower, entries}
use Rattle.cs_pattern.specs.Columns.{columns}
use Rattle.cs_pattern.proofs.Columns.{column-at}
use Rattle.cs_cholesky.specs.declared.Factored.{Factored}
use Rattle.cs_cholesky.specs.Factor.{Outcome, factored, judged_factor, answer, written}
use Rattle.cs_cholesky.specs.Served.{Served}
use Rattle.cs_cholesky.proofs.Factoring.{factor-ends}
use Rattle.cs_cholesky.proofs.Serving.{Passed, passed}
use Rattle.cs_cholesky.proofs.Ways.{at_judge, at-refusal, at-end}
use Rattle.cs_left.specs.Left.{left, left_step, stray, strays, number}
use Rattle.cs_left.specs.Steps.{stray_in, some_stray, Sought, Asked}
use Rattle.cs_left.proofs.Turning.{l_column, p_within, l_within}

-- ---- 9, as it is told
module _ {n : ℕ} {p i : List ℕ} {v : List Float} {up ui lp li : List ℕ} {room : ℕ} (S : Served n p i v up ui lp li room) where
  pub strays_asks : {m : ℕ} {tr : List ℕ} → Sought (pattern m n p i) (analysis tr up ui lp li) n
  strays_asks =
      record {
        stored = record { few = S.valid.pattern.cols; each = λ k h. p_within S h; rise = S.valid.pattern.rise };
        held = record { few = S.valid.pattern.cols; each = λ k h. l_within S h; rise = λ k h. rw (l_column S h) (rising_rises (S.promised.rise k)) };
        mirrored = λ r z h g m. rw (l_column S {k = r} (omega arith))
            ((S.promised.across r z).1 (S.promised.closed.stores r z (omega arith) (rw (column-at (pattern n n p i) z h) m)));
        below = S.valid.pattern.below;
        room = refl;
      }

  pub strays_are : (m : ℕ) (tr : List ℕ) → some_stray (pattern m n p i) (analysis tr up ui lp li) ≡ strays (matrix n n p i v)
  unfolding strays stray stray_in
  strays_are m tr =
      ap some
      (chosen_alike n (λ k. stray_in k (column lp k li) (column p k i)) (stray (columns (pattern n n p i)) (lower (columns (pattern n n p i))))
      (λ k h. ap (λ (l : List ℕ). stray_in k l (column p k i)) (l_column S h) ∙ ap (stray_in k (get_or (lower (columns (pattern n n p i))) k []))
      (sym (column-at (pattern n n p i) k h))))

-- ---- scratch: cleared, lent in part, and cleared again
again : {A : Type 0} (z : A) (n : ℕ) (w ys : List A) {w1 : List A} → n + 1 ≤ length w → w1 ≡ cleared z (n + 1) w → length ys ≡ length (part 0 n w1)
    → cleared z (n + 1) (placed 0 n w1 ys) ≡ cleared z (n + 1) w
again z n w ys {w1} h e l =
    let a : n + 1 ≤ length w1 = omega (arith, ap length e, length-cleared z (n + 1) w) in
    cleared-after z n (n + 1) w1 ys (omega arith) (omega arith) (l ∙ part_long n w1 (omega arith)) ∙ ap (cleared z (n + 1)) e ∙
    cleared-again z (n + 1) w

-- ---- the ways out
module _ (nrows n : ℕ) (p i : List ℕ) (v : List Float) (tr up ui lp li : List ℕ) (lx : List Float) (w1 w2 w3 : List ℕ) (x : List Float) where
  abbrev a : Matrix
  a = matrix nrows n p i v

  abbrev given : Analysis
  given = analysis tr up ui lp li

  abbrev old : Scratch
  old = scratch w1 w2 w3 x

  abbrev t : ℕ
  t = entries (upper (columns (pattern nrows n p i)))

  abbrev rest : List (ℕ × Bool)
  rest = (9, strays a) ∷ (11, eqb (left a).answer.number 11) ∷ []

  abbrev pub Told : Factored → List Float → Scratch → Type 0
  Told r out work = (r ≡ answer (number a given (lent lx old)) (left a)) ×
      (lent out work ≡ leaves r.number (needed (pattern nrows n p i)) (written t (left a) lx) (lent lx old))

  module _ {r : ℕ} {w1a w2a w3a : List ℕ} {xa : List Float} (e : (r ≡ lowest (judged_factor a given (length lx) old)) ×
      (scratch w1a w2a w3a xa ≡ worked r (needed (pattern nrows n p i)) old)) where
    pub way-judged : (r ≡ 0 → ⊥) → {s : Factored} → s ≡ factored r 0 none → Told s lx (scratch w1a w2a w3a xa)
    unfolding number
    way-judged h f = rw f (at_judge a given lx old rest t (left a) e.0 h e.1)

    module _ (h : r ≡ 0) where
      P : Passed nrows n p i v up ui lp li (length lx) old
      P = passed nrows n p i v tr up ui lp li (length lx) old e.0 h

      pub way_served : Served n p i v up ui lp li (length lx)
      way_served = P.served

      clear : scratch w1a w2a w3a xa ≡ wiped (n + 1) old
      unfolding worked
      clear = (rw h at e.1) ∙ ap (λ (k : ℕ). wiped k old) P.need

      clear_need : scratch w1a w2a w3a xa ≡ wiped (needed (pattern nrows n p i)) old
      unfolding worked
      clear_need = rw h at e.1

      w1_is : w1a ≡ cleared 0 (n + 1) w1
      unfolding wiped
      w1_is = ap (λ (s : Scratch). s.w1) clear

      w2_is : w2a ≡ cleared 0 (n + 1) w2
      unfolding wiped
      w2_is = ap (λ (s : Scratch). s.w2) clear

      w3_is : w3a ≡ cleared 0 (n + 1) w3
      unfolding wiped
      w3_is = ap (λ (s : Scratch). s.w3) clear

      xa_is : xa ≡ cleared none (n + 1) x
      unfolding wiped
      xa_is = ap (λ (s : Scratch). s.x) clear

      pub way_w1 : n ≤ length w1a
      way_w1 = omega (arith, ap length w1_is, length-cleared 0 (n + 1) w1, P.wide.in_w1)

      pub way_w2 : n ≤ length w2a
      way_w2 = omega (arith, ap length w2_is, length-cleared 0 (n + 1) w2, P.wide.in_w2)

      pub way_x : n ≤ length xa
      way_x = omega (arith, ap length xa_is, length-cleared none (n + 1) x, P.wide.in_x)

      module _ {b : Bool} {w2b : List ℕ} (g : (b ≡ some_stray a.pattern given) ×
          (w2b ≡ cleared 0 (n + 1) w2a)) where
        stray-square : strays (matrix n n p i v) ≡ b
        stray-square = sym (g.0 ∙ strays_are P.served nrows tr)

        w2_back : w2b ≡ w2a
        w2_back = g.1 ∙ ap (cleared 0 (n + 1)) w2_is ∙ cleared-again 0 (n + 1) w2 ∙ sym w2_is

        stray-told : strays a ≡ b
        stray-told = ap (λ (m : ℕ). strays (matrix m n p i v)) P.square ∙ stray-square

        pub way-stray : b ≡ true → {s : Factored} → s ≡ factored 9 0 none → Told s lx (scratch w1a w2b w3a xa)
        unfolding number
        way-stray q f =
            let u : 9 ≡ lowest rest = rw (stray-told ∙ q) refl in
            rw (f, w2_back) (at-refusal a given lx old rest t (left a) e.0 h u (omega arith) (omega arith) clear_need)

        module _ (q : b ≡ false) where
          pub way_asks : Asked (matrix n n p i v) given (length lx) (part 0 n w1a) (part 0 n xa)
          way_asks =
              record {
                served = P.served;
                none_stray = stray-square ∙ q;
                next_long = part_long n w1a way_w1;
                zeros = ap (part 0 n) xa_is ∙ front-zeros none n (n + 1) x (omega arith) P.wide.in_x;
              }

          left_is : left (matrix n n p i v) ≡ left a
          left_is = ap (λ (m : ℕ). left (matrix m n p i v)) (sym P.square)

          count_is : entries (upper (columns (pattern n n p i))) ≡ t
          count_is = ap (λ (m : ℕ). entries (upper (columns (pattern m n p i)))) (sym P.square)

          ends : lowest rest ≡ cond (eqb (left a).answer.number 11) 11 0
          ends = rw (stray-told ∙ q) refl

          module _ {s1 : Factored} {lx1 : List Float} (r1 : (s1 ≡ (left (matrix n n p i v)).answer) ×
              (lx1 ≡ written (entries (upper (columns (pattern n n p i)))) (left (matrix n n p i v)) lx))
              (ys : List ℕ) (zs : List Float) (y_long : length ys ≡ length (part 0 n w1a)) (z-long : length zs ≡ length (part 0 n xa)) where
            wiped-again : {s : Scratch} → s ≡ wiped (n + 1) (scratch (placed 0 n w1a ys) w2b w3a (placed 0 n xa zs)) →
                s ≡ wiped (needed (pattern nrows n p i)) old
            unfolding wiped
            wiped-again c =
                c
                ∙ wiped_each (n + 1) old (again 0 n w1 ys P.wide.in_w1 w1_is y_long) (ap (cleared 0 (n + 1)) (w2_back ∙ w2_is) ∙
                cleared-again 0 (n + 1) w2) (ap (cleared 0 (n + 1)) w3_is ∙ cleared-again 0 (n + 1) w3)
                (again none n x zs P.wide.in_x xa_is z-long)
                ∙ ap (λ (k : ℕ). wiped k old) (sym P.need)

            pub way-done : {s : Scratch} → s ≡ wiped (n + 1) (scratch (placed 0 n w1a ys) w2b w3a (placed 0 n xa zs)) → Told s1 lx1 s
            unfolding number left
            way-done c =
                at-end a given lx old rest t (left a) e.0 h ends (r1.1 ∙ ap (λ (k : ℕ). written k (left (matrix n n p i v)) lx) count_is ∙
                ap (λ (o : Outcome). written t o lx) left_is) (wiped-again c)
                (factor-ends (left_step a (upper (columns (pattern nrows n p i))) (lower (columns (pattern nrows n p i)))) n 0 []) (r1.0 ∙
                ap (λ (o : Outcome). o.answer) left_is)
