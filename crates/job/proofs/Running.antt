-- The run of a job that is prepared: what the factoring answers of a lent analysis that is the matrix's own, and that L stands in
-- the fronts of the slices. Assumes nothing.
use mathlib.Core.Bool.{Bool, true, false, not, cond, ◌&&◌, true≢false}
use mathlib.Core.Logic.{⊎_elim, ◌⊎◌}
use mathlib.Core.Path.{◌≡◌, sym, ap, ◌∙◌}
use mathlib.Core.List.{List, [], ◌∷◌, ◌++◌, flatten, append_assoc, append-nil}
use Prim.Native.Nat.{ℕ, ◌+◌, ◌≤◌, ◌<◌}
use native.Mathlib.Omega.{arith}
use lib.Dec.{eqb}
use lib.Ieee.{Float}
use lib.ListN.{length, get_or, take, replicate}
use lib.Seq.{take_all}
use borrow.Author.Tests.{eq-eqb, ne_eqb, eqb-false}
use Rattle.lists.specs.Calls.{lowest, none, onto, narrow, Scratch, Lent, outputs}
use Rattle.lists.proofs.Bools.{and-true, passed_over, eq-or-ne}
use Rattle.lists.proofs.Calls.{left-done}
use Rattle.lists.proofs.Passing.{lowest-none}
use Rattle.lists.proofs.Places.{take-onto}
use Rattle.cs_matrix.specs.Matrix.{Matrix, matrix, needed, judged_square_matrix}
use Rattle.cs_tree.specs.Pattern.{Analysis, analysed, upper, lower, entries}
use Rattle.cs_tree.specs.Tree.{root}
use Rattle.cs_tree.proofs.Count.{length-starts}
use Rattle.cs_tree.proofs.Laid.{length-laid, start-at}
use Rattle.cs_tree.proofs.Promises.{promised}
use Rattle.cs_pattern.specs.Columns.{columns}
use Rattle.lists.specs.Order.{starts_with}
use Rattle.cs_pattern.specs.Compare.{same, tight}
use Rattle.cs_pattern.proofs.Columns.{length-columns}
use Rattle.lists.proofs.Matching.{begins, starts_itself, starts_long, starts-at}
use Rattle.cs_cholesky.specs.declared.Factored.{Factored}
use Rattle.cs_cholesky.specs.Factor.{Outcome, factored as plain, judged_factor, answer, written}
use Rattle.cs_cholesky.proofs.Factoring.{factor-ends}
use Rattle.cs_matrix.proofs.Squaring.{early_matrix}
use Rattle.cs_left.specs.Left.{left_step, left, strays, number as leftNumber}
use Rattle.cs_up.specs.Up.{up, number as upNumber}
use Rattle.cs_up.proofs.Calling.{up_ends}
use Rattle.cs_solve.specs.declared.Solved.{Solved}
use Rattle.job.specs.Run.{Result, answered, after, factoring, values_room, factor_number, factored, lower_matrix, solved, run}
use Rattle.job.specs.Steps.{Prepared}
use Rattle.job.proofs.Sizes.{left_long, up_long}
use Rattle.job.proofs.Solving.{Owed, owed_stop, owed_go}

-- ---- what a factoring comes to
-- it ends with 0, or stops with 11
left-ends : (a : Matrix) → ((left a).answer ≡ plain 0 0 none) ⊎ ((left a).answer.number ≡ 11)
unfolding left
left-ends a = let cols = columns a.pattern in factor-ends (left_step a (upper cols) (lower cols)) a.pattern.ncols 0 []

-- where no number applies, 11 doesn't
passed_judge : (a : Matrix) (g : Analysis) (m : ℕ) (w : Scratch) (ds : List (ℕ × Bool)) → lowest (judged_factor a g m w ++ ds) ≡ 0 → lowest ds ≡ 0
unfolding judged_factor
passed_judge a g m w ds z =
    let f = analysed (columns a.pattern) in
    let xs : List (ℕ × Bool) = (6, narrow (needed a.pattern) w) ∷ (7, tight m f) ∷ (8, not (same f g)) ∷ [] in
    let e : lowest (judged_square_matrix a ++ (xs ++ ds)) ≡ 0 = sym (ap lowest (append_assoc (judged_square_matrix a) xs ds)) ∙ z in
    let p = (lowest-none (judged_square_matrix a) (xs ++ ds) (early_matrix a) e).1 in
    let q = passed_over (narrow (needed a.pattern) w) 5 _ p in
    let r = passed_over (tight m f) 6 _ q.1 in
    (passed_over (not (same f g)) 7 _ r.1).1

left_passed : (a : Matrix) (g : Analysis) (old : Lent (List Float)) → leftNumber a g old ≡ 0 → (left a).answer.number ≡ 11 → ⊥
unfolding leftNumber
left_passed a g old z =
    let p = passed_judge a g (length old.out) old.work _ z in
    let q = passed_over (strays a) 8 _ p in
    eqb-false (left a).answer.number 11 (passed_over (eqb (left a).answer.number 11) 10 0 q.1).0

up-passed : (a : Matrix) (g : Analysis) (old : Lent (List Float)) → upNumber a g old ≡ 0 → (up a).answer.number ≡ 11 → ⊥
unfolding upNumber
up-passed a g old z =
    let p = passed_judge a g (length old.out) old.work _ z in
    eqb-false (up a).answer.number 11 (passed_over (eqb (up a).answer.number 11) 10 0 p).0

answer-none : (r : ℕ) (o : Outcome) → (answer r o).number ≡ 0 → o.answer.number ≡ 11 → r ≡ 0
unfolding answer
answer-none r o z h =
    ⊎_elim
    (λ (e : r ≡ 11). absurd (let m = sym (ap (λ (b : Bool). (cond b o.answer (plain r 0 none)).number) (eq-eqb r 11 e)) ∙ z in omega (arith, m, h)))
    (λ (n : r ≡ 11 → ⊥). sym (ap (λ (b : Bool). (cond b o.answer (plain r 0 none)).number) (ne_eqb r 11 n)) ∙ z)
    (eq-or-ne r 11)

-- with either engine
module _ (a : Matrix) (g : Analysis) (old : Lent (List Float)) where
  abbrev outcome : Bool → Outcome
  outcome b = cond b (left a) (up a)

  abbrev numbers : Bool → ℕ
  numbers b = cond b (leftNumber a g old) (upNumber a g old)

  either-ends : (b : Bool) → ((outcome b).answer ≡ plain 0 0 none) ⊎ ((outcome b).answer.number ≡ 11)
  either-ends true = left-ends a
  either-ends false = up_ends a

  either-passed : (b : Bool) → numbers b ≡ 0 → (outcome b).answer.number ≡ 11 → ⊥
  either-passed true = left_passed a g old
  either-passed false = up-passed a g old

  -- answer 0 says that all columns were passed
  either-done : (b : Bool) → (answer (numbers b) (outcome b)).number ≡ 0 → (outcome b).answer.number ≡ 0
  either-done b z =
      ⊎_elim
      (λ (e : (outcome b).answer ≡ plain 0 0 none). ap (λ (f : Factored). f.number) e)
      (λ (h : (outcome b).answer.number ≡ 11). absurd (either-passed b (answer-none (numbers b) (outcome b) z h) h))
      (either-ends b)

  either_long : a.pattern.ncols ≤ 65535 → (b : Bool) → (outcome b).answer.number ≡ 0 → length (flatten (outcome b).columns)
      ≡ length (flatten (lower (columns a.pattern)))
  either_long s true = left_long a s
  either_long s false = up_long a s

-- ---- an analysis that is the matrix's own
itself : (xs : List ℕ) → starts_with xs xs ≡ true
itself xs = let e = starts_itself xs [] in rw (append-nil xs) at e

own : (f : Analysis) → same f f ≡ true
unfolding same
own f = simp (itself f.tree, itself f.up, itself f.ui, itself f.lp, itself f.li)

judged_own : (a : Matrix) (g : Analysis) → same (analysed (columns a.pattern)) g ≡ true → (m : ℕ) (w : Scratch)
    → judged_factor a g m w ≡ judged_factor a (analysed (columns a.pattern)) m w
unfolding judged_factor
judged_own a g e m w =
    let f = analysed (columns a.pattern) in
    ap (λ (b : Bool). judged_square_matrix a ++ (6, narrow (needed a.pattern) w) ∷ (7, tight m f) ∷ (8, not b) ∷ []) (e ∙ sym (own f))

number_own : (engine : ℕ) (a : Matrix) (g : Analysis) → same (analysed (columns a.pattern)) g ≡ true → (old : Lent (List Float))
    → factor_number engine a g old ≡ factor_number engine a (analysed (columns a.pattern)) old
unfolding factor_number leftNumber upNumber
number_own engine a g e old =
    ap (λ (js : List (ℕ × Bool)).
    cond (eqb engine 1)
    (lowest (js ++ (9, strays a) ∷ (11, eqb (left a).answer.number 11) ∷ []))
    (lowest (js ++ (11, eqb (up a).answer.number 11) ∷ [])))
    (judged_own a g e (length old.out) old.work)

-- ---- L in the fronts of the slices
last-two : (a b c d e : Bool) → (a && b && c && (d && e)) ≡ true → (d ≡ true) × (e ≡ true)
last-two true true true d e h = and-true d e h
last-two true true false d e h = absurd (true≢false (sym h))
last-two true false c d e h = absurd (true≢false (sym h))
last-two false b c d e h = absurd (true≢false (sym h))

module _ (a : Matrix) (g : Analysis) (q : Prepared a g) where
  abbrev n : ℕ
  n = a.pattern.ncols

  abbrev cols : List (List ℕ)
  cols = columns a.pattern

  abbrev f : Analysis
  f = analysed cols

  parts : (starts_with f.lp g.lp ≡ true) × (starts_with f.li g.li ≡ true)
  unfolding same
  parts =
      last-two (starts_with f.tree g.tree) (starts_with f.up g.up) (starts_with f.ui g.ui) (starts_with f.lp g.lp) (starts_with f.li g.li) q.own

  lower_long : length (lower cols) ≡ n
  unfolding root
  lower_long = (promised cols (omega (arith, length-columns a.pattern, q.small))).l_columns ∙ length-columns a.pattern

  lp_long : length f.lp ≡ n + 1
  unfolding analysed
  lp_long = omega (arith, length-starts 0 (lower cols), lower_long)

  pub in_lp : a.pattern.ncols < length g.lp
  in_lp = omega (arith, starts_long f.lp g.lp parts.0, lp_long)

  run-last : get_or g.lp n 0 ≡ length f.li
  unfolding analysed
  run-last =
      sym (starts-at f.lp g.lp parts.0 n (omega (arith, lp_long)))
      ∙ start-at (lower cols) n (omega (arith, lower_long))
      ∙ ap entries (take_all n (lower cols) (omega (arith, lower_long)))
      ∙ sym (length-laid (lower cols))

  pub run_li : get_or g.lp a.pattern.ncols 0 ≤ length g.li
  run_li = omega (arith, run-last, starts_long f.li g.li parts.1)

  pub run_few : get_or g.lp a.pattern.ncols 0 ≤ 2048
  run_few = omega (arith, run_li, q.few)

  lp_is : take (n + 1) g.lp ≡ f.lp
  lp_is = ap (λ (k : ℕ). take k g.lp) (sym lp_long) ∙ begins f.lp g.lp parts.0

  li_is : take (get_or g.lp n 0) g.li ≡ f.li
  li_is = ap (λ (k : ℕ). take k g.li) run-last ∙ begins f.li g.li parts.1

  -- the factoring's answer
  module _ (engine : ℕ) (b : List Float) {r : Factored} {lx : List Float}
      (c : (r ≡ answer (factor_number engine a g values_room) (factoring engine a))
      × (lx ≡ outputs r.number (written (entries (upper cols)) (factoring engine a) (replicate 2048 none)) (replicate 2048 none))) where
    r_is : r ≡ factored engine a
    unfolding factored
    r_is = c.0 ∙ ap (λ (y : ℕ). answer y (factoring engine a)) (number_own engine a g q.own values_room)

    abbrev then : Result
    then = solved (lower_matrix a (factoring engine a)) b

    pub run-refused : (r.number ≡ 0 → ⊥) → Owed (run engine a b) (record { number = r.number; column = r.column }) b
    unfolding run
    run-refused z =
        let o = owed_stop r.number r.column then b z in
        (o.0 ∙ ap (λ (y : Factored). answered (after y.number y.column then)) r_is, λ e. absurd (z e))

    module _ (z : r.number ≡ 0) where
      all-passed : (factoring engine a).answer.number ≡ 0
      unfolding factoring factor_number
      all-passed = either-done a g values_room (eqb engine 1) (sym (ap (λ (y : Factored). y.number) c.0) ∙ z)

      values_long : length (flatten (factoring engine a).columns) ≡ length f.li
      unfolding factoring analysed
      values_long = either_long a g values_room (omega (arith, q.small)) (eqb engine 1) all-passed

      lx_is : lx ≡ onto (replicate 2048 none) (flatten (factoring engine a).columns)
      unfolding written
      lx_is =
          c.1
          ∙ left-done r.number (written (entries (upper cols)) (factoring engine a) (replicate 2048 none)) (replicate 2048 none) z
          ∙ ap (λ (t : Bool). onto (replicate 2048 none) (cond t (replicate (entries (upper cols)) none) (flatten (factoring engine a).columns)))
          (ne_eqb (factoring engine a).answer.number 11 (λ h. omega (arith, all-passed, h)))

      values_are : take (get_or g.lp n 0) lx ≡ flatten (factoring engine a).columns
      values_are = ap (take (get_or g.lp n 0)) lx_is ∙ take-onto (get_or g.lp n 0) (replicate 2048 none) (flatten (factoring engine a).columns)
          (values_long ∙ sym run-last)

      held : matrix n n (take (n + 1) g.lp) (take (get_or g.lp n 0) g.li) (take (get_or g.lp n 0) lx) ≡ lower_matrix a (factoring engine a)
      unfolding lower_matrix
      held = λ k. matrix n n (lp_is k) (li_is k) (values_are k)

      pub run-done : {s : Solved} {b1 : List Float} {m : ℕ} → m ≡ get_or g.lp a.pattern.ncols 0
          → Owed (solved (matrix a.pattern.ncols a.pattern.ncols (take (a.pattern.ncols + 1) g.lp) (take m g.li) (take m lx)) b) s b1
          → Owed (run engine a b) s b1
      unfolding run
      run-done {s = s} {b1 = b1} e o =
          let o1 = rw (e, held) at o in
          let w = owed_go r.number r.column then z o1 in (
            w.0 ∙ ap (λ (y : Factored). answered (after y.number y.column then)) r_is,
            λ h. w.1 h ∙ ap (λ (y : Factored). (after y.number y.column then).x) r_is,
          )
