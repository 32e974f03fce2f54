-- The calls in turn: what follows a refusal and what follows 0, and the two solves. Assumes nothing.
use mathlib.Core.Path.{◌≡◌, refl, sym, ap, ◌∙◌}
use mathlib.Core.List.{List, []}
use Prim.Native.Nat.{ℕ, zero, suc}
use native.Mathlib.Omega.{arith}
use lib.Ieee.{Float}
use Rattle.lists.specs.Calls.{outputs}
use Rattle.lists.specs.Choices.{first_or, last_or}
use Rattle.lists.proofs.Calls.{left-done}
use Rattle.cs_matrix.specs.Matrix.{Matrix}
use Rattle.cs_solve.specs.declared.Solved.{Solved}
use Rattle.cs_solve.specs.Judge.{lacking_columns, number, answer}
use Rattle.cs_solve.specs.Solve.{forward}
use Rattle.cs_solve.specs.TrSolve.{transposed}
use Rattle.job.specs.Run.{Result, result, answered, after, forward_answer, transposed_answer, solved}

pub after_go : (r k : ℕ) (next : Result) → r ≡ 0 → after r k next ≡ next
unfolding after
after_go zero k next e = refl
after_go (suc r) k next e = absurd (omega arith)

pub after_stop : (r k : ℕ) (next : Result) → (r ≡ 0 → ⊥) → after r k next ≡ result r k []
unfolding after
after_stop zero k next n = absurd (n refl)
after_stop (suc r) k next n = refl

-- what a way out owes: the answer of s, and with 0 its solution
abbrev pub Owed : Result → Solved → List Float → Type 0
Owed s r b = (r ≡ answered s) × (r.number ≡ 0 → b ≡ s.x)

-- a refusal
pub owed_stop : (r k : ℕ) (next : Result) (b : List Float) → (r ≡ 0 → ⊥) → Owed (after r k next) (record { number = r; column = k }) b
owed_stop r k next b n = (sym (ap answered (after_stop r k next n)), λ z. absurd (n z))

-- and what comes after 0
pub owed_go : (r k : ℕ) (next : Result) {s : Solved} {b : List Float} → r ≡ 0 → Owed next s b → Owed (after r k next) s b
owed_go r k next e o = (o.0 ∙ sym (ap answered (after_go r k next e)), λ z. o.1 z ∙ sym (ap (λ (x : Result). x.x) (after_go r k next e)))

-- a last call, with column 0 where it is done
last : (r k : ℕ) (x : List Float) → (r ≡ 0 → k ≡ 0) → ◌≡◌ {A = Solved} (record { number = r; column = k }) (answered (after r k (result 0 0 x)))
unfolding after
last zero k x h = ap (λ (c : ℕ). record { number = 0; column = c }) (h refl)
last (suc r) k x h = refl

module _ (l : Matrix) (b : List Float) {r : Solved} {b1 : List Float}
    (c : (r ≡ answer (number l b) (first_or 0 (lacking_columns l))) × (b1 ≡ outputs (number l b) (forward l b) b)) where
  r_is : r ≡ forward_answer l b
  unfolding forward_answer
  r_is = c.0

  abbrev then : Result
  then = after (transposed_answer l (forward l b)).number (transposed_answer l (forward l b)).column (result 0 0 (transposed l (forward l b)))

  abbrev all : Solved → Result
  all s = after s.number s.column then

  pub solve_refused : (r.number ≡ 0 → ⊥) → Owed (solved l b) r b1
  unfolding solved
  solve_refused n =
      let o = owed_stop r.number r.column then b1 n in
      (o.0 ∙ ap (λ (s : Solved). answered (all s)) r_is, λ z. absurd (n z))

  -- the number of the solve is its answer's
  forward-is : r.number ≡ 0 → b1 ≡ forward l b
  unfolding answer
  forward-is z = c.1 ∙ left-done (number l b) (forward l b) b (sym (ap (λ (s : Solved). s.number) c.0) ∙ z)

  pub solve_done : {s : Solved} {b2 : List Float} → r.number ≡ 0
      → (s ≡ answer (number l b1) (last_or 0 (lacking_columns l))) × (b2 ≡ outputs (number l b1) (transposed l b1) b1) → Owed (solved l b) s b2
  unfolding solved transposed_answer answer
  solve_done {s = s} {b2 = b2} z d =
      let y = forward l b in
      let f = forward-is z in
      let e : s ≡ transposed_answer l y = d.0 ∙ ap (λ (x : List Float). answer (number l x) (last_or 0 (lacking_columns l))) f in
      let g : b2 ≡ outputs (number l y) (transposed l y) y = d.1 ∙ ap (λ (x : List Float). outputs (number l x) (transposed l x) x) f in
      let t = transposed_answer l y in
      let k : t.number ≡ 0 → t.column ≡ 0 = λ n. rw n in
      let zero-first : (forward_answer l b).number ≡ 0 = sym (ap (λ (x : Solved). x.number) r_is) ∙ z in
      owed_go (forward_answer l b).number (forward_answer l b).column then zero-first (
        e ∙ last t.number t.column (transposed l y) k,
        λ n.
            let m : t.number ≡ 0 = sym (ap (λ (x : Solved). x.number) e) ∙ n in
            g ∙ left-done (number l y) (transposed l y) y m ∙
            sym (ap (λ (x : Result). x.x) (after_go t.number t.column (result 0 0 (transposed l y)) m)),
      )
