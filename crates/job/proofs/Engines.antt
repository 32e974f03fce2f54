-- The two engines behind one call. Assumes nothing.
use mathlib.Core.Bool.{Bool, cond}
use mathlib.Core.Path.{◌≡◌, sym, ap, subst}
use mathlib.Core.List.{List}
use Prim.Native.Nat.{ℕ}
use native.Mathlib.Omega.{arith}
use lib.Dec.{eqb}
use lib.Ieee.{Float}
use borrow.Author.Tests.{eq-eqb, ne_eqb}
use Rattle.lists.specs.Calls.{Scratch, Lent, lent, outputs, leaves}
use Rattle.cs_matrix.specs.Matrix.{Matrix}
use Rattle.cs_tree.specs.Pattern.{Analysis, upper, entries}
use Rattle.cs_pattern.specs.Columns.{columns}
use Rattle.cs_cholesky.specs.declared.Factored.{Factored}
use Rattle.cs_cholesky.specs.Factor.{Outcome, answer, written}
use Rattle.cs_left.specs.Left.{left, number as leftNumber}
use Rattle.cs_up.specs.Up.{up, number as upNumber}
use Rattle.job_file.specs.declared.read.Engine.{Engine}
use Rattle.job_file.specs.declared.read.Engine.TheVariants.{Left, Up}
use Rattle.job_file.specs.Told.{byte}
use Rattle.job_prepare.specs.Prepare.{scratch_room}
use Rattle.job.specs.Run.{factoring, factor_number}

-- what a call leaves in its outputs, its scratch aside
pub out_of : {Out : Type 0} (r n : ℕ) (w out : Out) (work : Scratch) {new : Out} {work1 : Scratch} → lent new work1 ≡ leaves r n w (lent out work) →
    new ≡ outputs r w out
unfolding leaves
out_of r n w out work e = ap (λ (l : Lent _). l.out) e

module _ (engine : Engine) (a : Matrix) (given : Analysis) (old : List Float) (r : Factored) (new : List Float) (n : ℕ) (work : Scratch) where
  -- what an engine answers: its number, and what it comes to
  abbrev Answers : ℕ → Outcome → Type 0
  Answers number o = (r ≡ answer number o) × (new ≡ outputs r.number (written (entries (upper (columns a.pattern))) o old) old)

  abbrev room : Lent (List Float)
  room = lent old scratch_room

  either : (b : Bool) → eqb (byte engine) 1 ≡ b
      → Answers (cond b (leftNumber a given room) (upNumber a given room)) (cond b (left a) (up a)) →
      Answers (factor_number (byte engine) a given room) (factoring (byte engine) a)
  unfolding factor_number factoring
  either b e c = subst (λ (t : Bool). Answers (cond t (leftNumber a given room) (upNumber a given room)) (cond t (left a) (up a))) (sym e) c

  pub by_left : engine ≡ Left
      → (r ≡ answer (leftNumber a given (lent old scratch_room)) (left a)) ×
      (lent new work ≡ leaves r.number n (written (entries (upper (columns a.pattern))) (left a) old) (lent old scratch_room))
      → (r ≡ answer (factor_number (byte engine) a given (lent old scratch_room)) (factoring (byte engine) a))
      × (new ≡ outputs r.number (written (entries (upper (columns a.pattern))) (factoring (byte engine) a) old) old)
  by_left e c = either _ (eq-eqb (byte engine) 1 (ap byte e)) (c.0, out_of _ _ _ _ _ c.1)

  pub by_up : engine ≡ Up
      → (r ≡ answer (upNumber a given (lent old scratch_room)) (up a)) ×
      (lent new work ≡ leaves r.number n (written (entries (upper (columns a.pattern))) (up a) old) (lent old scratch_room))
      → (r ≡ answer (factor_number (byte engine) a given (lent old scratch_room)) (factoring (byte engine) a))
      × (new ≡ outputs r.number (written (entries (upper (columns a.pattern))) (factoring (byte engine) a) old) old)
  by_up e c = either _ (ne_eqb (byte engine) 1 (λ z. omega (arith, ap byte e, z))) (c.0, out_of _ _ _ _ _ c.1)
