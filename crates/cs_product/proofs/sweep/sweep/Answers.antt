-- `sweep`: the loop of proofs/Sweeping.antt. Assumes nothing.
use native.Mathlib.Omega.{arith}
use Rattle.cs_product.proofs.Sweeping.{sweeping_start, sweeping_small, sweeping_on, sweeping_off, sweeping_done, at-in_i}
use Rattle.cs_product.proofs.Sweeping.{at-in_v}
use Rattle.cs_product.proofs.sweep.sweep.Goals as goal
use Rattle.cs_product.proofs.sweep.sweep.Goals.{else-x-r, then-x-r}

pub loop-r-init : goal.loop-r-init
loop-r-init c = sweeping_start _ _ _ _ c.requires

pub offset_bounds-oi-at : goal.offset_bounds-oi-at
offset_bounds-oi-at c = omega (arith, sweeping_small _ _ _ _ c.loop-r.invariant)

pub bounds-oi-at : goal.bounds-oi-at
bounds-oi-at c = at-in_i _ _ _ _ c.loop-r.invariant c.loop-r-test.true c.if-x-r.true

pub offset_bounds-ov-at : goal.offset_bounds-ov-at
offset_bounds-ov-at c = omega (arith, sweeping_small _ _ _ _ c.loop-r.invariant)

pub bounds-ov-at : goal.bounds-ov-at
bounds-ov-at c = at-in_v _ _ _ _ c.loop-r.invariant c.loop-r-test.true c.if-x-r.true

pub overflow_add-at : goal.overflow_add-at
overflow_add-at c = let h = sweeping_small _ _ _ _ c.loop-r.invariant in record { fits = omega arith }

pub loop-r-preserved : goal.loop-r-preserved
loop-r-preserved c = elim c.if-x-r.branch [
  | then-x-r t ↦
      rw (t.oi-is, t.ov-is, t.at-is) (sweeping_on _ _ _ _ c.loop-r.invariant c.loop-r-test.true t.if-x-r.true)
  | else-x-r t ↦
      rw (t.oi-is, t.ov-is, t.at-is) (sweeping_off _ _ _ _ c.loop-r.invariant c.loop-r-test.true t.if-x-r.false)
]

pub returns : goal.returns
returns c = sweeping_done _ _ _ _ c.loop-r.invariant c.loop-r-test.false
