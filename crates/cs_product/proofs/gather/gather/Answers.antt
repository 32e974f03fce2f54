-- `gather`: the loop of proofs/Draining.antt. Assumes nothing.
use mathlib.Core.Path.{sym}
use native.Mathlib.Omega.{arith}
use Rattle.cs_product.proofs.Draining.{gathering_start, gathering_small, gathering_on, gathering_off, gathering_done}
use Rattle.cs_product.proofs.Draining.{at-in_i, at-in_v}
use Rattle.cs_product.proofs.gather.gather.Goals as goal
use Rattle.cs_product.proofs.gather.gather.Goals.{else-x-r, then-x-r}

pub loop-row-init : goal.loop-row-init
loop-row-init c = gathering_start _ _ _ c.requires

pub offset_bounds-oi-at : goal.offset_bounds-oi-at
offset_bounds-oi-at c = omega (arith, gathering_small _ _ _ c.loop-row.invariant)

pub bounds-oi-at : goal.bounds-oi-at
bounds-oi-at c = at-in_i _ _ _ c.loop-row.invariant c.loop-row-test.true c.wide-r.ensures.0 c.if-x-r.true

pub offset_bounds-ov-at : goal.offset_bounds-ov-at
offset_bounds-ov-at c = omega (arith, gathering_small _ _ _ c.loop-row.invariant)

pub bounds-ov-at : goal.bounds-ov-at
bounds-ov-at c = at-in_v _ _ _ c.loop-row.invariant c.loop-row-test.true c.wide-r.ensures.0 c.if-x-r.true

pub overflow_add-at : goal.overflow_add-at
overflow_add-at c = let h = gathering_small _ _ _ c.loop-row.invariant in record { fits = omega arith }

pub loop-row-preserved : goal.loop-row-preserved
loop-row-preserved c = elim c.if-x-r.branch [
  | then-x-r t ↦
      rw (t.oi-is, t.ov-is, t.at-is) (gathering_on _ _ _ c.loop-row.invariant c.loop-row-test.true c.wide-r.ensures.0 t.if-x-r.true
      (sym c.wide-r.ensures.0))
  | else-x-r t ↦ rw (t.oi-is, t.ov-is, t.at-is)
      (gathering_off _ _ _ c.loop-row.invariant c.loop-row-test.true c.wide-r.ensures.0 t.if-x-r.false)
]

pub returns : goal.returns
returns c = gathering_done _ _ _ c.loop-row.invariant c.loop-row-test.false
