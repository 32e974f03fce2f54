-- `count_remaining`: the loop of proofs/Draining.antt. Assumes nothing.
use native.Mathlib.Omega.{arith}
use Rattle.cs_product.proofs.Draining.{counting_start, counting_small, counting_on, counting_off, counting_done}
use Rattle.cs_product.proofs.gather.count_remaining.Goals as goal
use Rattle.cs_product.proofs.gather.count_remaining.Goals.{else-x-r, then-x-r}

pub loop-row-init : goal.loop-row-init
loop-row-init c = counting_start _ _ c.requires

pub overflow_add-count : goal.overflow_add-count
overflow_add-count c = let h = counting_small _ _ c.loop-row.invariant in record { fits = omega arith }

pub loop-row-preserved : goal.loop-row-preserved
loop-row-preserved c = elim c.if-x-r.branch [
  | then-x-r t ↦
      rw t.count-is (counting_on _ _ c.loop-row.invariant c.loop-row-test.true c.wide-r.ensures.0 t.if-x-r.true)
  | else-x-r t ↦
      rw t.count-is (counting_off _ _ c.loop-row.invariant c.loop-row-test.true c.wide-r.ensures.0 t.if-x-r.false)
]

pub returns : goal.returns
returns c = counting_done _ _ c.loop-row.invariant c.loop-row-test.false
