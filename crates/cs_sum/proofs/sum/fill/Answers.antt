-- `fill`: the loop of proofs/Summed.antt. Assumes nothing.
use native.Mathlib.Omega.{arith}
use Rattle.cs_sum.proofs.Summed.{writing_start, writing_small, writing_asks, writing_turn}
use Rattle.cs_sum.proofs.Summed.{writing_done}
use Rattle.cs_sum.proofs.sum.fill.Goals as goal

pub loop-j-init : goal.loop-j-init
loop-j-init c = writing_start _ _ c.requires

pub overflow_cast-op : goal.overflow_cast-op
overflow_cast-op c = omega (arith, writing_small _ _ c.loop-j.invariant)

pub merge-at-requires : goal.merge-at-requires
merge-at-requires c = writing_asks _ _ c.loop-j.invariant c.loop-j-test.true c.column-one.ensures c.column-two.ensures

pub loop-j-preserved : goal.loop-j-preserved
loop-j-preserved c = writing_turn _ _ c.loop-j.invariant c.loop-j-test.true c.column-one.ensures c.column-two.ensures
    c.merge-at.ensures.0 c.merge-at.ensures.1 c.merge-at.ensures.2

pub returns : goal.returns
returns c = writing_done _ _ c.loop-j.invariant c.loop-j-test.false
