-- `fill`: the loop of proofs/Produced.antt. Assumes nothing.
use native.Mathlib.Omega.{arith}
use Rattle.cs_product.proofs.Produced.{writing_start, writing_small}
use Rattle.cs_product.proofs.Produced.{writing_asks, writing_turn, writing_done}
use Rattle.cs_product.proofs.product.fill.Goals as goal

pub loop-j-init : goal.loop-j-init
loop-j-init c = writing_start _ _ c.requires

pub overflow_cast-op : goal.overflow_cast-op
overflow_cast-op c = omega (arith, writing_small _ _ c.loop-j.invariant)

pub write_column-at-requires : goal.write_column-at-requires
write_column-at-requires c = writing_asks _ _ c.loop-j.invariant c.loop-j-test.true c.column-col.ensures

pub loop-j-preserved : goal.loop-j-preserved
loop-j-preserved c = writing_turn _ _ c.loop-j.invariant c.loop-j-test.true c.column-col.ensures
    c.write_column-at.auto.spare c.write_column-at.ensures.0 c.write_column-at.ensures.1 c.write_column-at.ensures.2 c.write_column-at.ensures.3

pub returns : goal.returns
returns c = writing_done _ _ c.loop-j.invariant c.loop-j-test.false
