-- `count`: the loop of proofs/Produced.antt. Assumes nothing.
use native.Mathlib.Omega.{arith}
use Rattle.cs_product.proofs.Produced.{tallying_start, tallying_asks, tallying_small, tallying_turn, tallying_done}
use Rattle.cs_product.proofs.room.count.Goals as goal

pub loop-j-init : goal.loop-j-init
loop-j-init c = tallying_start _ _ c.requires

pub count_column-entries-requires : goal.count_column-entries-requires
count_column-entries-requires c = tallying_asks _ _ c.loop-j.invariant c.loop-j-test.true c.column-col.ensures

pub overflow_add-entries : goal.overflow_add-entries
overflow_add-entries c = let h = tallying_small _ _ c.loop-j.invariant c.loop-j-test.true c.column-col.ensures
    c.count_column-entries.ensures.0 in record { fits = omega arith }

pub loop-j-preserved : goal.loop-j-preserved
loop-j-preserved c = tallying_turn _ _ c.loop-j.invariant c.loop-j-test.true c.column-col.ensures
    c.count_column-entries.ensures.0 c.count_column-entries.ensures.1

pub returns : goal.returns
returns c = tallying_done _ _ c.loop-j.invariant c.loop-j-test.false
