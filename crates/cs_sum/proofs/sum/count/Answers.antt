-- `count`: the loop of proofs/Summed.antt. Assumes nothing.
use native.Mathlib.Omega.{arith}
use Rattle.cs_sum.proofs.Summed.{tallying_start, tallying_small, tallying_turn, risen}
use Rattle.cs_sum.proofs.sum.count.Goals as goal

pub loop-j-init : goal.loop-j-init
loop-j-init c = tallying_start _ _ c.requires

pub count_rows-places-requires : goal.count_rows-places-requires
count_rows-places-requires c = risen _ _ c.loop-j.invariant.ask c.loop-j-test.true c.column-one.ensures c.column-two.ensures

pub overflow_add-places : goal.overflow_add-places
overflow_add-places c = let h = tallying_small _ _ c.loop-j.invariant c.loop-j-test.true c.column-one.ensures c.column-two.ensures
    c.count_rows-places.ensures in record { fits = omega arith }

pub loop-j-preserved : goal.loop-j-preserved
loop-j-preserved c = tallying_turn _ _ c.loop-j.invariant c.loop-j-test.true c.column-one.ensures c.column-two.ensures c.count_rows-places.ensures
