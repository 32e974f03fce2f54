-- `bound`: the loop of proofs/Produced.antt. Assumes nothing.
use Rattle.cs_product.proofs.Produced.{bounding_start, bounding_asks, bounding_turn, bounding_done}
use Rattle.cs_product.proofs.room.bound.Goals as goal

pub loop-j-init : goal.loop-j-init
loop-j-init c = bounding_start _ _ c.requires

pub span_of-span-requires : goal.span_of-span-requires
span_of-span-requires c = bounding_asks _ _ c.loop-j.invariant c.loop-j-test.true c.column-col.ensures

pub loop-j-preserved : goal.loop-j-preserved
loop-j-preserved c = bounding_turn _ _ c.loop-j.invariant c.loop-j-test.true c.column-col.ensures c.span_of-span.ensures
    c.min-most.ensures

pub returns : goal.returns
returns c = bounding_done _ _ c.loop-j.invariant c.loop-j-test.false
