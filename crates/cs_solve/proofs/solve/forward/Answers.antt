-- `forward`: the loop of proofs/Turns.antt. Assumes nothing.
use Rattle.cs_solve.proofs.Turns.{forwarding_start, forwarding_asked, forwarding_turn, forwarding_end}
use Rattle.cs_solve.proofs.solve.forward.Goals as goal

pub loop-j-init : goal.loop-j-init
loop-j-init c = forwarding_start c.requires

pub forward_column-requires : goal.forward_column-requires
forward_column-requires c = forwarding_asked c.loop-j.invariant c.loop-j-test.true c.column-col.ensures

pub loop-j-preserved : goal.loop-j-preserved
loop-j-preserved c = forwarding_turn c.loop-j.invariant c.loop-j-test.true c.column-col.ensures c.value_at-d.ensures c.forward_column.ensures

pub returns : goal.returns
returns c = forwarding_end c.loop-j.invariant c.loop-j-test.false
