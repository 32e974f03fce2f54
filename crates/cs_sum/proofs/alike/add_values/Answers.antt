-- `add_values`: the loop of proofs/Equal.antt. Assumes nothing.
use Rattle.cs_sum.proofs.Equal.{adding_start, adding_turn, adding_done}
use Rattle.cs_sum.proofs.alike.add_values.Goals as goal

pub loop-k-init : goal.loop-k-init
loop-k-init c = adding_start c.requires

pub loop-k-preserved : goal.loop-k-preserved
loop-k-preserved c = adding_turn c.loop-k.invariant c.loop-k-test.true

pub returns : goal.returns
returns c = adding_done c.loop-k.invariant c.loop-k-test.false
