-- `in_order` meets its contract. Assumes nothing.
use Rattle.cs_conversion.proofs.InOrder.{watching_falls, watching_turn, watching_done}
use Rattle.cs_conversion.proofs.ordered.in_order.Goals as goal
use Rattle.cs_conversion.proofs.ordered.in_order.Goals.{else-cols-k, then-cols-k}

pub loop-k-preserved : goal.loop-k-preserved
loop-k-preserved c = elim c.if-cols-k.branch [
  | then-cols-k t ↦ rw t.bad-is (watching_falls c.loop-k.invariant c.loop-k-test.true)
  | else-cols-k t ↦
      rw t.bad-is (watching_turn c.loop-k.invariant c.loop-k-test.true t.if-cols-k.false)
]

pub returns : goal.returns
returns c = λ e. watching_done c.loop-k.invariant c.loop-k-test.false e
