-- `all_below`: every one is looked at, and `bad` tells. Assumes nothing.
use Rattle.std.proofs.Common.{le-ltb, lt-ltb}
use Rattle.lists.proofs.Folds.{telling_start, telling_holds, telling_fails, telling_done}
use Rattle.lists.specs.Order.{all_below}
use Rattle.lists.proofs.order.all_below.Goals as goal
use Rattle.lists.proofs.order.all_below.Goals.{else-x-n, then-x-n}

pub loop-x-init : goal.loop-x-init
loop-x-init c = telling_start _ _

pub loop-x-preserved : goal.loop-x-preserved
loop-x-preserved c = elim c.if-x-n.branch [
  | then-x-n t ↦
      rw t.bad-is (telling_fails _ c.loop-x.invariant c.loop-x-test.true (le-ltb _ _ t.if-x-n.true))
  | else-x-n t ↦
      rw t.bad-is (telling_holds _ c.loop-x.invariant c.loop-x-test.true (lt-ltb _ _ t.if-x-n.false))
]

pub returns : goal.returns
unfolding all_below
returns c = telling_done _ c.loop-x.invariant c.loop-x-test.false
