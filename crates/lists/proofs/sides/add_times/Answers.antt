-- `add_times`: the loop of proofs/Runs.antt. Assumes nothing.
use lib.Ieee.{nan}
use Rattle.lists.proofs.Runs.{zipping_start, zipping_turn, zipping_done}
use Rattle.lists.proofs.sides.add_times.Goals as goal

pub loop-q-init : goal.loop-q-init
loop-q-init c = zipping_start _ c.min-q-end.ensures

pub loop-q-preserved : goal.loop-q-preserved
loop-q-preserved c = zipping_turn _ c.loop-q.invariant nan nan c.loop-q-test.true

pub returns : goal.returns
returns c = zipping_done _ c.loop-q.invariant c.loop-q-test.false
