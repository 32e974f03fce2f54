-- `take_run`: the loop of lists/proofs/Runs.antt. Assumes nothing.
use lib.Ieee.{nan}
use Rattle.lists.proofs.Runs.{zipping_start, zipping_turn, zipping_done}
use Rattle.cs_up.proofs.row.take_run.Goals as goal

pub loop-z-init : goal.loop-z-init
loop-z-init c = zipping_start _ c.min-n.ensures

pub loop-z-preserved : goal.loop-z-preserved
loop-z-preserved c = zipping_turn _ c.loop-z.invariant nan nan c.loop-z-test.true

pub returns : goal.returns
returns c = zipping_done _ c.loop-z.invariant c.loop-z-test.false
