-- `lower_run`: the loop of lists/proofs/Runs.antt. Assumes nothing.
use lib.Ieee.{nan}
use Rattle.lists.proofs.Runs.{zipping_start, zipping_turn, zipping_done}
use Rattle.cs_solve.proofs.solve.lower_run.Goals as goal

pub loop-k-init : goal.loop-k-init
loop-k-init c = zipping_start _ c.min-k-end.ensures

pub loop-k-preserved : goal.loop-k-preserved
loop-k-preserved c = zipping_turn _ c.loop-k.invariant nan nan c.loop-k-test.true

pub returns : goal.returns
returns c = zipping_done _ c.loop-k.invariant c.loop-k-test.false
