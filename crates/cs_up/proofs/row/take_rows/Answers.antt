-- `take_rows`: the loop of lists/proofs/Entries.antt. Assumes nothing.
use Rattle.lists.proofs.Entries.{passing_end}
use Rattle.cs_up.proofs.Taking.{taking_turn}
use Rattle.cs_up.proofs.row.take_rows.Goals as goal

pub loop-q-preserved : goal.loop-q-preserved
loop-q-preserved c = taking_turn _ c.loop-q.invariant c.loop-q-test.true c.wide-r.ensures.0

pub returns : goal.returns
returns c = passing_end c.loop-q.invariant c.loop-q-test.false
