-- `divide` meets its contract. Assumes nothing.
use Rattle.cs_left.proofs.Columns.{dividing_start, dividing_turn, dividing_end}
use Rattle.cs_left.proofs.column.divide.Goals as goal

pub loop-q-init : goal.loop-q-init
loop-q-init c = dividing_start _ c.requires

pub loop-q-preserved : goal.loop-q-preserved
loop-q-preserved c = dividing_turn c.loop-q.invariant c.loop-q-test.true c.wide-z.ensures.0

pub returns : goal.returns
returns c = dividing_end c.loop-q.invariant c.loop-q-test.false
