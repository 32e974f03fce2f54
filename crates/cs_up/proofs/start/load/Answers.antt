-- `load`: the loop of proofs/Loading.antt. Assumes nothing.
use Rattle.cs_up.proofs.Loading.{loading_turn, loading_stop, loading_done}
use Rattle.cs_up.proofs.start.load.Goals as goal

pub returns-then-i-k : goal.returns-then-i-k
returns-then-i-k c = loading_stop c.loop-q.invariant c.loop-q-test.true c.wide-i.ensures.0 c.if-i-k.true

pub loop-q-preserved : goal.loop-q-preserved
loop-q-preserved c = loading_turn c.loop-q.invariant c.loop-q-test.true c.wide-i.ensures.0 c.if-i-k.false

pub returns : goal.returns
returns c = loading_done c.loop-q.invariant c.loop-q-test.false
