-- `meet_rows`: the loop of proofs/Mirroring.antt. Assumes nothing.
use Rattle.cs_left.proofs.Mirroring.{walking_turn}
use Rattle.cs_left.proofs.mirror.meet_rows.Goals as goal

pub loop-q-preserved : goal.loop-q-preserved
loop-q-preserved c = walking_turn c.loop-q.invariant c.loop-q-test.true (rw c.wide.ensures.0 at c.wide-r.ensures.0) c.if-r-c.false
    c.meet.auto.next c.meet.ensures
