-- `factor`: the loop of proofs/Factoring.antt. Assumes nothing.
use Rattle.cs_up.proofs.Factoring.{factoring-start, factoring_stop, factoring_closes, factoring-turn, factoring-end}
use Rattle.cs_up.proofs.up.factor.Goals as goal

pub loop-k-init : goal.loop-k-init
loop-k-init c = factoring-start c.requires

pub returns-then-not-pivot : goal.returns-then-not-pivot
returns-then-not-pivot c = rw c.stopped.ensures (factoring_stop c.loop-k.invariant c.loop-k-test.true c.turn-pivot.ensures c.if-not-pivot.true)

pub close-requires : goal.close-requires
close-requires c = factoring_closes c.loop-k.invariant c.loop-k-test.true c.turn-pivot.ensures c.if-not-pivot.false c.turn-pivot.auto.lx
    c.turn-pivot.auto.next

pub loop-k-preserved : goal.loop-k-preserved
loop-k-preserved c = factoring-turn c.loop-k.invariant c.loop-k-test.true c.turn-pivot.ensures c.if-not-pivot.false c.turn-pivot.auto.lx
    c.turn-pivot.auto.next c.turn-pivot.auto.x c.close.ensures

pub returns : goal.returns
returns c = factoring-end c.loop-k.invariant c.loop-k-test.false
