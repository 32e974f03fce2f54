-- `factor` meets its contract. Assumes nothing.
use mathlib.Core.Path.{refl}
use Rattle.cs_left.proofs.Turning.{state_start, state_gathers, state_stop, state_finishes, state_turn, state_end}
use Rattle.cs_left.proofs.left.factor.Goals as goal

pub loop-k-init : goal.loop-k-init
loop-k-init c = state_start _ c.requires

pub gather-pivot-requires : goal.gather-pivot-requires
gather-pivot-requires c = state_gathers c.requires.served c.requires.none_stray refl c.loop-k.invariant c.loop-k-test.true

pub returns-then-not-pivot : goal.returns-then-not-pivot
returns-then-not-pivot c = rw c.stopped.ensures (state_stop c.requires.served c.requires.none_stray refl c.loop-k.invariant c.loop-k-test.true
    c.gather-pivot.auto.x c.gather-pivot.ensures c.if-not-pivot.true)

pub finish-requires : goal.finish-requires
finish-requires c = state_finishes c.requires.served c.requires.none_stray refl c.loop-k.invariant c.loop-k-test.true c.gather-pivot.auto.x
    c.gather-pivot.ensures

pub loop-k-preserved : goal.loop-k-preserved
loop-k-preserved c = state_turn c.requires.served c.requires.none_stray refl c.loop-k.invariant c.loop-k-test.true c.gather-pivot.auto.x
    c.gather-pivot.ensures c.if-not-pivot.false c.root.ensures.0 c.finish.ensures

pub returns : goal.returns
returns c = state_end c.requires.served c.requires.none_stray refl c.loop-k.invariant c.loop-k-test.false
