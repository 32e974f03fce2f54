-- `fill`: the loop of proofs/Clearing.antt. Assumes nothing.
use Rattle.std.proofs.Common.{arith, refl}
use Rattle.lists.specs.Calls.{cleared}
use Rattle.lists.proofs.Clearing.{clearing_turn, clearing_done}
use Rattle.lists.proofs.clear.fill.Goals as goal

pub loop-k-init : goal.loop-k-init
unfolding cleared
loop-k-init g c = refl

pub loop-k-preserved : goal.loop-k-preserved
loop-k-preserved g c = clearing_turn _ _ c.loop-k.invariant (omega (arith, c.min-k-end.ensures))

pub returns : goal.returns
returns g c = clearing_done _ _ _ c.loop-k.invariant (omega (arith, c.min-k-end.ensures)) (omega (arith, c.min-k-end.ensures))
