-- `put` meets its contract. Assumes nothing.
use native.Mathlib.Omega.{arith}
use Rattle.little.proofs.Putting.{putting_start, putting_turn, putting_done}
use Rattle.little.proofs.put.Goals as goal

pub loop-i-init : goal.loop-i-init
loop-i-init c = putting_start _ _ _ _

pub loop-i-preserved : goal.loop-i-preserved
loop-i-preserved c = putting_turn c.loop-i.invariant (omega arith)

pub returns : goal.returns
returns c = putting_done c.loop-i.invariant (omega arith)
