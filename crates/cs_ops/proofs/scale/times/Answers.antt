-- `times`: the loop of lists/proofs/Mapping.antt. Assumes nothing.
use mathlib.Core.Path.{refl}
use native.Mathlib.Omega.{arith}
use lib.Ieee.{nan}
use Rattle.cs_ops.specs.Scale.{times, scaled}
use Rattle.lists.proofs.Mapping.{mapping_turn, mapping_done}
use Rattle.cs_ops.proofs.scale.times.Goals as goal

pub loop-x-preserved : goal.loop-x-preserved
unfolding times
loop-x-preserved c = mapping_turn _ c.loop-x.invariant nan (omega (arith, c.loop-x.auto.l)) refl

pub returns : goal.returns
unfolding scaled
returns c = mapping_done _ c.loop-x.invariant (omega (arith, c.loop-x.auto.l))
