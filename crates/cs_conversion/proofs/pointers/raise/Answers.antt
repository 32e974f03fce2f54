-- `raise` meets its contract. Assumes nothing.
use Rattle.std.proofs.Common.{arith}
use Rattle.std.proofs.lemmas.Bool.Decides.{nat_tests}
use Rattle.std.proofs.lemmas.Grind.{common_steps}
use Rattle.cs_conversion.specs.InOrder.{highest}
use Rattle.cs_conversion.proofs.pointers.raise.Goals as goal

pub loop-end-init : goal.loop-end-init
unfolding highest
loop-end-init c = grind (arith, common_steps)

pub loop-end-preserved : goal.loop-end-preserved
unfolding highest
loop-end-preserved c = grind (arith, common_steps, nat_tests)
