-- `as_given` meets its contract. Assumes nothing.
use mathlib.Core.Path.{◌∙◌}
use native.Mathlib.Omega.{arith}
use Rattle.lists.proofs.Runs.{zipped-values}
use Rattle.cs_conversion.proofs.InOrder.{given-written}
use Rattle.cs_conversion.proofs.ordered.as_given.Goals as goal

pub returns : goal.returns
returns c = given-written _ _ c.pointers.ensures
    (c.copy.ensures ∙ zipped-values _ _ c.requires.2.i_long)
    (c.copy-2.ensures ∙ zipped-values _ _ (omega (arith, c.requires.2.v_long, c.requires.0.v_long)))
