-- The three calls, one after the other.
use Rattle.std.proofs.Common.{◌∙◌, ap}
use Rattle.little.specs.Little.{bytes}
use Rattle.little.proofs.Putting.{all-put}
use Rattle.root.specs.Root.{root_bits}
use Rattle.root_run.proofs.answer.Goals as goal

pub returns : goal.returns
returns c =
    c.put.ensures
    ∙ all-put 8 _ _ c.requires
    ∙ ap (bytes 8) (c.root_bits.ensures.0 ∙ ap root_bits c.u64_at.ensures)
