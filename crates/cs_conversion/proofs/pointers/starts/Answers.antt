-- `starts` meets its contract. Assumes nothing.
use Rattle.cs_conversion.proofs.Pointing.{starts_are}
use Rattle.cs_conversion.proofs.pointers.starts.Goals as goal

pub returns : goal.returns
returns c = starts_are c.requires.0 c.mark_ends.ensures c.mark_ends.auto.p c.raise.ensures
