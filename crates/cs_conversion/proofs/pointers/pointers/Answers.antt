-- `pointers` meets its contract. Assumes nothing.
use Rattle.cs_conversion.proofs.Columns.{cleared-zeros}
use Rattle.cs_conversion.proofs.Pointing.{lent_placed, pointers_are}
use Rattle.cs_conversion.proofs.pointers.pointers.Goals as goal

pub starts-requires : goal.starts-requires
starts-requires c = (c.requires.0, lent_placed _ _ c.fill.ensures c.requires.2 c.requires.1, cleared-zeros _ c.fill.ensures c.requires.2)

pub returns : goal.returns
returns c = pointers_are _ _ c.fill.ensures c.requires.2 _ c.starts.auto.p c.starts.ensures
