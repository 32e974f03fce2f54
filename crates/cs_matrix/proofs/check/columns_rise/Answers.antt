-- `columns_rise`: the two counts of proofs/Falling.antt. Assumes nothing.
use Rattle.cs_matrix.proofs.Falling.{rise_count}
use Rattle.cs_matrix.proofs.check.columns_rise.Goals as goal

pub returns : goal.returns
returns c = rw (c.falls.ensures, c.starts_fallen.ensures) (rise_count c.requires _)
