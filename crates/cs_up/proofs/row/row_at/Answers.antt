-- `row_at`: the step of proofs/Rowing.antt. Assumes nothing.
use Rattle.cs_up.proofs.Rowing.{reads-takes}
use Rattle.cs_up.proofs.row.row_at.Goals as goal

pub take_column-requires : goal.take_column-requires
take_column-requires c = reads-takes c.requires _
