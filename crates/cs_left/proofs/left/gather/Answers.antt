-- `gather` meets its contract. Assumes nothing.
use Rattle.cs_left.proofs.Within.{gather_loads, gather_adds, gathered}
use Rattle.cs_left.proofs.left.gather.Goals as goal

pub load-requires : goal.load-requires
load-requires c = gather_loads c.requires c.column.ensures c.column-2.ensures

pub add_columns-requires : goal.add_columns-requires
add_columns-requires c = gather_adds c.requires c.column-3.ensures c.load.auto.x

pub returns : goal.returns
returns c = gathered c.requires c.column.ensures c.column-2.ensures c.column-3.ensures _ _ c.load.ensures c.add_columns.ensures
