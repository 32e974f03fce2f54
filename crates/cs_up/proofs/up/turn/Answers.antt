-- `turn`: a column's steps, by the laws of proofs/Turning.antt. Assumes nothing.
use Rattle.cs_up.proofs.Turning.{stored_i, stored_v, upper_u, column_loads, column-rows, column-gone}
use Rattle.cs_up.proofs.up.turn.Goals as goal

pub column-requires : goal.column-requires
column-requires c = stored_i c.requires.ready c.requires.here

pub column-requires-2 : goal.column-requires-2
column-requires-2 c = stored_v c.requires.ready c.requires.here

pub column-requires-3 : goal.column-requires-3
column-requires-3 c = upper_u c.requires.ready c.requires.here

pub start-first-requires : goal.start-first-requires
start-first-requires c = column_loads c.requires.ready c.requires.here c.column.ensures c.column-2.ensures

pub rows_at-requires : goal.rows_at-requires
rows_at-requires c = column-rows c.requires.ready c.requires.here c.column.ensures c.column-2.ensures c.start-first.ensures c.column-3.ensures
    c.requires.stands

pub returns : goal.returns
returns c = column-gone c.requires.ready c.requires.here c.column.ensures c.column-2.ensures c.start-first.ensures c.column-3.ensures
    c.rows_at.ensures
