-- `elimination_tree` meets its contract. Assumes nothing.
use Rattle.cs_pattern.proofs.Columns.{columns_fit, columns_long, rows-are, rows-rise}
use Rattle.cs_tree.proofs.Growing.{growing_start, growing_asks, growing_turn, growing_done}
use Rattle.cs_pattern.proofs.tree.elimination_tree.Goals as goal

pub loop-k-init : goal.loop-k-init
loop-k-init c = growing_start _ _ _ (columns_fit c.requires.0) (columns_long c.requires.0) c.requires.1 c.requires.2 c.fill.ensures c.fill-2.ensures

pub tree_column-requires : goal.tree_column-requires
tree_column-requires c = (
  growing_asks c.loop-k.invariant (rw (← columns_long c.requires.0) c.loop-k-test.true),
  rows-rise c.requires.0 c.loop-k-test.true c.rows.ensures,
)

pub loop-k-preserved : goal.loop-k-preserved
loop-k-preserved c = growing_turn c.loop-k.invariant (rw (← columns_long c.requires.0) c.loop-k-test.true)
    (rows-are c.requires.0 c.loop-k-test.true c.rows.ensures) c.tree_column.ensures

pub returns : goal.returns
returns c = growing_done c.loop-k.invariant (rw (← columns_long c.requires.0) c.loop-k-test.false)
