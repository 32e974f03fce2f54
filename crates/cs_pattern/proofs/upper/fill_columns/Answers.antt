-- `fill_columns` meets its contract. Assumes nothing.
use Rattle.cs_pattern.proofs.Columns.{as_many, columns_long}
use Rattle.cs_tree.proofs.Falling.{falling_start, fall_few, falling_done}
use Rattle.cs_pattern.proofs.Falls.{falls_asks, falls_order, falls-end, falls-last}
use Rattle.cs_pattern.proofs.Falls.{falls-turn}
use Rattle.std.proofs.Common.{arith}
use Rattle.cs_pattern.proofs.upper.fill_columns.Goals as goal

pub bounds-up-n : goal.bounds-up-n
bounds-up-n c = omega (arith, columns_long c.requires.0, c.requires.4.up_room)

pub loop-k-init : goal.loop-k-init
loop-k-init c = falling_start c.requires.1 (columns_long c.requires.0) (as_many c.requires.0 c.requires.2) c.requires.3 c.requires.4

pub lay-low-requires : goal.lay-low-requires
lay-low-requires c = falls_asks c.requires.0 c.requires.1 c.loop-k.invariant c.loop-k-test.true c.rows.ensures (omega arith)

pub offset_bounds-ui-low : goal.offset_bounds-ui-low
offset_bounds-ui-low c = omega (
  arith,
  falls_order c.requires.0 c.requires.1 c.loop-k.invariant c.loop-k-test.true c.rows.ensures (omega arith) c.lay-low.auto.out c.lay-low.ensures,
  fall_few c.requires.1 c.loop-k.invariant (omega (arith, c.requires.4.few, c.requires.4.size)),
)

pub slice_bounds-lower_column-end : goal.slice_bounds-lower_column-end
slice_bounds-lower_column-end c = falls-end c.requires.0 c.requires.1 c.loop-k.invariant c.loop-k-test.true c.rows.ensures (omega arith)
    c.lay-low.auto.out c.lay-low.ensures

pub lower_column-requires : goal.lower_column-requires
lower_column-requires c = falls-last c.requires.0 c.requires.1 c.loop-k.invariant c.loop-k-test.true c.rows.ensures (omega arith)
    c.lay-low.auto.out c.lay-low.ensures

pub overflow_cast-up-in-loop-k : goal.overflow_cast-up-in-loop-k
overflow_cast-up-in-loop-k c = omega (
  arith,
  falls_order c.requires.0 c.requires.1 c.loop-k.invariant c.loop-k-test.true c.rows.ensures (omega arith) c.lay-low.auto.out c.lay-low.ensures,
  fall_few c.requires.1 c.loop-k.invariant (omega (arith, c.requires.4.few, c.requires.4.size)),
)

pub loop-k-preserved : goal.loop-k-preserved
loop-k-preserved c = falls-turn c.requires.0 c.requires.1 c.loop-k.invariant c.loop-k-test.true c.rows.ensures (omega arith)
    c.lay-low.auto.out c.lay-low.ensures c.lay-low.auto.mark c.lower_column.ensures

pub returns : goal.returns
returns c = falling_done c.requires.1 c.args.up.now c.args.t (columns_long c.requires.0) c.loop-k.invariant (omega (arith, c.loop-k-test.false))
