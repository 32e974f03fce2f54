-- `count_column` meets its contract. Assumes nothing.
use Rattle.cs_tree.proofs.Bumping.{rowing_start, rowing_turn, rowing_done, rowing_past}
use Rattle.cs_pattern.proofs.count.count_column.Goals as goal

pub loop-row-init : goal.loop-row-init
loop-row-init c = (rowing_start _ c.requires.0 c.requires.1 c.requires.3, c.requires.2)

pub returns-then-row-k : goal.returns-then-row-k
returns-then-row-k c = rowing_past c.loop-row.invariant.0 c.requires.4 c.if-row-k.true

pub loop-row-preserved : goal.loop-row-preserved
loop-row-preserved c = (
  rowing_turn c.loop-row.invariant.0 c.loop-row-test.true c.count_walk-count.auto.mark c.count_walk-count.ensures,
  c.loop-row.invariant.1,
)

pub returns : goal.returns
returns c = rowing_done c.loop-row.invariant.0 c.loop-row-test.false
