-- `tree_column` meets its contract. Assumes nothing.
use Rattle.cs_tree.proofs.Climbing.{climbing_next, climbing_root, climbing_end, rows-turn, rows-done}
use Rattle.cs_tree.proofs.Past.{rows_past}
use Rattle.std.proofs.Common.{arith}
use Rattle.cs_pattern.proofs.tree.tree_column.Goals as goal
use Rattle.cs_pattern.proofs.tree.tree_column.Goals.{else-climb-test, then-climb-test+then-a}

pub returns-then-i-top : goal.returns-then-i-top
returns-then-i-top c = rows_past c.loop-row.invariant c.requires.1 (omega (arith, c.if-i-top.true, c.wide-i.ensures.0, c.wide-top.ensures.0))

pub climb-preserved : goal.climb-preserved
climb-preserved c = climbing_next c.climb.invariant (omega arith) c.if-a.false c.wide-i-in-climb.ensures.0

pub loop-row-preserved : goal.loop-row-preserved
loop-row-preserved c = rows-turn c.loop-row.invariant c.loop-row-test.true c.wide-i.ensures.0
    (elim c.climb-test.branch [
      | else-climb-test w ↦ rw (w.par-is, w.anc-is) (climbing_end c.climb.invariant (omega arith))
      | then-climb-test+then-a w ↦ rw (w.par-is, w.anc-is) (climbing_root c.climb.invariant (omega arith) w.if-a.true)
    ])

pub returns : goal.returns
returns c = rows-done c.loop-row.invariant c.loop-row-test.false
