-- `look_column` meets its contract. Assumes nothing.
use Rattle.cs_pattern.proofs.Finding.{looked_past, looked_differs}
use Rattle.cs_tree.proofs.Spreading.{going_same}
use Rattle.cs_tree.proofs.Looking.{looking_turn}
use Rattle.std.proofs.Common.{sym, true≢false}
use Rattle.cs_pattern.proofs.look.look_column.Goals as goal
use Rattle.cs_pattern.proofs.look.look_column.Goals.{then-t-li-via-then-t-li, then-t-li-via-else-t-li+then-li-t}

pub returns-then-t-li : goal.returns-then-t-li
returns-then-t-li c = (
  λ z. absurd (true≢false (sym z)),
  elim c.then-t-li.branch [
    | then-t-li-via-then-t-li w ↦ looked_past c.loop-row.invariant.1 c.loop-row-test.true c.wide-j.ensures.0 c.wide-t.ensures.0 w.if-t-li.true
    | then-t-li-via-else-t-li+then-li-t w ↦
        looked_differs c.loop-row.invariant.1 c.loop-row-test.true c.wide-j.ensures.0 c.wide-t.ensures.0 w.if-li-t.true
  ],
)

pub loop-row-preserved : goal.loop-row-preserved
loop-row-preserved c = (
  looking_turn c.loop-row.invariant.0 c.loop-row-test.true c.wide-j.ensures.0 c.wide-t.ensures.0 c.if-li-t.false,
  going_same c.loop-row.invariant.1 c.loop-row-test.true c.wide-j.ensures.0 c.wide-t.ensures.0 c.if-li-t.false,
)
