-- `lay` meets its contract. Assumes nothing.
use Rattle.cs_tree.proofs.Tracing.{reaching_start, reaching_roomy, reaching_room, reaching_shift, reaching_turn, reaching_done}
use Rattle.cs_tree.proofs.Tracing.{reaching_past}
use Rattle.cs_pattern.proofs.reach.lay.Goals as goal

pub loop-row-init : goal.loop-row-init
loop-row-init c = reaching_start _ _ c.requires.1 c.requires.2 c.requires.3 c.requires.4

pub returns-then-row-k : goal.returns-then-row-k
returns-then-row-k c = reaching_past c.loop-row.invariant c.requires.5 c.if-row-k.true

pub trace-len-requires : goal.trace-len-requires
trace-len-requires c = (c.requires.0, c.loop-row.invariant.asks, reaching_roomy c.loop-row.invariant c.loop-row-test.true)

pub shift-top-requires : goal.shift-top-requires
shift-top-requires c = (
  reaching_room c.loop-row.invariant c.loop-row-test.true c.trace-len.auto.mark c.trace-len.auto.out c.trace-len.ensures,
  reaching_shift c.loop-row.invariant c.loop-row-test.true c.trace-len.auto.mark c.trace-len.auto.out c.trace-len.ensures,
)

pub loop-row-preserved : goal.loop-row-preserved
loop-row-preserved c = reaching_turn c.loop-row.invariant c.loop-row-test.true c.trace-len.auto.mark c.trace-len.auto.out c.trace-len.ensures
    c.shift-top.auto.out c.shift-top.ensures

pub returns : goal.returns
returns c = reaching_done c.loop-row.invariant c.loop-row-test.false
