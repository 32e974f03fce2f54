-- `trace` meets its contract. Assumes nothing.
use Rattle.cs_tree.proofs.Tracing.{tracing_start, trace_room, tracing_turn, trace_seen, trace_over}
use Rattle.std.proofs.Common.{arith}
use Rattle.cs_pattern.proofs.reach.trace.Goals as goal

pub loop-c-init : goal.loop-c-init
loop-c-init c = tracing_start c.requires.1 c.requires.2

pub returns-then-mark-i : goal.returns-then-mark-i
returns-then-mark-i c = trace_seen c.loop-c.invariant c.loop-c-test.true c.wide-i.ensures.0 c.if-mark-i.true

pub bounds-out-len : goal.bounds-out-len
bounds-out-len c = trace_room c.loop-c.invariant c.loop-c-test.true c.wide-i.ensures.0 c.if-mark-i.false

pub loop-c-preserved : goal.loop-c-preserved
loop-c-preserved c = tracing_turn c.loop-c.invariant c.loop-c-test.true c.wide-i.ensures.0 c.if-mark-i.false

pub returns : goal.returns
returns c = trace_over c.loop-c.invariant (omega arith)
