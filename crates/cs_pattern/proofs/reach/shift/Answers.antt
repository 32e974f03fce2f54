-- `shift` meets its contract. Assumes nothing.
use Rattle.std.proofs.Common.{refl, arith}
use Rattle.cs_tree.proofs.Tracing.{shifting_start, shift_from, shift_to, shifting_turn, shifting_done, shift_none}
use Rattle.cs_pattern.proofs.reach.shift.Goals as goal

pub overflow_sub-low : goal.overflow_sub-low
overflow_sub-low c = c.requires.0

pub returns-then-low-eq0 : goal.returns-then-low-eq0
returns-then-low-eq0 c = shift_none _ refl c.requires.0 c.if-low-eq0.true

pub loop-t-init : goal.loop-t-init
loop-t-init c = shifting_start refl c.requires.0 c.requires.1

pub bounds-out-t : goal.bounds-out-t
bounds-out-t c = shift_from c.loop-t.invariant c.loop-t-test.true

pub bounds-out-low : goal.bounds-out-low
bounds-out-low c = shift_to c.loop-t.invariant c.loop-t-test.true

pub loop-t-preserved : goal.loop-t-preserved
loop-t-preserved c = shifting_turn c.loop-t.invariant c.loop-t-test.true

pub returns : goal.returns
returns c = (c.loop-t.invariant.ends, shifting_done c.loop-t.invariant (omega arith))
