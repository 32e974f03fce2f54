-- `lower`, case by case. Assumes nothing.
use Rattle.std.proofs.Common.{arith}
use Rattle.lists.proofs.Calls.{lower-right, lower-left, lower_least}
use Rattle.lists.proofs.numbers.lower.Goals as goal

pub returns-then-a-eq0 : goal.returns-then-a-eq0
returns-then-a-eq0 c = lower-right _ _ c.if-a-eq0.true

pub returns-then-b-eq0 : goal.returns-then-b-eq0
returns-then-b-eq0 c = lower-left _ _ c.if-a-eq0.false c.if-b-eq0.true

pub returns-then-a-b : goal.returns-then-a-b
returns-then-a-b c = lower_least _ _ _ c.if-a-eq0.false c.if-b-eq0.false (omega arith)

pub returns-else-a-b : goal.returns-else-a-b
returns-else-a-b c = lower_least _ _ _ c.if-a-eq0.false c.if-b-eq0.false (omega arith)
