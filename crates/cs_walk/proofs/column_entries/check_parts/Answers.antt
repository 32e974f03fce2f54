-- `check_parts`: each branch's test says whether the lengths are equal. Assumes nothing.
use Rattle.std.proofs.Common.{arith}
use Rattle.cs_walk.proofs.Walking.{checked-same, checked-differs}
use Rattle.cs_walk.proofs.column_entries.check_parts.Goals as goal

pub returns-then-i-v : goal.returns-then-i-v
returns-then-i-v c = checked-differs _ _ (λ e. omega (arith, e, c.if-i-v.true))

pub returns : goal.returns
returns c = checked-same _ _ (omega (arith, c.if-i-v.false))
