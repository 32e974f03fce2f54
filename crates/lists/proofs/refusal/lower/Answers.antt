-- `lower`: by cases. Assumes nothing.
use Rattle.std.proofs.Common.{arith}
use Rattle.lists.proofs.Refusals.{lower-ok_left, lower-ok_right, lower-first, lower-second}
use Rattle.lists.proofs.refusal.lower.Goals as goal
use Rattle.lists.proofs.refusal.lower.Goals.{in_default-via-in-Err+in_default, in_default-via-in_default}

pub returns-in_default : goal.returns-in_default
returns-in_default c = rw c.and.ensures (elim c.in_default.branch [
  | in_default-via-in-Err+in_default w ↦ lower-ok_right _ _ w.in_default.is-0 w.in_default.is-1
  | in_default-via-in_default w ↦ lower-ok_left _ _ w.in_default.is-0
])

pub returns-then-number : goal.returns-then-number
returns-then-number c = lower-first _ _ c.in-Err-Err.is-0 c.in-Err-Err.is-1 (omega (arith, c.number.ensures, c.number-2.ensures))

pub returns-else-number : goal.returns-else-number
returns-else-number c = lower-second _ _ c.in-Err-Err.is-0 c.in-Err-Err.is-1 (omega (arith, c.number.ensures, c.number-2.ensures))
