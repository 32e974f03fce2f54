-- `curr_after`: an entry is at the position, or nothing is left. Assumes nothing.
use native.Mathlib.Omega.{arith}
use Rattle.cs_walk.proofs.Walking.{there, nothing_left, after-end, after_here}
use Rattle.cs_walk.proofs.column_entries.curr_after.Goals as goal

pub returns-else-entry_there : goal.returns-else-entry_there
returns-else-entry_there c = after-end _ _ _ (nothing_left _ _ _ c.entry_there.ensures c.if-entry_there.false)

pub overflow_add-result : goal.overflow_add-result
overflow_add-result c = omega (arith, there _ _ _ c.entry_there.ensures c.if-entry_there.true)

pub returns-then-entry_there : goal.returns-then-entry_there
returns-then-entry_there c = after_here _ _ _ (there _ _ _ c.entry_there.ensures c.if-entry_there.true)
