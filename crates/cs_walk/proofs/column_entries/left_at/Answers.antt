-- `left_at`: an entry is at the position, or nothing is left. Assumes nothing.
use native.Mathlib.Omega.{arith}
use Rattle.cs_walk.proofs.Walking.{there, length_here}
use Rattle.cs_walk.proofs.column_entries.left_at.Goals as goal

pub overflow_sub-result : goal.overflow_sub-result
overflow_sub-result c = omega (arith, there _ _ _ c.entry_there.ensures c.if-entry_there.true)

pub returns-then-entry_there : goal.returns-then-entry_there
returns-then-entry_there c = length_here _ _ _ (there _ _ _ c.entry_there.ensures c.if-entry_there.true)
