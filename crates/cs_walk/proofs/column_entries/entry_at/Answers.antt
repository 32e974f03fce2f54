-- `entry_at`: an entry is at the position, or nothing is left. Assumes nothing.
use native.Mathlib.Omega.{arith}
use Rattle.cs_walk.proofs.Walking.{there, nothing_left, entry_end, entry_here}
use Rattle.cs_walk.proofs.column_entries.entry_at.Goals as goal

pub returns-else-entry_there : goal.returns-else-entry_there
returns-else-entry_there c = entry_end _ _ _ (nothing_left _ _ _ c.entry_there.ensures c.if-entry_there.false)

pub offset_bounds-i-curr : goal.offset_bounds-i-curr
offset_bounds-i-curr c = omega (arith, there _ _ _ c.entry_there.ensures c.if-entry_there.true)

pub bounds-i-curr : goal.bounds-i-curr
bounds-i-curr c = omega (arith, there _ _ _ c.entry_there.ensures c.if-entry_there.true)

pub offset_bounds-v-curr : goal.offset_bounds-v-curr
offset_bounds-v-curr c = omega (arith, there _ _ _ c.entry_there.ensures c.if-entry_there.true)

pub bounds-v-curr : goal.bounds-v-curr
bounds-v-curr c = omega (arith, there _ _ _ c.entry_there.ensures c.if-entry_there.true)

pub returns-then-entry_there : goal.returns-then-entry_there
returns-then-entry_there c = entry_here _ _ _ (there _ _ _ c.entry_there.ensures c.if-entry_there.true)
