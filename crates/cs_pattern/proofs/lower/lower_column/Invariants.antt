-- `lower_column` meets its contract. Assumes nothing.
use Rattle.cs_tree.proofs.Falling.{Putting}
use Rattle.std.proofs.Common.{◌≡◌, ◌≤◌, length, take}
use Rattle.cs_pattern.proofs.lower.lower_column.Given as goal

-- the rows that are left, and those behind them put
abbrev pub invariant-loop-row : goal.invariant-loop-row
invariant-loop-row l =
    let rest = l.row-iterator.iter.rest.now in
    (rest ≡ take (length rest) l.rows) × (length rest ≤ length l.rows) ×
    Putting l.k l.rows l.initial.next l.initial.li l.next l.li (length rest)
