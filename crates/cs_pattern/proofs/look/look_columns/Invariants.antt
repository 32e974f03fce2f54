-- `look_columns` meets its contract. Assumes nothing.
use Rattle.cs_tree.proofs.Spreading.{Columns}
use Rattle.cs_tree.proofs.Looking.{Seen}
use Rattle.std.proofs.Common.{◌≡◌, length}
use Rattle.cs_pattern.proofs.look.look_columns.Given as goal

abbrev pub invariant-loop-k : goal.invariant-loop-k
invariant-loop-k l = (length l.next ≡ l.n) × Seen l.n l.up l.ui l.li l.initial.next l.next l.k ×
    Columns l.n l.up l.ui l.initial.next l.li l.next l.li l.k
