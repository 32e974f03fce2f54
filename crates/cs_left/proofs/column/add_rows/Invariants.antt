-- `add_rows`: the loop of lists/proofs/Entries.antt. Assumes nothing.
use Rattle.lists.specs.Entries.{plus_at}
use Rattle.lists.proofs.Entries.{Passing}
use Rattle.cs_left.proofs.column.add_rows.Given as goal

abbrev pub invariant-loop-q : goal.invariant-loop-q
invariant-loop-q l = Passing (plus_at l.f) l.rows l.vals l.initial.x l.x l.q
