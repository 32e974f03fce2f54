-- `take_rows`: the loop of lists/proofs/Entries.antt. Assumes nothing.
use Rattle.lists.proofs.Entries.{Passing}
use Rattle.cs_up.specs.Steps.{take_at}
use Rattle.cs_up.proofs.row.take_rows.Given as goal

abbrev pub invariant-loop-q : goal.invariant-loop-q
invariant-loop-q l = Passing (take_at l.t) l.rows l.vals l.initial.x l.x l.q
