-- `load` meets its contract. Assumes nothing.
use Rattle.lists.proofs.Entries.{Passing}
use Rattle.cs_left.specs.Left.{put_at}
use Rattle.cs_left.proofs.column.load.Given as goal

abbrev pub invariant-loop-q : goal.invariant-loop-q
invariant-loop-q l = Passing (put_at l.k) l.rows l.vals l.initial.x l.x l.q
