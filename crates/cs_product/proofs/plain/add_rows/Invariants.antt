-- `add_rows`: the loop of lists/proofs/Entries.antt. Assumes nothing.
use lib.ListN.{length}
use Rattle.lists.specs.Entries.{plus_at}
use Rattle.lists.proofs.Entries.{Passing}
use Rattle.cs_product.proofs.plain.add_rows.Given as goal

abbrev pub invariant-loop-row : goal.invariant-loop-row
invariant-loop-row l = Passing (plus_at l.beta) l.rows l.vals l.initial.x l.x (length l.yielded)
