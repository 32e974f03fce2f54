-- `gather`: the loop of proofs/Draining.antt. Assumes nothing.
use lib.ListN.{length}
use Rattle.cs_product.proofs.Draining.{Gathering}
use Rattle.cs_product.proofs.gather.gather.Given as goal

abbrev pub invariant-loop-row : goal.invariant-loop-row
invariant-loop-row l = Gathering (length l.initial.x) l.start l.rows l.initial.x l.initial.oi l.initial.ov l.x l.oi l.ov l.at l.row-index
