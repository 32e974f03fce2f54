-- `count_remaining`: the loop of proofs/Draining.antt. Assumes nothing.
use lib.ListN.{length}
use Rattle.cs_product.proofs.Draining.{Counting}
use Rattle.cs_product.proofs.gather.count_remaining.Given as goal

abbrev pub invariant-loop-row : goal.invariant-loop-row
invariant-loop-row l = Counting (length l.initial.x) l.rows l.initial.x l.x l.count l.row-index
