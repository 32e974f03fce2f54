-- `mark_ends` meets its contract. Assumes nothing.
use Rattle.cs_conversion.proofs.Pointing.{Ending}
use Rattle.cs_conversion.proofs.pointers.mark_ends.Given as goal

abbrev pub invariant-loop-k : goal.invariant-loop-k
invariant-loop-k l = Ending l.cols l.initial.p l.p l.k
