-- `raise` meets its contract. Assumes nothing.
use Rattle.cs_conversion.proofs.Pointing.{Raising}
use Rattle.cs_conversion.proofs.pointers.raise.Given as goal

abbrev pub invariant-loop-end : goal.invariant-loop-end
invariant-loop-end l = Raising l.initial.p l.p l.high l.end-index
