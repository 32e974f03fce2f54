-- `load`: the loop of proofs/Loading.antt. Assumes nothing.
use Rattle.cs_up.proofs.Loading.{Loading}
use Rattle.cs_up.proofs.start.load.Given as goal

abbrev pub invariant-loop-q : goal.invariant-loop-q
invariant-loop-q l = Loading l.k l.rows l.vals l.initial.x l.x l.q
