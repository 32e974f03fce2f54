-- `factor` meets its contract. Assumes nothing.
use Rattle.cs_cholesky.specs.Lent.{square_of}
use Rattle.cs_left.proofs.Turning.{State}
use Rattle.cs_left.proofs.left.factor.Given as goal

abbrev pub invariant-loop-k : goal.invariant-loop-k
invariant-loop-k l = State (square_of l.a) l.given.lp.now l.initial.lx l.next l.lx l.x l.k
