-- `factor`: the loop of proofs/Factoring.antt. Assumes nothing.
use Rattle.cs_pattern.specs.Lent.{analysis_of}
use Rattle.cs_cholesky.specs.Lent.{square_of}
use Rattle.cs_up.proofs.Factoring.{Factoring}
use Rattle.cs_up.proofs.up.factor.Given as goal

abbrev pub invariant-loop-k : goal.invariant-loop-k
invariant-loop-k l = Factoring (square_of l.a) (analysis_of l.given) l.initial.lx l.initial.next l.initial.x l.lx l.next l.x l.k
