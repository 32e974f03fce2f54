-- `copy`: the loop of proofs/Runs.antt. Assumes nothing.
use Rattle.lists.proofs.Runs.{Zipping}
use Rattle.lists.proofs.sides.copy.Given as goal

abbrev pub invariant-loop-k : goal.invariant-loop-k
invariant-loop-k g l = Zipping (λ _ v. v) l.from l.initial.out l.n l.out l.k
