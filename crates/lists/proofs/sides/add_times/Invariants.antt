-- `add_times`: the loop of proofs/Runs.antt. Assumes nothing.
use lib.Ieee.{binary64, add, mul}
use Rattle.lists.proofs.Runs.{Zipping}
use Rattle.lists.proofs.sides.add_times.Given as goal

abbrev pub invariant-loop-q : goal.invariant-loop-q
invariant-loop-q l = Zipping (λ a v. add binary64 a (mul binary64 v l.f)) l.vals l.initial.x l.q-end l.x l.q
