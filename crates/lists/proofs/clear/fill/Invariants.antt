-- `fill`: the loop of proofs/Clearing.antt. Assumes nothing.
use Rattle.std.proofs.Common.{◌≡◌}
use Rattle.lists.specs.Calls.{cleared}
use Rattle.lists.proofs.clear.fill.Given as goal

abbrev pub invariant-loop-k : goal.invariant-loop-k
invariant-loop-k g l = l.out ≡ cleared l.x l.k l.initial.out
