-- `times`: the loop of lists/proofs/Mapping.antt. Assumes nothing.
use Rattle.cs_ops.specs.Scale.{times}
use Rattle.lists.proofs.Mapping.{Mapping}
use Rattle.cs_ops.proofs.scale.times.Given as goal

abbrev pub invariant-loop-x : goal.invariant-loop-x
invariant-loop-x l = Mapping (times l.s) l.initial.l l.l l.x-index
