-- `walk`: the loop of proofs/Merged.antt. Assumes nothing.
use Prim.Native.Nat.{◌+◌, ◌-◌}
use lib.ListN.{length}
use Rattle.cs_sum.proofs.Merged.{Walking}
use Rattle.cs_sum.proofs.merge.walk.Given as goal

abbrev pub invariant-loop-ka : goal.invariant-loop-ka
invariant-loop-ka l = Walking 65535 l.start l.ai l.av l.bi l.bv l.initial.oi l.initial.ov l.oi l.ov l.at l.ka l.kb l.r l.s

abbrev pub decreases-loop-ka : goal.decreases-loop-ka
decreases-loop-ka l = (length l.ai - l.ka) + (length l.bi - l.kb)
