-- `count_rows`: the loop of proofs/Merged.antt. Assumes nothing.
use Prim.Native.Nat.{◌+◌, ◌-◌}
use lib.ListN.{length}
use Rattle.cs_sum.proofs.Merged.{Counting}
use Rattle.cs_sum.proofs.merge.count_rows.Given as goal

abbrev pub invariant-loop-ka : goal.invariant-loop-ka
invariant-loop-ka l = Counting 65535 l.ai l.bi l.count l.ka l.kb

abbrev pub decreases-loop-ka : goal.decreases-loop-ka
decreases-loop-ka l = (length l.ai - l.ka) + (length l.bi - l.kb)
