-- `records` meets its contract. Assumes nothing.
use Rattle.job_file.specs.Arrays.{arrays}
use lib.ListN.{length}
use Prim.Native.Nat.{◌-◌}
use Rattle.job_file.proofs.Going.{Going}
use Rattle.job_file.proofs.read.records.Given as goal

abbrev pub invariant-loop-at : goal.invariant-loop-at
invariant-loop-at l = Going l.s (arrays l.initial.rows l.initial.columns l.initial.values l.initial.right) l.h l.at
    (arrays l.rows l.columns l.values l.right)

abbrev pub decreases-loop-at : goal.decreases-loop-at
decreases-loop-at l = length l.s - l.at
