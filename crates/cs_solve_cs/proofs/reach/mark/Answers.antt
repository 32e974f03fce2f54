-- `mark`: the loop of proofs/Marking.antt. Assumes nothing.
use Rattle.cs_solve_cs.proofs.Marking.{marking_set, marking_below, marking_out, marking_end}
use Rattle.cs_solve_cs.proofs.reach.mark.Goals as goal
use Rattle.cs_solve_cs.proofs.reach.mark.Goals.{else-from-r, else-from-r-via-else-from-r, else-from-r-via-then-from-r+else-r-w, then-from-r+then-r-w}

pub loop-row-preserved : goal.loop-row-preserved
loop-row-preserved c = let w = c.loop-row.invariant in let g = c.loop-row-test.true in let e = c.wide-r.ensures.0 in elim c.if-from-r.branch [
  | then-from-r+then-r-w t ↦ rw t.w-is (marking_set w g e t.if-from-r.true)
  | else-from-r u ↦ rw u.w-is (elim u.else-from-r.branch [
    | else-from-r-via-then-from-r+else-r-w s ↦ marking_out w g e s.if-r-w.false
    | else-from-r-via-else-from-r s ↦ marking_below w g e s.if-from-r.false
  ])
]

pub returns : goal.returns
returns c = marking_end c.loop-row.invariant c.loop-row-test.false
