-- `put`: two slices side by side, of cs_solve/proofs/Sides.antt. Assumes nothing.
use Rattle.std.proofs.Common.{arith}
use Rattle.std.proofs.lemmas.Grind.{common_steps}
use Rattle.cs_solve_cs.specs.SolveCs.{put_at}
use Rattle.cs_solve.proofs.Sides.{left_turn, left_end}
use Rattle.cs_solve_cs.proofs.steps.put.Goals as goal

pub loop-row-preserved-then-r-x : goal.loop-row-preserved-then-r-x
loop-row-preserved-then-r-x c =
    let e = left_turn put_at _ _ _ _ c.loop-row.row-iterator c.next.new.self _ _ c.loop-row.invariant c.in-Some.is c.next.ensures.steps in
    grind (arith, e)

pub loop-row-preserved : goal.loop-row-preserved
loop-row-preserved c =
    let e = left_turn put_at _ _ _ _ c.loop-row.row-iterator c.next.new.self _ _ c.loop-row.invariant c.in-Some.is c.next.ensures.steps in
    grind (arith, common_steps, e)

pub returns : goal.returns
returns c = left_end put_at _ _ _ _ c.loop-row.row-iterator c.next.new.self _ c.loop-row.invariant c.in-None.is c.next.ensures.steps
