-- `lower_rows`: two slices side by side, of cs_solve/proofs/Sides.antt. Assumes nothing.
use Rattle.std.proofs.Common.{◌∙◌, arith}
use Rattle.std.proofs.lemmas.Bool.Decides.{nat_tests}
use Rattle.std.proofs.lemmas.Grind.{common_steps}
use Rattle.cs_solve.specs.Solve.{lower_at}
use Rattle.cs_solve.proofs.Sides.{over-cut, left_turn, left_end}
use Rattle.cs_solve.proofs.solve.lower_rows.Goals as goal

pub loop-row-preserved-then-i-b : goal.loop-row-preserved-then-i-b
unfolding lower_at
loop-row-preserved-then-i-b c =
    let e = left_turn (lower_at c.args.j c.args.x) _ _ _ _ c.loop-row.row-iterator c.next.new.self _ _ c.loop-row.invariant c.in-Some.is
    c.next.ensures.steps in
    grind (arith, nat_tests, e)

pub loop-row-preserved : goal.loop-row-preserved
unfolding lower_at
loop-row-preserved c =
    let e = left_turn (lower_at c.args.j c.args.x) _ _ _ _ c.loop-row.row-iterator c.next.new.self _ _ c.loop-row.invariant c.in-Some.is
    c.next.ensures.steps in
    grind (arith, common_steps, nat_tests, e)

pub returns : goal.returns
returns c = left_end (lower_at c.args.j c.args.x) _ _ _ _ c.loop-row.row-iterator c.next.new.self _ c.loop-row.invariant c.in-None.is
    c.next.ensures.steps
    ∙ over-cut (lower_at c.args.j c.args.x) _ _ _ _ c.min-n.ensures
