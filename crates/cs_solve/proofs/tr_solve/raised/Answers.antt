-- `raised`: two slices side by side, of cs_solve/proofs/Sides.antt. Assumes nothing.
use Rattle.std.proofs.Common.{sym, ap, arith, ◌∙◌}
use Rattle.std.proofs.lemmas.Bool.Decides.{nat_tests}
use Rattle.lists.specs.Folds.{over}
use Rattle.cs_solve.specs.TrSolve.{raise_at}
use Rattle.cs_solve.proofs.Sides.{left_turn, left_end}
use Rattle.cs_solve.proofs.Steps.{raise_set}
use Rattle.cs_solve.proofs.tr_solve.raised.Goals as goal

pub loop-row-preserved-then-j-i : goal.loop-row-preserved-then-j-i
loop-row-preserved-then-j-i c =
    let e = left_turn (raise_at c.args.j) _ _ _ _ c.loop-row.row-iterator c.next.new.self _ _ c.loop-row.invariant c.in-Some.is
    c.next.ensures.steps in
    rw c.wide-i.ensures.0 (e ∙ ap (over (raise_at c.args.j) _ _) (sym (raise_set _ _ _ _ _ c.requires.here (omega arith))))

pub loop-row-preserved : goal.loop-row-preserved
unfolding raise_at
loop-row-preserved c =
    let e = left_turn (raise_at c.args.j) _ _ _ _ c.loop-row.row-iterator c.next.new.self _ _ c.loop-row.invariant c.in-Some.is
    c.next.ensures.steps in
    grind (arith, nat_tests, e)

pub returns : goal.returns
returns c = left_end (raise_at c.args.j) _ _ _ _ c.loop-row.row-iterator c.next.new.self _ c.loop-row.invariant c.in-None.is c.next.ensures.steps
