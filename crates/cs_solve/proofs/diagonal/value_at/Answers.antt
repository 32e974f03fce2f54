-- `value_at`: what is left of the rows and values has the value that all of them have. Assumes nothing.
use Rattle.std.proofs.Common.{arith, sym, ◌∙◌}
use Rattle.std.proofs.lemmas.Bool.Decides.{nat_tests}
use Rattle.std.proofs.lemmas.Slice.Zip.{Zip-more, either_empty_from_Zip}
use Rattle.cs_matrix.specs.Matrix.{value_at}
use Rattle.cs_solve.proofs.Sides.{value_at_ended}
use Rattle.cs_solve.proofs.diagonal.value_at.Goals as goal

pub returns-then-wide-j : goal.returns-then-wide-j
unfolding value_at
returns-then-wide-j c =
    let m = Zip-more c.loop-row.row-iterator c.next.new.self _ _ c.in-Some.is c.next.ensures.steps in
    let e = rw (m.0, m.1) at c.loop-row.invariant in
    grind (arith, nat_tests, e)

pub loop-row-preserved : goal.loop-row-preserved
unfolding value_at
loop-row-preserved c =
    let m = Zip-more c.loop-row.row-iterator c.next.new.self _ _ c.in-Some.is c.next.ensures.steps in
    let e = rw (m.0, m.1) at c.loop-row.invariant in
    grind (arith, nat_tests, e)

pub returns : goal.returns
returns c =
    let h = either_empty_from_Zip c.loop-row.row-iterator c.next.new.self _ c.in-None.is c.next.ensures.steps in
    sym (c.loop-row.invariant ∙ value_at_ended _ _ _ h)
