-- `accumulate`: the loop of proofs/Meeting.antt. Assumes nothing.
use Rattle.std.proofs.Common.{rules, arith, length-append, ◌∙◌}
use Rattle.std.proofs.lemmas.Slice.Zip.{zip_turn, zip_end}
use lib.Ieee.{nan}
use Rattle.cs_product.proofs.Meeting.{accumulating_start, accumulating_asks, accumulating_turn, accumulating_done, col_below}
use Rattle.cs_product.proofs.accumulate.accumulate.Goals as goal

pub loop-col-init : goal.loop-col-init
loop-col-init c = accumulating_start _ _ _ _ c.requires

pub add_column-many-requires : goal.add_column-many-requires
add_column-many-requires c =
    let t = zip_turn c.args.rows.now c.args.vals.now _ _ _ c.next.new.self _
    (search rules) (search rules) c.loop-col.yielded_by _ c.in-Some.is c.next.ensures.steps in
    accumulating_asks _ _ _ _ c.loop-col.invariant t.0 (c.wide-c.ensures.0 ∙ t.2 0) c.column-part.ensures

pub loop-col-preserved : goal.loop-col-preserved
loop-col-preserved c =
    let t = zip_turn c.args.rows.now c.args.vals.now _ _ _ c.next.new.self _
    (search rules) (search rules) c.loop-col.yielded_by _ c.in-Some.is c.next.ensures.steps in
    let e = c.add_column-many.ensures.0 in
    rw length-append (accumulating_turn _ _ _ _ c.loop-col.invariant t.0 (c.wide-c.ensures.0 ∙ t.2 0)
    c.column-part.ensures (rw (t.3 nan) at e) c.add_column-many.ensures.1)

pub returns : goal.returns
returns c =
    let n = zip_end c.args.rows.now c.args.vals.now _ _ _ c.next.new.self _
    (search rules) (search rules) c.loop-col.yielded_by c.in-None.is c.next.ensures.steps in
    accumulating_done _ _ _ _ c.loop-col.invariant (omega (arith, c.requires.alike))
