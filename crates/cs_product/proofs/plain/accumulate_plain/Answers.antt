-- `accumulate_plain`: the loop of proofs/Adding.antt. Assumes nothing.
use Rattle.std.proofs.Common.{rules, arith, length-append, ◌∙◌}
use Rattle.std.proofs.lemmas.Slice.Zip.{zip_turn, zip_end}
use lib.Ieee.{nan}
use Rattle.cs_product.proofs.Adding.{up_asks, up_turn, up_done, col_below}
use Rattle.cs_product.proofs.plain.accumulate_plain.Goals as goal

pub add_plain-requires : goal.add_plain-requires
add_plain-requires c =
    let t = zip_turn c.args.rows.now c.args.vals.now _ _ _ c.next.new.self _
    (search rules) (search rules) c.loop-col.yielded_by _ c.in-Some.is c.next.ensures.steps in
    up_asks _ _ _ c.loop-col.invariant t.0 (c.wide-c.ensures.0 ∙ t.2 0) c.column-part.ensures

pub loop-col-preserved : goal.loop-col-preserved
loop-col-preserved c =
    let t = zip_turn c.args.rows.now c.args.vals.now _ _ _ c.next.new.self _
    (search rules) (search rules) c.loop-col.yielded_by _ c.in-Some.is c.next.ensures.steps in
    let e = c.add_plain.ensures in
    rw length-append (up_turn _ _ _ c.loop-col.invariant t.0 (c.wide-c.ensures.0 ∙ t.2 0)
    c.column-part.ensures (rw (t.3 nan) at e) c.add_plain.auto.x)

pub returns : goal.returns
returns c =
    let n = zip_end c.args.rows.now c.args.vals.now _ _ _ c.next.new.self _
    (search rules) (search rules) c.loop-col.yielded_by c.in-None.is c.next.ensures.steps in
    up_done _ _ _ c.loop-col.invariant (omega (arith, c.requires.alike))
