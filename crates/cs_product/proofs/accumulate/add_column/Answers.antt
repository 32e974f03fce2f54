-- `add_column`: the loop of proofs/Meeting.antt. Assumes nothing.
use Rattle.std.proofs.Common.{rules, arith, length-append, refl, sym, ◌∙◌}
use Rattle.std.proofs.lemmas.Slice.Zip.{zip_turn, zip_end}
use lib.Ieee.{nan}
use Rattle.cs_product.proofs.Meeting.{adding_again, adding_new, adding_done, row_below, count-in_met}
use Rattle.cs_product.proofs.accumulate.add_column.Goals as goal

pub bounds-met-many : goal.bounds-met-many
bounds-met-many c =
    let t = zip_turn c.args.rows.now c.args.vals.now _ _ _ c.next.new.self _
    (search rules) (search rules) c.loop-row.yielded_by _ c.in-Some.is c.next.ensures.steps in
    count-in_met c.loop-row.invariant.met_now (row_below _ _ _ _ _ c.loop-row.invariant t.0 (c.wide-r.ensures.0 ∙ t.2 0)) c.if-mark-r.true

pub loop-row-preserved-then-mark-r : goal.loop-row-preserved-then-mark-r
loop-row-preserved-then-mark-r c =
    let t = zip_turn c.args.rows.now c.args.vals.now _ _ _ c.next.new.self _
    (search rules) (search rules) c.loop-row.yielded_by _ c.in-Some.is c.next.ensures.steps in
    rw (length-append, t.3 nan) (adding_new _ _ _ _ _ c.loop-row.invariant t.0 (c.wide-r.ensures.0 ∙ t.2 0) c.if-mark-r.true
    (sym c.wide-r.ensures.0) refl)

pub loop-row-preserved : goal.loop-row-preserved
loop-row-preserved c =
    let t = zip_turn c.args.rows.now c.args.vals.now _ _ _ c.next.new.self _
    (search rules) (search rules) c.loop-row.yielded_by _ c.in-Some.is c.next.ensures.steps in
    rw (length-append, t.3 nan) (adding_again _ _ _ _ _ c.loop-row.invariant t.0 (c.wide-r.ensures.0 ∙ t.2 0) c.if-mark-r.false refl)

pub returns : goal.returns
returns c =
    let n = zip_end c.args.rows.now c.args.vals.now _ _ _ c.next.new.self _
    (search rules) (search rules) c.loop-row.yielded_by c.in-None.is c.next.ensures.steps in
    adding_done _ _ _ _ _ c.loop-row.invariant (omega (arith, c.requires.alike))
