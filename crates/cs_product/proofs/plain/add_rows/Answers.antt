-- `add_rows`: the loop of lists/proofs/Entries.antt. Assumes nothing.
use Rattle.std.proofs.Common.{rules, arith, length-append, ◌∙◌}
use Rattle.std.proofs.lemmas.Slice.Zip.{zip_turn, zip_end}
use lib.Ieee.{nan}
use Rattle.lists.proofs.Entries.{passing_end, plus_turn}
use Rattle.cs_product.proofs.plain.add_rows.Goals as goal

pub loop-row-preserved : goal.loop-row-preserved
loop-row-preserved c =
    let t = zip_turn c.args.rows.now c.args.vals.now _ _ _ c.next.new.self _
    (search rules) (search rules) c.loop-row.yielded_by _ c.in-Some.is c.next.ensures.steps in
    rw (length-append, t.3 nan) (plus_turn _ c.loop-row.invariant t.0 (c.wide-r.ensures.0 ∙ t.2 0))

pub returns : goal.returns
returns c =
    let n = zip_end c.args.rows.now c.args.vals.now _ _ _ c.next.new.self _
    (search rules) (search rules) c.loop-row.yielded_by c.in-None.is c.next.ensures.steps in
    passing_end c.loop-row.invariant (omega arith)
