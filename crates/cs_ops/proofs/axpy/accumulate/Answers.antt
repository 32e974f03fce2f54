-- `accumulate`: the loop of proofs/Adding.antt, from y times β. Assumes nothing.
use mathlib.Core.Path.{refl, ◌∙◌}
use lib.Ieee.{nan}
use Rattle.std.proofs.Common.{rules, arith, length-append}
use Rattle.std.proofs.lemmas.Slice.Zip.{zip_turn, zip_end}
use Rattle.cs_ops.proofs.Adding.{added-done, storing_turn}
use Rattle.cs_ops.specs.Axpy.{add_at}
use Rattle.cs_ops.proofs.axpy.accumulate.Goals as goal

pub loop-row-preserved : goal.loop-row-preserved
unfolding add_at
loop-row-preserved c =
    let t = zip_turn c.args.x.i.now c.args.x.v.now _ _ _ c.next.new.self _
    (search rules) (search rules) c.loop-row.yielded_by _ c.in-Some.is c.next.ensures.steps in
    rw (length-append, t.3 nan) (storing_turn _ _ c.loop-row.invariant t.0 (c.wide-at.ensures.0 ∙ t.2 0) _ refl)

pub returns : goal.returns
returns c =
    let n = zip_end c.args.x.i.now c.args.x.v.now _ _ _ c.next.new.self _
    (search rules) (search rules) c.loop-row.yielded_by c.in-None.is c.next.ensures.steps in
    added-done _ _ _ _ c.loop-row.invariant c.times.ensures (omega arith)
