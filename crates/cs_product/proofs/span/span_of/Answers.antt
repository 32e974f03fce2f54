-- `span_of`: the loop of proofs/Spanning.antt. Assumes nothing.
use Rattle.cs_product.proofs.Spanning.{spanning_done, spanning_on, spanning_off, first-in, last-in}
use Rattle.cs_product.proofs.span.span_of.Goals as goal
use Rattle.cs_product.proofs.span.span_of.Goals.{else-start-end, then-start-end}

pub bounds-i-start : goal.bounds-i-start
bounds-i-start c = first-in _ _ c.loop-col.invariant c.loop-col-test.true c.wide-c.ensures.0 c.wide-start.ensures.0 c.wide-end.ensures.0
    c.if-start-end.true

pub bounds-i-end : goal.bounds-i-end
bounds-i-end c = last-in _ _ c.loop-col.invariant c.loop-col-test.true c.wide-c.ensures.0 c.wide-start.ensures.0 c.wide-end.ensures.0
    c.if-start-end.true

pub loop-col-preserved : goal.loop-col-preserved
loop-col-preserved c =
    let v = c.loop-col.invariant in
    let h = c.loop-col-test.true in
    elim c.if-start-end.branch [
      | then-start-end t ↦ rw (t.lo-is, t.hi-is, t.work-is) (spanning_on _ _ v h c.wide-c.ensures.0 c.wide-start.ensures.0
          c.wide-end.ensures.0 t.if-start-end.true t.wide.ensures.0 t.wide-then-start-end.ensures.0 t.min-lo.ensures t.max-hi.ensures)
      | else-start-end t ↦
          rw (t.lo-is, t.hi-is, t.work-is) (spanning_off _ _ v h c.wide-c.ensures.0 c.wide-start.ensures.0 c.wide-end.ensures.0 t.if-start-end.false)
    ]

pub returns : goal.returns
returns c = spanning_done _ _ c.loop-col.invariant c.loop-col-test.false c.min.ensures
