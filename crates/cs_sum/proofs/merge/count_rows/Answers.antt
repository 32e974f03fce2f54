-- `count_rows`: the loop of proofs/Merged.antt. Assumes nothing.
use mathlib.Core.Logic.{inl, inr}
use native.Mathlib.Omega.{arith}
use Rattle.cs_sum.proofs.Merged.{counting_start, counting_small, counting_first, counting_second, counting_both, counting_done}
use Rattle.cs_sum.proofs.merge.count_rows.Goals as goal
use Rattle.cs_sum.proofs.merge.count_rows.Goals.{then-ka-ai, else-ka-ai+then-kb-bi, then-r-s, else-r-s+then-s-r, else-r-s+else-s-r}

pub loop-ka-init : goal.loop-ka-init
loop-ka-init c = counting_start c.requires

pub overflow_add-count : goal.overflow_add-count
overflow_add-count c = let h = counting_small c.loop-ka.invariant in record { fits = omega arith }

pub loop-ka-preserved : goal.loop-ka-preserved
loop-ka-preserved c =
    let v = c.loop-ka.invariant in
    let er = c.row_at-r.ensures in
    let es = c.row_at-s.ensures in
    elim c.if-r-s.branch [
      | then-r-s t ↦ rw (t.ka-is, t.kb-is) (counting_first v er es t.if-r-s.true)
      | else-r-s+then-s-r t ↦ rw (t.ka-is, t.kb-is) (counting_second v er es t.if-s-r.true)
      | else-r-s+else-s-r t ↦ rw (t.ka-is, t.kb-is) (counting_both v er es (omega (arith, t.if-r-s.false, t.if-s-r.false))
          (elim c.if-ka-ai.branch [ then-ka-ai t ↦ inl t.if-ka-ai.true | else-ka-ai+then-kb-bi t ↦ inr t.if-kb-bi.true ]))
    ]

pub returns : goal.returns
returns c = counting_done c.loop-ka.invariant c.if-ka-ai.false c.if-kb-bi.false
