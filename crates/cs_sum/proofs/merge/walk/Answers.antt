-- `walk`: the loop of proofs/Merged.antt. Assumes nothing.
use mathlib.Core.Logic.{inl, inr}
use native.Mathlib.Omega.{arith}
use Rattle.cs_columns.proofs.Merging.{first-in, second_in, both_first}
use Rattle.cs_sum.proofs.Merged.{writing_small, first_i, first_v, first-value, second_i, second_v, second_value, both_i, both_v, both-value}
use Rattle.cs_sum.proofs.Merged.{both-value_too, writing_done, walking_start, walking_first, walking_second, walking_both}
use Rattle.cs_sum.proofs.merge.walk.Goals as goal
use Rattle.cs_sum.proofs.merge.walk.Goals.{then-ka-ai, else-ka-ai+then-kb-bi, then-r-s, else-r-s+then-s-r, else-r-s+else-s-r}

pub loop-ka-init : goal.loop-ka-init
loop-ka-init c = walking_start _ _ _ _ _ _ c.requires c.row_at-r.ensures c.row_at-s.ensures

pub offset_bounds-oi-at : goal.offset_bounds-oi-at
offset_bounds-oi-at c = omega (arith, writing_small _ _ _ _ _ _ c.loop-ka.invariant.writing)

pub bounds-oi-at : goal.bounds-oi-at
bounds-oi-at c = first_i _ _ _ _ _ _ c.loop-ka.invariant.writing c.loop-ka.invariant.r_is c.loop-ka.invariant.s_is
    c.if-r-s.true

pub bounds-av-ka : goal.bounds-av-ka
bounds-av-ka c = first-value _ _ _ _ _ _ c.loop-ka.invariant.writing c.loop-ka.invariant.r_is c.loop-ka.invariant.s_is
    c.if-r-s.true

pub offset_bounds-ov-at : goal.offset_bounds-ov-at
offset_bounds-ov-at c = omega (arith, writing_small _ _ _ _ _ _ c.loop-ka.invariant.writing)

pub bounds-ov-at : goal.bounds-ov-at
bounds-ov-at c = first_v _ _ _ _ _ _ c.loop-ka.invariant.writing c.loop-ka.invariant.r_is c.loop-ka.invariant.s_is
    c.if-r-s.true

pub offset_bounds-oi-at-then-s-r : goal.offset_bounds-oi-at-then-s-r
offset_bounds-oi-at-then-s-r c = omega (arith, writing_small _ _ _ _ _ _ c.loop-ka.invariant.writing)

pub bounds-oi-at-then-s-r : goal.bounds-oi-at-then-s-r
bounds-oi-at-then-s-r c = second_i _ _ _ _ _ _ c.loop-ka.invariant.writing c.loop-ka.invariant.r_is c.loop-ka.invariant.s_is
    c.if-s-r.true

pub bounds-bv-kb : goal.bounds-bv-kb
bounds-bv-kb c = second_value _ _ _ _ _ _ c.loop-ka.invariant.writing c.loop-ka.invariant.r_is c.loop-ka.invariant.s_is
    c.if-s-r.true

pub offset_bounds-ov-at-then-s-r : goal.offset_bounds-ov-at-then-s-r
offset_bounds-ov-at-then-s-r c = omega (arith, writing_small _ _ _ _ _ _ c.loop-ka.invariant.writing)

pub bounds-ov-at-then-s-r : goal.bounds-ov-at-then-s-r
bounds-ov-at-then-s-r c = second_v _ _ _ _ _ _ c.loop-ka.invariant.writing c.loop-ka.invariant.r_is c.loop-ka.invariant.s_is
    c.if-s-r.true

pub offset_bounds-oi-at-else-s-r : goal.offset_bounds-oi-at-else-s-r
offset_bounds-oi-at-else-s-r c = omega (arith, writing_small _ _ _ _ _ _ c.loop-ka.invariant.writing)

pub bounds-oi-at-else-s-r : goal.bounds-oi-at-else-s-r
bounds-oi-at-else-s-r c = both_i _ _ _ _ _ _ c.loop-ka.invariant.writing c.loop-ka.invariant.r_is c.loop-ka.invariant.s_is
    (omega (arith, c.if-r-s.false, c.if-s-r.false)) (elim c.if-ka-ai.branch
    [ then-ka-ai t ↦ inl t.if-ka-ai.true | else-ka-ai+then-kb-bi t ↦ inr t.if-kb-bi.true ])

pub bounds-av-ka-else-s-r : goal.bounds-av-ka-else-s-r
bounds-av-ka-else-s-r c = both-value _ _ _ _ _ _ c.loop-ka.invariant.writing c.loop-ka.invariant.r_is c.loop-ka.invariant.s_is
    (omega (arith, c.if-r-s.false, c.if-s-r.false)) (elim c.if-ka-ai.branch
    [ then-ka-ai t ↦ inl t.if-ka-ai.true | else-ka-ai+then-kb-bi t ↦ inr t.if-kb-bi.true ])

pub bounds-bv-kb-else-s-r : goal.bounds-bv-kb-else-s-r
bounds-bv-kb-else-s-r c = both-value_too _ _ _ _ _ _ c.loop-ka.invariant.writing c.loop-ka.invariant.r_is c.loop-ka.invariant.s_is
    (omega (arith, c.if-r-s.false, c.if-s-r.false)) (elim c.if-ka-ai.branch
    [ then-ka-ai t ↦ inl t.if-ka-ai.true | else-ka-ai+then-kb-bi t ↦ inr t.if-kb-bi.true ])

pub offset_bounds-ov-at-else-s-r : goal.offset_bounds-ov-at-else-s-r
offset_bounds-ov-at-else-s-r c = omega (arith, writing_small _ _ _ _ _ _ c.loop-ka.invariant.writing)

pub bounds-ov-at-else-s-r : goal.bounds-ov-at-else-s-r
bounds-ov-at-else-s-r c = both_v _ _ _ _ _ _ c.loop-ka.invariant.writing c.loop-ka.invariant.r_is c.loop-ka.invariant.s_is
    (omega (arith, c.if-r-s.false, c.if-s-r.false)) (elim c.if-ka-ai.branch
    [ then-ka-ai t ↦ inl t.if-ka-ai.true | else-ka-ai+then-kb-bi t ↦ inr t.if-kb-bi.true ])

pub overflow_add-at : goal.overflow_add-at
overflow_add-at c = let h = writing_small _ _ _ _ _ _ c.loop-ka.invariant.writing in record { fits = omega arith }

pub loop-ka-smaller : goal.loop-ka-smaller
loop-ka-smaller c =
    let v = c.loop-ka.invariant.writing.merging in
    let er = c.loop-ka.invariant.r_is in
    let es = c.loop-ka.invariant.s_is in
    elim c.if-r-s.branch [
      | then-r-s t ↦ omega (arith, t.ka-is, t.kb-is, first-in v er es t.if-r-s.true)
      | else-r-s+then-s-r t ↦ omega (arith, t.ka-is, t.kb-is, second_in v er es t.if-s-r.true)
      | else-r-s+else-s-r t ↦ omega (
        arith,
        t.ka-is,
        t.kb-is,
        both_first v er es (omega (arith, t.if-r-s.false, t.if-s-r.false))
            (elim c.if-ka-ai.branch [ then-ka-ai t ↦ inl t.if-ka-ai.true | else-ka-ai+then-kb-bi t ↦ inr t.if-kb-bi.true ]),
      )
    ]

pub loop-ka-preserved : goal.loop-ka-preserved
loop-ka-preserved c =
    let w = c.loop-ka.invariant in
    elim c.if-r-s.branch [
      | then-r-s t ↦ rw (t.oi-is, t.ov-is, t.ka-is, t.kb-is, t.r-is, t.s-is)
          (walking_first _ _ _ _ _ _ w t.if-r-s.true t.row_at-r-then-r-s.ensures)
      | else-r-s+then-s-r t ↦ rw (t.oi-is, t.ov-is, t.ka-is, t.kb-is, t.r-is, t.s-is)
          (walking_second _ _ _ _ _ _ w t.if-s-r.true t.row_at-s-then-s-r.ensures)
      | else-r-s+else-s-r t ↦ rw (t.oi-is, t.ov-is, t.ka-is, t.kb-is, t.r-is, t.s-is)
          (walking_both _ _ _ _ _ _ w (omega (arith, t.if-r-s.false, t.if-s-r.false))
          (elim c.if-ka-ai.branch [ then-ka-ai t ↦ inl t.if-ka-ai.true | else-ka-ai+then-kb-bi t ↦ inr t.if-kb-bi.true ])
          t.row_at-r-else-s-r.ensures t.row_at-s-else-s-r.ensures)
    ]

pub returns : goal.returns
returns c = writing_done _ _ _ _ _ _ c.loop-ka.invariant.writing c.if-ka-ai.false c.if-kb-bi.false
