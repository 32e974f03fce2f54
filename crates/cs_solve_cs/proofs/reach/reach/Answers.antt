-- `reach`: the loop of proofs/Reaching.antt. Assumes nothing.
use Rattle.std.proofs.Common.{arith, sym, ◌∙◌}
use Rattle.cs_solve_cs.proofs.Reaching.{reaching_start, reaching_on, reaching_off, seen_before, seen_new, seen_not, reaching_end, count_small}
use Rattle.cs_matrix.proofs.Handing.{j_small}
use Rattle.cs_solve.proofs.Columns.{lacking-is}
use Rattle.cs_solve_cs.proofs.reach.reach.Goals as goal
use Rattle.cs_solve_cs.proofs.reach.reach.Goals.{then-w-j-ne0, else-w-j-ne0, then-is_none+then-value_at, else-is_none}
use Rattle.cs_solve_cs.proofs.reach.reach.Goals.{else-is_none-via-then-is_none+else-value_at, else-is_none-via-else-is_none}

pub loop-j-init : goal.loop-j-init
loop-j-init c = reaching_start c.args.a.valid c.requires c.mark.ensures

pub overflow_add-count : goal.overflow_add-count
overflow_add-count c = let h = count_small c.loop-j.invariant c.loop-j-test.true in
    record { fits = omega (arith, j_small c.loop-j.invariant.valid c.loop-j-test.true) }

pub loop-j-preserved : goal.loop-j-preserved
loop-j-preserved c =
    let r = c.loop-j.invariant in
    let h = c.loop-j-test.true in
    elim c.if-w-j-ne0.branch [
      | then-w-j-ne0 t ↦
          rw (t.w-is, t.count-is, t.lacking-is)
          (reaching_on r h t.if-w-j-ne0.true t.column-col.ensures
          (elim t.if-is_none.branch [
            | then-is_none+then-value_at u ↦ rw u.lacking-is
                (seen_new r h u.if-is_none.ensures (sym (lacking-is t.column-col.ensures u.value_at.ensures) ∙ u.if-value_at.true))
            | else-is_none u ↦ rw u.lacking-is (elim u.else-is_none.branch [
              | else-is_none-via-then-is_none+else-value_at s ↦ seen_not r h
                  (sym (lacking-is t.column-col.ensures s.value_at.ensures) ∙ s.if-value_at.false)
              | else-is_none-via-else-is_none s ↦ seen_before r h s.if-is_none.ensures
            ])
          ])
          t.mark-then-w-j-ne0.ensures)
      | else-w-j-ne0 t ↦ rw (t.w-is, t.count-is, t.lacking-is) (reaching_off r h t.if-w-j-ne0.false)
    ]

pub returns : goal.returns
returns c = reaching_end c.loop-j.invariant c.loop-j-test.false
