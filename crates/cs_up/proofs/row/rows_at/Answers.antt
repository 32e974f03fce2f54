-- `rows_at`: the loop of proofs/Rowing.antt. Assumes nothing.
use mathlib.Core.Path.{refl, ◌∙◌}
use native.Mathlib.Omega.{arith}
use Rattle.cs_up.proofs.Rowing.{rowing_start, rowing_pass, rowing_next, rowing_end, place_few, row_reads}
use Rattle.cs_up.proofs.row.rows_at.Goals as goal
use Rattle.cs_up.proofs.row.rows_at.Goals.{else-j-k, then-j-k}

pub loop-u-init : goal.loop-u-init
loop-u-init c = rowing_start _ c.requires

pub row_at-t-requires : goal.row_at-t-requires
row_at-t-requires c = row_reads c.loop-u.invariant c.loop-u-test.true c.wide-j.ensures.0 c.if-j-k.true c.wide.ensures.0 c.wide-then-j-k.ensures.0

pub overflow_add-next : goal.overflow_add-next
overflow_add-next c = let h = place_few c.loop-u.invariant c.loop-u-test.true c.wide-j.ensures.0 c.if-j-k.true refl refl in
    record { fits = omega arith }

pub loop-u-preserved : goal.loop-u-preserved
loop-u-preserved c = let w = c.loop-u.invariant in let h = c.loop-u-test.true in let f = c.wide-j.ensures.0 in
    elim c.if-j-k.branch [
      | then-j-k t ↦ rowing_next w h f t.if-j-k.true t.wide.ensures.0 t.wide-then-j-k.ensures.0 t.row_at-t.ensures.0 (t.lx-is ∙
          t.row_at-t.ensures.1) t.next-is (t.x-is ∙ t.row_at-t.ensures.2) t.pivot-is
      | else-j-k u ↦
          rw (u.lx-is, u.next-is, u.x-is, u.pivot-is) (rowing_pass w h f u.if-j-k.false)
    ]

pub returns : goal.returns
returns c = rowing_end c.loop-u.invariant c.loop-u-test.false
