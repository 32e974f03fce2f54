-- `analyse` meets its contract. Assumes nothing.
use Rattle.std.proofs.Common.{refl, arith}
use Rattle.lists.proofs.Refusals.{passed_on, refusal-some}
use Rattle.cs_matrix.proofs.Squaring.{prepared}
use Rattle.cs_tree.specs.Pattern.{analysis}
use Rattle.cs_pattern.proofs.Analysing.{at-refused, begin_asked, square_valid, many_7, short_7, ready, at-end}
use Rattle.cs_pattern.proofs.analyse.analyse.Goals as goal
use Rattle.cs_pattern.proofs.analyse.analyse.Goals.{in-Some, in_default-2, in_default}

pub returns-in_err-prepare : goal.returns-in_err-prepare
returns-in_err-prepare c = rw (passed_on _ _ c.from_residual.ensures.1) (at-refused _ _ _ _ c.in_err-prepare.ensures (refusal-some _))

pub outline-requires : goal.outline-requires
outline-requires c = begin_asked (prepared _ _ _ c.in_ok-prepare.ensures refl)

pub too_short-requires : goal.too_short-requires
too_short-requires c = (square_valid (prepared _ _ _ c.in_ok-prepare.ensures refl)).cols

pub write-requires : goal.write-requires
write-requires c = ready (prepared _ _ _ c.in_ok-prepare.ensures refl) c.in-Some.ensures _ c.in-Some.ensures.count c.too_short.ensures
    c.if-not-too_short.true

pub overflow_add-n : goal.overflow_add-n
overflow_add-n c = record { fits = omega (arith, (square_valid (prepared _ _ _ c.in_ok-prepare.ensures refl)).cols) }

pub returns : goal.returns
returns c =
    let P = prepared _ _ _ c.in_ok-prepare.ensures refl in
    elim c.match-outline.branch [
      | in-Some w ↦ rw (w.answer-is, w.tree-is, w.up-is, w.ui-is, w.lp-is, w.li-is)
          (at-end P w.in-Some.ensures _ w.in-Some.ensures.count w.too_short.ensures
          {new = analysis w.write.new.tree w.write.new.up w.write.new.ui w.write.new.lp w.write.new.li} w.if-not-too_short.true w.write.ensures
          (rw (w.w2-is, w.w3-is) at c.clear_scratch.ensures))
      | in_default-2 w ↦ rw (w.answer-is, w.tree-is, w.up-is, w.ui-is, w.lp-is, w.li-is)
          (short_7 P w.in-Some.ensures _ w.in-Some.ensures.count w.too_short.ensures w.if-not-too_short.false
          (rw (w.w2-is, w.w3-is) at c.clear_scratch.ensures))
      | in_default w ↦ rw (w.answer-is, w.tree-is, w.up-is, w.ui-is, w.lp-is, w.li-is)
          (many_7 P w.in_default.ensures _ w.in_default.ensures.count (rw (w.w2-is, w.w3-is) at c.clear_scratch.ensures))
    ]
