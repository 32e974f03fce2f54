-- `decompose_left_looking` meets its contract. Assumes nothing.
use mathlib.Core.Path.{refl}
use Rattle.lists.proofs.Refusals.{refusal-some}
use Rattle.cs_left.proofs.Ways.{strays_asks, way-judged, way_served, way_w1, way_w2, way_x, way-stray, way_asks, way-done}
use Rattle.cs_left.proofs.left.decompose_left_looking.Goals as goal

pub returns-in-Err : goal.returns-in-Err
returns-in-Err c = way-judged _ _ _ _ _ _ _ _ _ _ c.args.lx.now _ _ _ _ c.in-Err.ensures (refusal-some c.in-Err.refusal) c.refused.ensures

pub strays-requires : goal.strays-requires
strays-requires c = (
  strays_asks (way_served _ _ _ _ _ _ _ _ _ _ c.args.lx.now _ _ _ _ c.in_default.ensures refl),
  way_w2 _ _ _ _ _ _ _ _ _ _ c.args.lx.now _ _ _ _ c.in_default.ensures refl,
)

pub returns-then-strays : goal.returns-then-strays
returns-then-strays c = way-stray _ _ _ _ _ _ _ _ _ _ c.args.lx.now _ _ _ _ c.in_default.ensures refl c.strays.ensures
    c.if-strays.true c.refused-then-strays.ensures

pub slice_bounds-work-end : goal.slice_bounds-work-end
slice_bounds-work-end c = way_w1 _ _ _ _ _ _ _ _ _ _ c.args.lx.now _ _ _ _ c.in_default.ensures refl

pub slice_bounds-work-end-2 : goal.slice_bounds-work-end-2
slice_bounds-work-end-2 c = way_x _ _ _ _ _ _ _ _ _ _ c.args.lx.now _ _ _ _ c.in_default.ensures refl

pub work-answer-requires : goal.work-answer-requires
work-answer-requires c = way_asks _ _ _ _ _ _ _ _ _ _ c.args.lx.now _ _ _ _ c.in_default.ensures refl c.strays.ensures
    c.if-strays.false

pub returns : goal.returns
returns c = way-done _ _ _ _ _ _ _ _ _ _ c.args.lx.now _ _ _ _ c.in_default.ensures refl c.strays.ensures c.if-strays.false
    c.work-answer.ensures c.work-answer.new.next c.work-answer.new.x c.work-answer.auto.next c.work-answer.auto.x c.clear_scratch.ensures
