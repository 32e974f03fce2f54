-- `decompose_up_looking`: the ways out of proofs/Calling.antt. Assumes nothing.
use native.Mathlib.Omega.{arith}
use mathlib.Core.Path.{refl}
use Rattle.lists.proofs.Refusals.{refusal-some}
use Rattle.cs_up.proofs.Calling.{at-refused, small, call_fills, at_done}
use Rattle.cs_up.proofs.up.decompose_up_looking.Goals as goal

pub returns-in-Err : goal.returns-in-Err
returns-in-Err c = at-refused _ _ _ _ _ _ _ _ _ _ _ _ _ _ _ c.in-Err.ensures (refusal-some c.in-Err.refusal) c.refused.ensures

pub work-answer-requires : goal.work-answer-requires
work-answer-requires c = call_fills _ _ _ _ _ _ _ _ _ _ _ _ _ _ _ c.in_default.ensures refl

pub overflow_add-a : goal.overflow_add-a
overflow_add-a c = let h = small _ _ _ _ _ _ _ _ _ _ c.args.lx.now _ _ _ _ c.in_default.ensures refl in
    record { fits = omega arith }

pub returns : goal.returns
returns c = at_done _ _ _ _ _ _ _ _ _ _ _ _ _ _ _ c.in_default.ensures refl c.work-answer.new.next c.work-answer.new.x
    c.work-answer.ensures c.clear_scratch.ensures
