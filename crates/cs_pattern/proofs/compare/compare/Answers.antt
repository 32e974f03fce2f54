-- `compare` meets its contract. Assumes nothing.
use Rattle.cs_pattern.proofs.Judging.{at-refused, decide_asked, at-end}
use Rattle.std.proofs.Common.{refl, arith}
use Rattle.lists.proofs.Refusals.{passed_on, refusal-some}
use Rattle.cs_pattern.proofs.Analysing.{square_valid}
use Rattle.cs_matrix.proofs.Squaring.{prepared}
use Rattle.cs_pattern.proofs.compare.compare.Goals as goal

pub returns-in_err-prepare : goal.returns-in_err-prepare
returns-in_err-prepare c = rw (passed_on _ _ c.from_residual.ensures.1) (at-refused _ _ _ _ _ c.in_err-prepare.ensures (refusal-some _))

pub decide-answer-requires : goal.decide-answer-requires
decide-answer-requires c = decide_asked (prepared _ _ _ c.in_ok-prepare.ensures refl)

pub overflow_add-a : goal.overflow_add-a
overflow_add-a c = record { fits = omega (arith, (square_valid (prepared _ _ _ c.in_ok-prepare.ensures refl)).cols) }

pub returns : goal.returns
returns c = at-end (prepared _ _ _ c.in_ok-prepare.ensures refl) _ _ c.decide-answer.ensures c.clear_scratch.ensures
