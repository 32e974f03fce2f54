-- The slice that is lent has room for any answer, so there is one, within it.
use Rattle.std.proofs.Common.{ℕ, arith, sym, length-take-le}
use Rattle.std.proofs.lemmas.List.{length-replicate}
use Rattle.job_answer.proofs.Writing.{written-ok, written-within}
use Rattle.job_run.proofs.answer.Goals as goal

pub unwrap-written-requires : goal.unwrap-written-requires
unwrap-written-requires g c = written-ok _ _ c.job.result c.job.ensures.0 (omega (arith, c.job.ensures.2, length-replicate {A = ℕ} 3584 0))

pub slice_bounds-out-end : goal.slice_bounds-out-end
slice_bounds-out-end g c = written-within _ _ c.job.result c.job.ensures.0 (omega (arith, c.job.ensures.2, length-replicate {A = ℕ} 3584 0))
    _ c.job.new.out c.unwrap-written.ensures c.job.auto.out

pub slice_bounds-show-end : goal.slice_bounds-show-end
slice_bounds-show-end g c =
    sym (length-take-le _ _ (written-within _ _ c.job.result c.job.ensures.0 (omega (arith, c.job.ensures.2, length-replicate {A = ℕ} 3584 0))
    _ c.job.new.out c.unwrap-written.ensures c.job.auto.out))
