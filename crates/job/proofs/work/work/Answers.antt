-- `work` meets its contract. Assumes nothing.
use lib.Seq.{length-take-le}
use mathlib.Core.Path.{refl, sym}
use native.Mathlib.Omega.{arith}
use Rattle.std.proofs.Common.{rules}
use Rattle.lists.proofs.Refusals.{refusal-some}
use Rattle.cs_conversion.specs.Lent.{triplets_of}
use Rattle.job_file.specs.Told.{byte}
use Rattle.job.proofs.Working.{work-refused, work_asks, work-prepared, work-done}
use Rattle.job.proofs.work.work.Goals as goal

pub returns-in-Err : goal.returns-in-Err
returns-in-Err c = work-refused (byte c.args.engine) (triplets_of c.args.t) c.args.b.now _ c.in-Err.ensures.0 (refusal-some _) c.refused.ensures

pub offset_bounds-p-ncols : goal.offset_bounds-p-ncols
offset_bounds-p-ncols c = omega (arith, (work_asks (triplets_of c.args.t) _ _ _ _ _ _ _ _ _ c.in_default.ensures refl).0)

pub bounds-p-ncols : goal.bounds-p-ncols
bounds-p-ncols c = omega (arith, (work_asks (triplets_of c.args.t) _ _ _ _ _ _ _ _ _ c.in_default.ensures refl).0)

pub overflow_add-p : goal.overflow_add-p
overflow_add-p c = omega (arith, (work_asks (triplets_of c.args.t) _ _ _ _ _ _ _ _ _ c.in_default.ensures refl).0)

pub slice_bounds-p-end : goal.slice_bounds-p-end
slice_bounds-p-end c = omega (arith, (work_asks (triplets_of c.args.t) _ _ _ _ _ _ _ _ _ c.in_default.ensures refl).0)

pub slice_bounds-pattern-end : goal.slice_bounds-pattern-end
slice_bounds-pattern-end c = sym (length-take-le _ _ (omega (
  arith,
  (work_asks (triplets_of c.args.t) _ _ _ _ _ _ _ _ _ c.in_default.ensures refl).0,
)))

pub slice_bounds-i-end : goal.slice_bounds-i-end
slice_bounds-i-end c = omega (arith, (work_asks (triplets_of c.args.t) _ _ _ _ _ _ _ _ _ c.in_default.ensures refl).1, c.wide-entries.ensures.0)

pub slice_bounds-pattern-end-2 : goal.slice_bounds-pattern-end-2
slice_bounds-pattern-end-2 c = sym (length-take-le _ _ (omega
    (arith, (work_asks (triplets_of c.args.t) _ _ _ _ _ _ _ _ _ c.in_default.ensures refl).1, c.wide-entries.ensures.0)))

pub slice_bounds-v-end : goal.slice_bounds-v-end
slice_bounds-v-end c = omega (arith, (work_asks (triplets_of c.args.t) _ _ _ _ _ _ _ _ _ c.in_default.ensures refl).2, c.wide-entries.ensures.0)

pub slice_bounds-a-end : goal.slice_bounds-a-end
slice_bounds-a-end c = sym (length-take-le _ _ (omega (
  arith,
  (work_asks (triplets_of c.args.t) _ _ _ _ _ _ _ _ _ c.in_default.ensures refl).2,
  c.wide-entries.ensures.0,
)))

pub run-requires : goal.run-requires
run-requires c = work-prepared (triplets_of c.args.t) _ _ _ _ _ _ _ _ _ c.in_default.ensures refl c.wide-entries.ensures.0 (search rules)
    (search rules)

pub returns : goal.returns
returns c = work-done (triplets_of c.args.t) _ _ _ _ _ _ _ _ _ c.in_default.ensures refl c.wide-entries.ensures.0 (byte c.args.engine)
    c.args.b.now c.run.ensures
