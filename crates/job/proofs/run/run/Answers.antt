-- `run` meets its contract. Assumes nothing.
use lib.Seq.{length-take-le}
use mathlib.Core.Path.{sym}
use native.Mathlib.Omega.{arith}
use lib.ListN.{length-replicate}
use Rattle.lists.specs.Calls.{none}
use Rattle.cs_matrix.specs.Lent.{matrix_of}
use Rattle.cs_pattern.specs.Lent.{analysis_of}
use Rattle.job_file.specs.Told.{byte}
use Rattle.job.proofs.Running.{in_lp, run_li, run_few, run-refused, run-done}
use Rattle.job.proofs.run.run.Goals as goal

pub returns-then-f-ne0 : goal.returns-then-f-ne0
returns-then-f-ne0 c = run-refused (matrix_of c.args.a) (analysis_of c.args.given) c.requires (byte c.args.engine) c.args.b.now c.factor-f.ensures
    c.if-f-ne0.true

pub returns : goal.returns
returns c = run-done (matrix_of c.args.a) (analysis_of c.args.given) c.requires (byte c.args.engine) c.args.b.now c.factor-f.ensures
    c.if-f-ne0.false c.wide-entries.ensures.0 c.solve.ensures

pub bounds-lp-n : goal.bounds-lp-n
bounds-lp-n c = in_lp (matrix_of c.args.a) (analysis_of c.args.given) c.requires

pub slice_bounds-pattern-end : goal.slice_bounds-pattern-end
slice_bounds-pattern-end c = sym (length-take-le _ _ (omega (arith, in_lp (matrix_of c.args.a) (analysis_of c.args.given) c.requires)))

pub slice_bounds-pattern-end-2 : goal.slice_bounds-pattern-end-2
slice_bounds-pattern-end-2 c = sym (length-take-le _ _ (omega (
  arith,
  run_li (matrix_of c.args.a) (analysis_of c.args.given) c.requires,
  c.wide-entries.ensures.0,
)))

pub slice_bounds-lx-end : goal.slice_bounds-lx-end
slice_bounds-lx-end c = omega (
  arith,
  run_few (matrix_of c.args.a) (analysis_of c.args.given) c.requires,
  c.wide-entries.ensures.0,
  c.factor-f.auto.lx,
  length-replicate 2048 none,
)

pub slice_bounds-l-end : goal.slice_bounds-l-end
slice_bounds-l-end c = sym (length-take-le _ _ (omega (
  arith,
  run_few (matrix_of c.args.a) (analysis_of c.args.given) c.requires,
  c.wide-entries.ensures.0,
  c.factor-f.auto.lx,
  length-replicate 2048 none,
)))
