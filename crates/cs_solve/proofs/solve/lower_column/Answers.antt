-- `lower_column`: the run of proofs/Runs.antt, or `lower_rows`. Assumes nothing.
use mathlib.Core.Path.{refl, sym, ◌∙◌}
use native.Mathlib.Omega.{arith}
use Rattle.cs_solve.proofs.Runs.{run-within, run_lowers}
use Rattle.cs_solve.proofs.solve.lower_column.Goals as goal

pub slice_bounds-lower_run-end-then-tight : goal.slice_bounds-lower_run-end-then-tight
slice_bounds-lower_run-end-then-tight c = run-within c.args.b.now c.requires.0 c.requires.1 refl (omega (arith, c.if-n-gt8.true))
    (sym c.tight.ensures ∙ c.if-tight.true) c.wide-first.ensures.0

pub returns-then-tight : goal.returns-then-tight
returns-then-tight c = run_lowers c.args.b.now c.requires.0 c.requires.1 refl (omega (arith, c.if-n-gt8.true)) (sym c.tight.ensures ∙
    c.if-tight.true) c.wide-first.ensures.0 _ (sym c.wide.ensures.0 ∙ c.if-wide-j.true) c.lower_run.ensures

pub returns : goal.returns
returns c = c.lower_rows.ensures
