-- `take_column`: the run of proofs/Taking.antt, or `take_rows`. Assumes nothing.
use mathlib.Core.Path.{sym, ◌∙◌}
use Rattle.lists.proofs.Entries.{run-within}
use Rattle.cs_up.proofs.Taking.{run-takes}
use Rattle.cs_up.proofs.row.take_column.Goals as goal

pub slice_bounds-take_run-end : goal.slice_bounds-take_run-end
slice_bounds-take_run-end c = run-within c.args.x.now c.requires (sym c.tight.ensures ∙ c.if-tight.true) c.wide-first.ensures.0

pub returns-then-tight : goal.returns-then-tight
returns-then-tight c = run-takes c.args.x.now c.requires (sym c.tight.ensures ∙ c.if-tight.true) c.wide-first.ensures.0 _ c.take_run.ensures
