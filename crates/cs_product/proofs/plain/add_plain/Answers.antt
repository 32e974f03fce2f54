-- `add_plain`: the run of lists/proofs/Entries.antt, or `add_rows`. Assumes nothing.
use mathlib.Core.Path.{sym, ◌∙◌}
use Rattle.lists.proofs.Entries.{run-within, run_plus}
use Rattle.cs_product.proofs.plain.add_plain.Goals as goal

pub slice_bounds-add_times-end : goal.slice_bounds-add_times-end
slice_bounds-add_times-end c = run-within c.args.x.now c.requires (sym c.tight.ensures ∙ c.if-tight.true) c.wide-first.ensures.0

pub returns-then-tight : goal.returns-then-tight
returns-then-tight c = run_plus c.args.x.now c.requires (sym c.tight.ensures ∙ c.if-tight.true) c.wide-first.ensures.0 _ c.add_times.ensures
