-- `merge`: the same rows of proofs/Equal.antt, or `walk`. Assumes nothing.
use mathlib.Core.Path.{sym, ◌∙◌}
use Rattle.cs_sum.proofs.Equal.{ends_i, ends_v, places, merged}
use Rattle.cs_sum.proofs.merge.merge.Goals as goal

pub slice_bounds-add_values-end : goal.slice_bounds-add_values-end
slice_bounds-add_values-end c = ends_i c.requires (sym c.same_rows.ensures ∙ c.if-same_rows.true)

pub slice_bounds-add_values-end-then-same_rows : goal.slice_bounds-add_values-end-then-same_rows
slice_bounds-add_values-end-then-same_rows c = ends_v c.requires (sym c.same_rows.ensures ∙ c.if-same_rows.true)

pub add_values-requires : goal.add_values-requires
add_values-requires c = places c.requires (sym c.same_rows.ensures ∙ c.if-same_rows.true)

pub returns-then-same_rows : goal.returns-then-same_rows
returns-then-same_rows c = merged c.requires (sym c.same_rows.ensures ∙ c.if-same_rows.true) c.add_values.ensures.0 c.add_values.ensures.1
