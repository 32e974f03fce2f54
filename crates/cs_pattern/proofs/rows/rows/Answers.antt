-- `rows`: the part between its two pointers. Assumes nothing.
use Rattle.cs_matrix.proofs.Pointers.{column-is}
use Rattle.cs_pattern.proofs.Columns.{here}
use Rattle.cs_pattern.proofs.rows.rows.Goals as goal

pub slice_bounds-result-end : goal.slice_bounds-result-end
slice_bounds-result-end c = (here c.requires.0 c.requires.1 c.wide-s.ensures.0 c.wide-e.ensures.0).inside

pub returns : goal.returns
returns c = column-is (here c.requires.0 c.requires.1 c.wide-s.ensures.0 c.wide-e.ensures.0) _
