-- `column`: the part between its two pointers. Assumes nothing.
use Rattle.cs_up.proofs.Turning.{part-column}
use Rattle.cs_up.proofs.start.column.Goals as goal

pub returns : goal.returns
returns g c = part-column c.args.p.now c.args.k c.wide-s.ensures.0 c.wide-e.ensures.0 c.args.l.now
