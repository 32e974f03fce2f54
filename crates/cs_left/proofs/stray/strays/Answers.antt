-- `strays`: the scratch is lent and cleared. Assumes nothing.
use mathlib.Core.Path.{◌∙◌}
use Prim.Native.Nat.{◌+◌}
use native.Mathlib.Omega.{arith}
use Rattle.lists.proofs.Laying.{part_long}
use Rattle.lists.proofs.Returning.{cleared-after}
use Rattle.cs_left.proofs.stray.strays.Goals as goal

pub returns : goal.returns
returns c = (
  c.seek-found.ensures,
  c.fill.ensures ∙ cleared-after 0 c.args.a.ncols (c.args.a.ncols + 1) c.args.w.now c.seek-found.new.next (omega arith)
      c.requires.1 (c.seek-found.auto.next ∙ part_long c.args.a.ncols c.args.w.now c.requires.1),
)
