-- `stray_at`: the column of proofs/Straying.antt. Assumes nothing.
use mathlib.Core.Path.{refl, ◌∙◌}
use native.Mathlib.Omega.{arith}
use Rattle.cs_left.proofs.Straying.{stray_asks, seeks_stored, seeks_both, seeks_none}
use Rattle.cs_left.proofs.stray.stray_at.Goals as goal

pub bounds-p-k : goal.bounds-p-k
bounds-p-k c = omega (arith, (seeks_stored c.requires).pointer)

pub returns-then-next-k : goal.returns-then-next-k
returns-then-next-k c = seeks_none c.requires c.if-next-k.true

pub stray-requires : goal.stray-requires
stray-requires c = stray_asks c.column.ensures c.column-2.ensures (seeks_both c.requires) c.requires.here

pub returns : goal.returns
returns c = c.stray.ensures ∙ (rw (c.column-2.ensures, c.column.ensures) refl)
