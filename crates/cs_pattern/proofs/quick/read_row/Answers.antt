-- `read_row` meets its contract. Assumes nothing.
use Rattle.std.proofs.Common.{refl, arith}
use Rattle.cs_tree.proofs.Backward.{read-listed}
use Rattle.cs_pattern.proofs.quick.read_row.Goals as goal

pub returns-then-mark-wide : goal.returns-then-mark-wide
returns-then-mark-wide c = (
  (omega arith, λ older m. read-listed c.requires.0 c.requires.2 c.wide.ensures.0 c.if-mark-wide.true older m (omega arith)),
  λ older g m d. refl,
)
