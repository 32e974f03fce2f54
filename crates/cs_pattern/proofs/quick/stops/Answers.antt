-- `stops` meets its contract. Assumes nothing.
use Rattle.cs_tree.proofs.Aiming.{stops-marked}
use Rattle.std.proofs.Common.{refl, eqb-true, lt-ltb}
use Rattle.cs_tree.proofs.Backward.{stops-over, stops_seen}
use Rattle.cs_pattern.proofs.quick.stops.Goals as goal

pub returns-then-above-k : goal.returns-then-above-k
returns-then-above-k c = (
  λ z. stops-over c.requires c.if-c-k.false c.wide.ensures.0 refl c.if-above-k.true,
  λ older g l n. lt-ltb _ _ c.if-above-k.true,
)

pub returns-else-above-k : goal.returns-else-above-k
returns-else-above-k c = (
  λ z. stops_seen c.requires c.if-c-k.false c.wide.ensures.0 refl c.if-above-k.false c.wide-else-above-k.ensures.0 (eqb-true _ _ z),
  λ older g l n. stops-marked c.requires c.wide.ensures.0 refl c.if-above-k.false c.wide-else-above-k.ensures.0 older g n,
)
