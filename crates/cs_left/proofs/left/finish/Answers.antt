-- `finish` meets its contract. Assumes nothing.
use mathlib.Core.Path.{refl}
use Rattle.cs_left.proofs.Within.{finish_asks, finished}
use Rattle.cs_left.proofs.left.finish.Goals as goal

pub divide-requires : goal.divide-requires
divide-requires c = finish_asks c.requires c.wide-s.ensures.0 c.wide-e.ensures.0

pub returns : goal.returns
returns c = let f = finished c.requires c.wide-s.ensures.0 c.wide-e.ensures.0 _ _ c.divide.ensures in (f.0, f.1, refl)
