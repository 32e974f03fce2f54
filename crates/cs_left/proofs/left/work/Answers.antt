-- `work` meets its contract. Assumes nothing.
use mathlib.Core.Path.{refl}
use Rattle.cs_left.proofs.Working.{work_11, work_0}
use Rattle.cs_left.proofs.left.work.Goals as goal

pub returns-in-Err : goal.returns-in-Err
returns-in-Err c = work_11 c.requires.served _ _ refl c.factor.auto.lx c.in-Err.ensures.1 c.in-Err.ensures.0 c.wide.ensures.0 c.fill.ensures

pub returns : goal.returns
returns c = work_0 c.requires.served _ _ refl c.factor.auto.lx c.in_default.ensures.1 c.in_default.ensures.0
