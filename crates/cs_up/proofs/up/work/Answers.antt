-- `work`: the laws of proofs/Calling.antt. Assumes nothing.
use Rattle.cs_up.proofs.Calling.{filled_11, filled_0}
use Rattle.cs_up.proofs.up.work.Goals as goal

pub returns-in-Err : goal.returns-in-Err
returns-in-Err c = filled_11 c.requires c.wide-t.ensures.0 c.factor.new.lx c.factor.auto.lx c.factor.new.next c.factor.new.x c.factor.auto.next
    c.factor.auto.x
    c.in-Err.ensures c.fill.ensures

pub returns : goal.returns
returns c = filled_0 c.requires c.wide-t.ensures.0 c.factor.new.lx c.factor.auto.lx c.factor.new.next c.factor.new.x c.factor.auto.next
    c.factor.auto.x
    c.in_default.ensures
