-- `meet`: the step of proofs/Mirroring.antt. Assumes nothing.
use Rattle.cs_left.proofs.Mirroring.{meet_end, meet_other, meet_is}
use Rattle.cs_left.proofs.mirror.meet.Goals as goal
use Rattle.cs_left.proofs.mirror.meet.Goals.{else-s-e-via-then-s-e+else-wide-c, else-s-e-via-else-s-e}

pub returns-then-wide-c : goal.returns-then-wide-c
returns-then-wide-c c = meet_is _ _ _ _ _ c.wide-s.ensures.0 c.wide-e.ensures.0 c.if-s-e.true c.wide.ensures.0 c.if-wide-c.true

pub returns-else-s-e : goal.returns-else-s-e
returns-else-s-e c = let s = c.wide-s.ensures.0 in let e = c.wide-e.ensures.0 in elim c.else-s-e.branch [
  | else-s-e-via-then-s-e+else-wide-c w ↦ meet_other _ _ _ _ _ s e w.if-s-e.true w.wide.ensures.0 w.if-wide-c.false
  | else-s-e-via-else-s-e w ↦ meet_end _ _ _ _ _ s e w.if-s-e.false
]
