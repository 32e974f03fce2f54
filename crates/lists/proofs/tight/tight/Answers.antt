-- `tight`: the first and the last are looked at. Assumes nothing.
use Rattle.lists.proofs.Runs.{tight-none, tight-told}
use Rattle.lists.proofs.tight.tight.Goals as goal

pub returns-then-n-eq0 : goal.returns-then-n-eq0
returns-then-n-eq0 c = tight-none _ c.if-n-eq0.true

pub returns : goal.returns
returns c = tight-told _ c.if-n-eq0.false c.wide.ensures.0 c.wide-2.ensures.0
