-- `u32_at` meets its contract. Assumes nothing.
use Rattle.little.proofs.Reading.{past, four_are}
use Rattle.little.proofs.u32_at.Goals as goal

pub returns-then-at-s : goal.returns-then-at-s
returns-then-at-s c = past 4 c.args.s.now c.args.at c.if-at-s.true

pub returns : goal.returns
returns c = four_are c.args.s.now c.args.at c.u16_at.ensures.0 c.u16_at-2.ensures.0
