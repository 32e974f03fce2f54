-- `u64_at` meets its contract. Assumes nothing.
use mathlib.Core.Path.{◌∙◌}
use Rattle.little.proofs.Reading.{past, eight_are}
use Rattle.little.proofs.u64_at.Goals as goal

pub returns-then-at-s : goal.returns-then-at-s
returns-then-at-s c = past 8 c.args.s.now c.args.at c.if-at-s.true

pub returns : goal.returns
returns c = eight_are c.args.s.now c.args.at (c.from.ensures ∙ c.u32_at.ensures) (c.from-2.ensures ∙ c.u32_at-2.ensures)
