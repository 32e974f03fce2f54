-- `u16_at` meets its contract. Assumes nothing.
use native.Mathlib.Omega.{arith}
use Rattle.little.proofs.Reading.{past, two_are}
use Rattle.little.proofs.u16_at.Goals as goal

pub returns-then-at-s : goal.returns-then-at-s
returns-then-at-s c = (past 2 c.args.s.now c.args.at c.if-at-s.true, omega arith)

pub returns : goal.returns
returns c = (two_are c.args.s.now c.args.at c.u8_at.ensures.0 c.u8_at-2.ensures.0, omega arith)
