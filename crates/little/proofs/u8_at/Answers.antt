-- `u8_at` meets its contract. Assumes nothing.
use native.Mathlib.Omega.{arith}
use Rattle.little.proofs.Reading.{past, byte-is}
use Rattle.little.proofs.u8_at.Goals as goal

pub returns-then-at-s : goal.returns-then-at-s
returns-then-at-s c = (byte-is c.args.s.now c.args.at c.if-at-s.true c.from.ensures, omega arith)

pub returns : goal.returns
returns c = (past 1 c.args.s.now c.args.at c.if-at-s.false, omega arith)
