-- `root::root_bits` meets its contract: one fact of `Patterns.antt` for each kind of pattern. Assumes nothing.
use native.Mathlib.Omega.{arith}
use Rattle.root.proofs.Patterns.{answers, self_all, none_above}
use Rattle.root.proofs.root_bits.Goals as goal

pub returns-in-0 : goal.returns-in-0
returns-in-0 c = answers c.args.b c.args.b (omega arith) (self_all c.args.b (omega arith) c.in-0.is)

pub returns-in-1-to-9218868437227405311 : goal.returns-in-1-to-9218868437227405311
returns-in-1-to-9218868437227405311 c = answers c.args.b c.positive_root.result (omega arith) c.positive_root.ensures

pub returns-in_default : goal.returns-in_default
returns-in_default c = answers c.args.b 0x7FF8_0000_0000_0000 (omega arith) (none_above c.args.b (omega arith) (grind arith) (grind arith))
