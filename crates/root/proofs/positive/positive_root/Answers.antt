-- `root::positive::positive_root` meets its contract: the pattern's fields are the significand and the exponent. Assumes nothing.
use mathlib.Core.Path.{◌∙◌}
use native.Mathlib.Omega.{arith}
use Rattle.root.proofs.Patterns.{root_subnormal, root_normal}
use Rattle.root.proofs.positive.positive_root.Goals as goal

pub returns-then-field-eq0 : goal.returns-then-field-eq0
returns-then-field-eq0 c = c.scaled_root.ensures ∙ root_subnormal c.args.b (omega arith) (omega arith)

pub returns : goal.returns
returns c = c.scaled_root-2.ensures ∙ root_normal c.args.b (omega (arith, c.if-field-eq0.false)) (omega arith)
