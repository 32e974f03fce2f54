-- `check`: the pattern's number, beside 2 for the values. Assumes nothing.
use Rattle.cs_matrix.proofs.Refusing.{matrix_2, matrix-rest}
use Rattle.cs_matrix.proofs.check.check.Goals as goal

pub returns-then-pattern-v : goal.returns-then-pattern-v
returns-then-pattern-v c = matrix_2 _ c.check_pattern-refused.ensures c.if-pattern-v.true c.lower.ensures

pub returns : goal.returns
returns c = matrix-rest _ c.check_pattern-refused.ensures c.if-pattern-v.false
