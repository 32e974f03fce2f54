-- `check_square` meets its contract. Assumes nothing.
use Rattle.cs_matrix.proofs.Squaring.{square_2, square-rest}
use Rattle.cs_matrix.proofs.square.check_square.Goals as goal

pub returns-then-a : goal.returns-then-a
returns-then-a c = square_2 _ c.check_pattern-refused.ensures c.if-a.true c.lower.ensures

pub returns : goal.returns
returns c = square-rest _ c.check_pattern-refused.ensures c.if-a.false
