-- `judge`: each way out is one of proofs/Ways.antt. Assumes nothing.
use Rattle.cs_solve_cs.proofs.Ways.{judge_square, judge_rest}
use Rattle.cs_solve_cs.proofs.solve_cs.judge.Goals as goal

pub returns-then-nrows-ncols : goal.returns-then-nrows-ncols
returns-then-nrows-ncols c = judge_square _ _ c.check.ensures c.check_vector.ensures c.lower-refused.ensures c.if-nrows-ncols.true c.lower.ensures

pub returns : goal.returns
returns c = judge_rest _ _ c.check.ensures c.check_vector.ensures c.lower-refused.ensures c.if-nrows-ncols.false
