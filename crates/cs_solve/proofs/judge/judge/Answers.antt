-- `judge`: each way out is one of proofs/Ways.antt. Assumes nothing.
use Rattle.cs_solve.proofs.Ways.{judge_2, judge_rest}
use Rattle.cs_solve.proofs.judge.judge.Goals as goal

pub returns-then-nrows-ncols : goal.returns-then-nrows-ncols
returns-then-nrows-ncols c = judge_2 _ _ c.check-refused.ensures c.then-nrows-ncols.either c.lower.ensures

pub returns : goal.returns
returns c = judge_rest _ _ c.check-refused.ensures c.if-nrows-ncols.false c.if-m-ncols.false
