-- `judge` meets its contract. Assumes nothing.
use Rattle.cs_cholesky.proofs.Judging.{judge_2, judge_rest}
use Rattle.cs_cholesky.proofs.judge.judge.Goals as goal

pub returns-then-v-pattern : goal.returns-then-v-pattern
returns-then-v-pattern c = judge_2 _ _ _ _ c.if-v-pattern.true c.check_square.ensures c.lower.ensures

pub returns : goal.returns
returns c = (judge_rest _ _ _ _ c.if-v-pattern.false c.compare.ensures.0, c.compare.ensures.1)
