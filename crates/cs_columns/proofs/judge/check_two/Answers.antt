-- `check_two`: each way out is one of proofs/Judging.antt. Assumes nothing.
use Rattle.cs_columns.proofs.Judging.{two-apart, two_alike}
use Rattle.cs_columns.proofs.judge.check_two.Goals as goal

pub returns-then-differ : goal.returns-then-differ
returns-then-differ c = two-apart _ _ c.check-first.ensures c.check-second.ensures c.lower-refused.ensures c.if-differ.true c.lower.ensures

pub returns : goal.returns
returns c = two_alike _ _ c.check-first.ensures c.check-second.ensures c.lower-refused.ensures c.if-differ.false
