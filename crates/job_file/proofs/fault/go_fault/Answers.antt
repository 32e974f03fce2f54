-- `go_fault` meets its contract. Assumes nothing.
use Rattle.job_file.proofs.Judging.{go_unfilled, go_sound}
use Rattle.job_file.proofs.fault.go_fault.Goals as goal

pub returns-then-not-is_filled : goal.returns-then-not-is_filled
returns-then-not-is_filled c = go_unfilled c.args.h c.is_filled.ensures c.args.engine c.if-not-is_filled.true

pub returns : goal.returns
returns c = go_sound c.args.h c.is_filled.ensures c.args.engine c.if-not-is_filled.false
