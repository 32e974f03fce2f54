-- `size_fault` meets its contract. Assumes nothing.
use Rattle.std.proofs.Common.{rules}
use Rattle.job_file.proofs.Judging.{sz_late, sz_over, sz_sound}
use Rattle.job_file.proofs.fault.size_fault.Goals as goal

pub returns-then-ne : goal.returns-then-ne
returns-then-ne c = sz_late _ _ _ (search rules)

pub returns-then-n-gt256 : goal.returns-then-n-gt256
returns-then-n-gt256 c = sz_over c.args.h _ _ (search rules) c.then-n-gt256.either

pub returns : goal.returns
returns c = sz_sound c.args.h _ _ (search rules) c.if-n-gt256.false c.if-count-gt2048.false
