-- `engine_of` meets its contract. Assumes nothing.
use native.Mathlib.Omega.{arith}
use Rattle.job_file.proofs.Telling.{no_engine}
use Rattle.job_file.proofs.record.engine_of.Goals as goal

pub returns-in_default : goal.returns-in_default
returns-in_default c = no_engine c.args.byte (grind arith) (grind arith)
