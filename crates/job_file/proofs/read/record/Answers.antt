-- `record` meets its contract. Assumes nothing.
use mathlib.Core.Path.{sym}
use Rattle.std.proofs.Common.{[]}
use Rattle.job_file.specs.Arrays.{arrays}
use Rattle.job_file.specs.Keeping.{held_by}
use Rattle.job_file.proofs.Judging.{malformed_is}
use Rattle.job_file.proofs.read.record.Goals as goal

pub returns-in_default : goal.returns-in_default
returns-in_default c = (sym (malformed_is (held_by c.args.h (arrays c.args.rows.now c.args.columns.now [] [])) _ c.in_default.ensures), tt)
