-- `fault` meets its contract. Assumes nothing.
use mathlib.Core.List.{[]}
use Rattle.job_file.specs.Arrays.{arrays}
use Rattle.job_file.proofs.Judging.{by_kind}
use Rattle.job_file.proofs.fault.fault.Goals as goal

pub returns-in-Size : goal.returns-in-Size
returns-in-Size c = by_kind c.args.h (arrays c.args.rows.now c.args.columns.now [] []) c.in-Size.is (c.size_fault.ensures.is _ c.requires.0)

pub returns-in-Right : goal.returns-in-Right
returns-in-Right c = by_kind c.args.h (arrays c.args.rows.now c.args.columns.now [] []) c.in-Right.is ((c.right_fault.ensures _).is _ c.requires.0)

pub returns-in-Go : goal.returns-in-Go
returns-in-Go c = by_kind c.args.h (arrays c.args.rows.now c.args.columns.now [] []) c.in-Go.is (c.go_fault.ensures.is _ c.requires.0)
