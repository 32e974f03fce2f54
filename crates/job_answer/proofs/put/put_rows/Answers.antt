-- `put_rows` meets its contract. Assumes nothing.
use native.Mathlib.Omega.{arith}
use Rattle.job_answer.proofs.Putting.{rows_start, rows-turn, rows-done}
use Rattle.job_answer.proofs.put.put_rows.Goals as goal

pub loop-row-init : goal.loop-row-init
loop-row-init c = rows_start _ _

pub put_row-at-requires : goal.put_row-at-requires
put_row-at-requires c = omega arith

pub loop-row-preserved : goal.loop-row-preserved
loop-row-preserved c = rows-turn _ c.loop-row.invariant c.loop-row-test.true c.put_row-at.ensures

pub returns : goal.returns
returns c = rows-done (omega arith) (omega arith) c.loop-row.invariant
