-- `put_rows` meets its contract. Assumes nothing.
use Rattle.job_answer.proofs.Putting.{Rows}
use Rattle.job_answer.proofs.put.put_rows.Given as goal

abbrev pub invariant-loop-row : goal.invariant-loop-row
invariant-loop-row l = Rows l.initial.out l.x l.out l.at l.row
