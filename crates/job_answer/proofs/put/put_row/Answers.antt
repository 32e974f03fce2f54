-- `put_row` meets its contract. Assumes nothing.
use mathlib.Core.Path.{refl}
use Rattle.job_answer.proofs.Putting.{row_put}
use Rattle.job_answer.proofs.put.put_row.Goals as goal

pub returns : goal.returns
returns c = (refl, row_put c.args.row c.args.x c.requires c.put.ensures c.put-2.ensures c.bits_of.ensures c.put-3.ensures)
