-- `put_refusal` meets its contract. Assumes nothing.
use mathlib.Core.Path.{refl}
use Rattle.job_answer.proofs.Putting.{refusal-put}
use Rattle.job_answer.proofs.put.put_refusal.Goals as goal

pub returns : goal.returns
returns c = (refl, refusal-put c.args.number c.args.column c.requires c.put.ensures c.put-2.ensures c.put-3.ensures)
