-- `job` meets its contract. Assumes nothing.
use Rattle.job.proofs.Answering.{job_refused, job_done}
use Rattle.job.proofs.job.job.Goals as goal

pub returns-in-Err : goal.returns-in-Err
returns-in-Err c = job_refused c.args.s.now _ c.in-Err.fault _ c.in-Err.ensures _ c.args.out.now c.write_answer.result _ c.number.ensures
    c.write_answer.ensures

pub returns : goal.returns
returns c = job_done c.args.s.now _ c.in-Ok.sound _ c.in-Ok.ensures c.wide-n.result c.wide-count.result
    c.wide-n.ensures.0 c.wide-count.ensures.0 c.work-r.ensures c.work-r.auto.b c.args.out.now c.write_answer-2.result _
    c.write_answer-2.ensures
