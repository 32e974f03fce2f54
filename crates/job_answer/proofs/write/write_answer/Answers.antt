-- `write_answer` meets its contract. Assumes nothing.
use Rattle.job_answer.proofs.Writing.{refusal-short, refusal-room, rows_short, rows-room}
use Rattle.job_answer.proofs.write.write_answer.Goals as goal

pub returns-then-out-lt7 : goal.returns-then-out-lt7
returns-then-out-lt7 c = refusal-short c.args.number c.args.column c.args.x.now c.if-number-ne0.true c.args.out.now c.if-out-lt7.true

pub returns-then-number-ne0 : goal.returns-then-number-ne0
returns-then-number-ne0 c = refusal-room c.args.number c.args.column c.args.x.now c.if-number-ne0.true c.args.out.now c.from.ensures
    c.from-then-number-ne0.ensures c.if-out-lt7.false c.put_refusal.ensures.1

pub returns-then-out-x : goal.returns-then-out-x
returns-then-out-x c = rows_short c.args.number c.args.column c.args.x.now c.if-number-ne0.false c.args.out.now c.if-out-x.true

pub returns : goal.returns
returns c = rows-room c.args.number c.args.column c.args.x.now c.if-number-ne0.false c.args.out.now c.if-out-x.false c.put_rows.ensures.1
