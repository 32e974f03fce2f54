-- `right_fault` meets its contract. Assumes nothing.
use Rattle.job_file.proofs.Judging.{rh_unfilled, rh_row, rh_low, rh_sound}
use Rattle.job_file.proofs.fault.right_fault.Goals as goal

pub returns-then-not-is_filled : goal.returns-then-not-is_filled
returns-then-not-is_filled c = λ bits. rh_unfilled c.args.h c.is_filled.ensures c.args.row bits c.if-not-is_filled.true

pub returns-then-row-h : goal.returns-then-row-h
returns-then-row-h c = λ bits. rh_row c.args.h c.is_filled.ensures c.args.row bits c.if-not-is_filled.false c.if-row-h.true

pub returns-then-row-h-2 : goal.returns-then-row-h-2
returns-then-row-h-2 c = λ bits. rh_low c.args.h c.is_filled.ensures c.args.row bits c.if-not-is_filled.false c.if-row-h.false c.if-row-h-2.true

pub returns : goal.returns
returns c = λ bits. rh_sound c.args.h c.is_filled.ensures c.args.row bits c.if-not-is_filled.false c.if-row-h.false c.if-row-h-2.false
