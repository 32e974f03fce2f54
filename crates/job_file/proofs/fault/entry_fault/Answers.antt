-- `entry_fault` meets its contract. Assumes nothing.
use Rattle.std.proofs.Common.{rules}
use mathlib.Core.List.{[]}
use Rattle.job_file.specs.Arrays.{arrays}
use Rattle.job_file.proofs.Judging.{en_late, en_over, en_outside, en_again, en_sound}
use Rattle.job_file.proofs.fault.entry_fault.Goals as goal
use Rattle.job_file.proofs.fault.entry_fault.Goals.{then-ne-via-then-ne, then-ne-via-else-ne+then-h}

pub returns-then-ne : goal.returns-then-ne
returns-then-ne c =
    let l = arrays c.args.rows.now c.args.columns.now [] [] in
    elim c.then-ne.branch [
      | then-ne-via-then-ne w ↦ λ bits. en_late c.args.h l c.requires.0 _ _ bits (search rules)
      | then-ne-via-else-ne+then-h w ↦ λ bits. en_over c.args.h l c.requires.0 _ _ bits (search rules) w.if-h.true
    ]

pub returns-then-row-h : goal.returns-then-row-h
returns-then-row-h c = λ bits. en_outside c.args.h (arrays c.args.rows.now c.args.columns.now [] []) c.requires.0 _ _ bits (search rules) c.if-h.false
    c.then-row-h.either

pub returns-then-is_given : goal.returns-then-is_given
returns-then-is_given c = λ bits. en_again c.args.h (arrays c.args.rows.now c.args.columns.now [] []) c.requires.0 _ _ bits (search rules)
    c.if-h.false c.if-row-h.false c.if-column-h.false c.wide-given.ensures.0 c.is_given.ensures c.if-is_given.true

pub returns : goal.returns
returns c = λ bits. en_sound c.args.h (arrays c.args.rows.now c.args.columns.now [] []) c.requires.0 _ _ bits (search rules) c.if-h.false
    c.if-row-h.false c.if-column-h.false c.wide-given.ensures.0 c.is_given.ensures c.if-is_given.false
