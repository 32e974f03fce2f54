-- `keep` meets its contract. Assumes nothing.
use Rattle.job_file.specs.Arrays.{arrays}
use native.Mathlib.Omega.{arith}
use Rattle.job_file.proofs.Laying.{kept-size, entry_fits, kept_entry, right-fits, kept-right, kept_go}
use Rattle.job_file.proofs.keep.keep.Goals as goal

pub bounds-rows-e : goal.bounds-rows-e
bounds-rows-e c = (entry_fits c.args.h (arrays c.args.rows.now c.args.columns.now c.args.values.now c.args.right.now) c.requires.0 c.args.r
    c.requires.1 c.in-Entry.is c.wide-e.ensures.0).0

pub bounds-columns-e : goal.bounds-columns-e
bounds-columns-e c = (entry_fits c.args.h (arrays c.args.rows.now c.args.columns.now c.args.values.now c.args.right.now) c.requires.0 c.args.r
    c.requires.1 c.in-Entry.is c.wide-e.ensures.0).1

pub bounds-values-e : goal.bounds-values-e
bounds-values-e c = (entry_fits c.args.h (arrays c.args.rows.now c.args.columns.now c.args.values.now c.args.right.now) c.requires.0 c.args.r
    c.requires.1 c.in-Entry.is c.wide-e.ensures.0).2

pub bounds-right-i : goal.bounds-right-i
bounds-right-i c = (right-fits c.args.h (arrays c.args.rows.now c.args.columns.now c.args.values.now c.args.right.now) c.requires.0 c.args.r
    c.requires.1 c.in-Right.is c.wide-i.ensures.0).0

pub overflow_add-result-in-Right : goal.overflow_add-result-in-Right
overflow_add-result-in-Right c = omega (
  arith,
  (right-fits c.args.h (arrays c.args.rows.now c.args.columns.now c.args.values.now c.args.right.now) c.requires.0 c.args.r c.requires.1
      c.in-Right.is c.wide-i.ensures.0).1,
)

pub returns-in-Size : goal.returns-in-Size
returns-in-Size c = kept-size c.args.h (arrays c.args.rows.now c.args.columns.now c.args.values.now c.args.right.now) c.requires.0 c.args.r
    c.requires.1 c.in-Size.is c.wide.ensures.0 c.fill.ensures

pub returns-in-Entry : goal.returns-in-Entry
returns-in-Entry c = kept_entry c.args.h (arrays c.args.rows.now c.args.columns.now c.args.values.now c.args.right.now) c.requires.0 c.args.r
    c.requires.1 c.in-Entry.is c.wide-e.ensures.0 c.of_bits.ensures

pub returns-in-Right : goal.returns-in-Right
returns-in-Right c = kept-right c.args.h (arrays c.args.rows.now c.args.columns.now c.args.values.now c.args.right.now) c.requires.0 c.args.r
    c.requires.1 c.in-Right.is c.wide-i.ensures.0 c.of_bits-in-Right.ensures

pub returns-in-Go : goal.returns-in-Go
returns-in-Go c = kept_go c.args.h (arrays c.args.rows.now c.args.columns.now c.args.values.now c.args.right.now) c.requires.0 c.args.r c.requires.1
    c.in-Go.is
