-- `records` meets its contract. Assumes nothing.
use native.Mathlib.Omega.{arith}
use Rattle.job_file.proofs.Walking.{within_file}
use Rattle.job_file.proofs.Going.{going_start, going_entries, going_sound, going_stop, going_turn, going_short, going_done}
use Rattle.job_file.proofs.read.records.Goals as goal

pub loop-at-init : goal.loop-at-init
loop-at-init c = going_start _ _ c.requires

pub record-requires : goal.record-requires
record-requires c = let e = going_entries c.loop-at.invariant in (c.loop-at.invariant.within, e.0, e.1)

pub returns-in-Err : goal.returns-in-Err
returns-in-Err c = going_stop c.loop-at.invariant c.in-Err.refusal c.loop-at-test.true c.in-Err.ensures.0

pub keep-h-requires : goal.keep-h-requires
keep-h-requires c = (c.loop-at.invariant.fits, going_sound c.loop-at.invariant c.in-Ok.ensures)

pub overflow_add-at : goal.overflow_add-at
overflow_add-at c = omega (
  arith,
  (within_file c.args.s.now c.loop-at.at c.loop-at-test.true c.in-Ok.ensures.1 c.size_of-at.ensures).0,
  c.well_formed.0,
)

pub loop-at-smaller : goal.loop-at-smaller
loop-at-smaller c = let w = within_file c.args.s.now c.loop-at.at c.loop-at-test.true c.in-Ok.ensures.1 c.size_of-at.ensures in
    omega (arith, w.0, w.1)

pub loop-at-preserved : goal.loop-at-preserved
loop-at-preserved c = going_turn c.loop-at.invariant c.loop-at-test.true c.in-Ok.ensures.1
    (going_sound c.loop-at.invariant c.in-Ok.ensures) c.keep-h.ensures c.size_of-at.ensures

pub returns-in_default : goal.returns-in_default
returns-in_default c = going_short c.loop-at.invariant c.loop-at-test.false c.in_default.not-Ended

pub returns : goal.returns
returns c = going_done c.loop-at.invariant c.loop-at-test.false c.in-Ended.is
